-- What is read of a message of either form, and when each refusal comes.
use Rattle.std.specs.Prelude.{◌≡◌, ℕ, Bool, ◌<◌, ◌≤◌, ◌⊎◌, List, [], ◌∷◌, ◌++◌, length, take, Option, Some, Result, Ok, Err, ⊤}
use Rattle.std.specs.Io.KnownBytes.{Consumes, IsAtEnd}
use Rattle.httparse.specs.Grammar.{lf, print_end}
use Rattle.http_text.specs.declared.fault.ReadFault.{ReadFault}
use Rattle.http_text.specs.declared.fault.ReadFault.TheVariants.{Malformed, HostMissingOrRepeated, LengthMissing, BodyTooLong, HeadTooLong, TransferCoding, Expectation, EndedEarly, ReadFailed, OutOfMemory, TurnsExhausted}
use Rattle.http_text.specs.Counts.{Reading, HasRisen, HasReached, turn_limit}
use Rattle.http_text.specs.Message.{Head, Message, head_limit, field_limit}
use Rattle.http_text.specs.Forms.{Form, IsHead, IsMessage, IsAcceptable}

-- a fault of the stream, or out of memory, whatever the bytes are
abbrev pub IsStreamFault : ReadFault → Type 0
IsStreamFault (Malformed is_head) = ⊥
IsStreamFault (HostMissingOrRepeated is_head) = ⊥
IsStreamFault (LengthMissing is_head) = ⊥
IsStreamFault (BodyTooLong is_head) = ⊥
IsStreamFault (HeadTooLong is_head) = ⊥
IsStreamFault (TransferCoding is_head) = ⊥
IsStreamFault (Expectation is_head) = ⊥
IsStreamFault EndedEarly = ⊥
IsStreamFault ReadFailed = ⊤
IsStreamFault OutOfMemory = ⊤
IsStreamFault TurnsExhausted = ⊤

-- the message was read, and what follows it is left; or the stream had a fault
abbrev pub Finds : Message → List ℕ → Option (List ℕ) → Result Message ReadFault → Type 0
Finds m rest left (Ok found) = (found ≡ m) × (left ≡ Some rest)
Finds m rest left (Err fault) = IsStreamFault fault

-- the result is this refusal, or a fault of the stream
abbrev pub Answers : ReadFault → Result Message ReadFault → Type 0
Answers fault (Ok found) = ⊥
Answers fault (Err answered) = (answered ≡ fault) ⊎ IsStreamFault answered

-- the head is too long, whether or not its method is HEAD; or the stream had a fault
abbrev pub AnswersLong : Result Message ReadFault → Type 0
AnswersLong r = (is_head : Bool) × Answers (HeadTooLong is_head) r

-- a failure was counted, or no turn was left; otherwise no read failed
abbrev pub EndsReading : Reading → Reading → ReadFault → Type 0
EndsReading old new ReadFailed = HasRisen old.failures new.failures
EndsReading old new TurnsExhausted = HasReached turn_limit old.calls new.calls × (new.failures ≡ old.failures)
EndsReading old new fault = new.failures ≡ old.failures

module _ (F : Form) where
  -- what some bytes contain, and what they may become, by httparse's grammar for either form

  -- no prefix of the bytes is a head
  abbrev pub HasNone : List ℕ → Type 0
  HasNone bytes = (tree : F.Tree) (rest : List ℕ) → ¬ (F.Reads bytes tree rest)

  -- no bytes can follow that make a prefix a head
  abbrev pub NeverHas : List ℕ → Type 0
  NeverHas bytes = (more : List ℕ) → HasNone (bytes ++ more)

  -- some bytes can complete them to a head, or that isn't decided yet
  abbrev pub MayBecome : List ℕ → Type 0
  MayBecome bytes = ((more : List ℕ) × (tree : F.Tree) × F.Reads (bytes ++ more) tree []) ⊎ F.IsLate bytes

  -- whatever bytes follow, a head at the front has more than `room` field lines
  abbrev pub Overflows : ℕ → List ℕ → Type 0
  Overflows room bytes = (more : List ℕ) (tree : F.Tree) (rest : List ℕ)
      → F.Reads (bytes ++ more) tree rest → room < length (F.lines tree)

  -- a prefix of the bytes, ended by an empty line, is a head with more than `room` field lines
  abbrev pub Exceeds : ℕ → List ℕ → Type 0
  Exceeds room bytes =
      (front : List ℕ) × (rest : List ℕ) × (bytes ≡ front ++ rest)
      × (tree : F.Tree) × F.Reads (front ++ print_end lf) tree [] × (room < length (F.lines tree))

  -- the bytes contain no whole head, and more bytes may complete one (or the bytes end in a target)
  pub record IsUndecided (bytes : List ℕ) : Type 0 where
    pub none : HasNone bytes
    pub open_end : MayBecome bytes

  -- nothing was decided before the last byte
  abbrev pub IsUndecidedBefore : List ℕ → Type 0
  IsUndecidedBefore bytes = (front : List ℕ) (last : ℕ) → bytes ≡ front ++ last ∷ [] → IsUndecided front

  -- no further bytes can complete a head, and the last byte decides that
  pub record IsMalformedHead (bytes : List ℕ) : Type 0 where
    pub never : NeverHas bytes
    pub before : IsUndecidedBefore bytes
    pub size : length bytes ≤ head_limit

  -- as many bytes as a head may have, without a whole head
  pub record IsHeadAtLimit (bytes : List ℕ) : Type 0 where
    pub undecided : IsUndecided bytes
    pub length_is : length bytes ≡ head_limit

  -- the last byte ends one field line more than a head may have
  pub record HasTooManyFields (bytes : List ℕ) : Type 0 where
    pub exceeds : Exceeds field_limit bytes
    pub overflows : Overflows field_limit bytes
    pub before : IsUndecidedBefore bytes
    pub size : length bytes ≤ head_limit

  -- a whole head that is refused with this fault
  abbrev pub IsRefusedHead : List ℕ → ReadFault → Type 0
  IsRefusedHead bytes fault = (head : Head) × IsHead F bytes head × (F.judge head ≡ Err fault)

  -- an accepted head, and less than the body that it states
  pub record IsPartOfBody (bytes : List ℕ) : Type 0 where
    pub front : List ℕ
    pub part : List ℕ
    pub head : Head
    pub stated : ℕ
    pub is_head : IsHead F front head
    pub split : bytes ≡ front ++ part
    pub accepted : F.judge head ≡ Ok stated
    pub short : length part < stated

  -- neither a message nor a refusal
  abbrev pub IsUnfinished : List ℕ → Type 0
  IsUnfinished bytes = (IsUndecided bytes × (length bytes < head_limit)) ⊎ IsPartOfBody bytes

  -- the bytes that were taken are refused with this fault, while these are left
  abbrev pub Refuses : List ℕ → Option (List ℕ) → ReadFault → Type 0
  Refuses bytes left (Malformed is_head) =
      (IsMalformedHead bytes × (is_head ≡ F.has_method_head bytes)) ⊎ IsRefusedHead bytes (Malformed is_head)
  Refuses bytes left (HostMissingOrRepeated is_head) = IsRefusedHead bytes (HostMissingOrRepeated is_head)
  Refuses bytes left (LengthMissing is_head) = IsRefusedHead bytes (LengthMissing is_head)
  Refuses bytes left (BodyTooLong is_head) = IsRefusedHead bytes (BodyTooLong is_head)
  Refuses bytes left (HeadTooLong is_head) =
      (IsHeadAtLimit bytes ⊎ HasTooManyFields bytes) × (is_head ≡ F.has_method_head bytes)
  Refuses bytes left (TransferCoding is_head) = IsRefusedHead bytes (TransferCoding is_head)
  Refuses bytes left (Expectation is_head) = IsRefusedHead bytes (Expectation is_head)
  Refuses bytes left EndedEarly = IsUnfinished bytes × IsAtEnd left
  Refuses bytes left ReadFailed = IsUnfinished bytes
  Refuses bytes left OutOfMemory = ⊤
  Refuses bytes left TurnsExhausted = IsUnfinished bytes

  -- exactly the bytes of an accepted message were taken
  abbrev pub TakesMessage : Option (List ℕ) → Option (List ℕ) → Message → Type 0
  TakesMessage old new m = (bytes : List ℕ) × Consumes old new bytes × IsMessage F bytes m × IsAcceptable F m

  -- the bytes that were taken are refused with this fault
  abbrev pub TakesRefused : Option (List ℕ) → Option (List ℕ) → ReadFault → Type 0
  TakesRefused old new fault = (bytes : List ℕ) × Consumes old new bytes × Refuses bytes new fault

  -- an accepted message at the front is read
  abbrev pub FindsMessage : Option (List ℕ) → Option (List ℕ) → Result Message ReadFault → Type 0
  FindsMessage old new r =
      (bytes rest : List ℕ) (m : Message) → old ≡ Some (bytes ++ rest) → IsMessage F bytes m → IsAcceptable F m
      → Finds m rest new r

  -- a refused head at the front is refused, whatever follows
  abbrev pub FindsRefusedHead : Option (List ℕ) → Result Message ReadFault → Type 0
  FindsRefusedHead old r =
      (front rest : List ℕ) (head : Head) (fault : ReadFault) → old ≡ Some (front ++ rest) → IsHead F front head
      → F.judge head ≡ Err fault → Answers fault r

  -- a part of a head that more bytes complete
  pub record IsPartOfHead (bytes : List ℕ) : Type 0 where
    pub more : List ℕ
    pub head : Head
    pub is_head : IsHead F (bytes ++ more) head
    pub short : 0 < length more

  -- there is only a part of a request
  abbrev pub FindsEnd : Option (List ℕ) → Result Message ReadFault → Type 0
  FindsEnd old r = (bytes : List ℕ) → old ≡ Some bytes → IsPartOfHead bytes ⊎ IsPartOfBody bytes → Answers EndedEarly r

  -- as many bytes as a head may have, which are a part of a head with an allowed number of field lines
  pub record IsLongPart (bytes : List ℕ) : Type 0 where
    pub more : List ℕ
    pub tree : F.Tree
    pub reads : F.Reads (bytes ++ more) tree []
    pub short : 0 < length more
    pub fields : length (F.lines tree) ≤ field_limit
    pub length_is : length bytes ≡ head_limit

  -- a whole head with too many field lines
  abbrev pub HasLongSection : List ℕ → Type 0
  HasLongSection bytes = (tree : F.Tree) × F.Reads bytes tree [] × (field_limit < length (F.lines tree))

  -- a head past a limit is too long
  abbrev pub FindsLong : Option (List ℕ) → Result Message ReadFault → Type 0
  FindsLong old r =
      (bytes rest : List ℕ) → old ≡ Some (bytes ++ rest) → IsLongPart bytes ⊎ HasLongSection bytes
      → AnswersLong r

  -- the results that a malformed head may have: in a target, the malformed byte may be noticed only at the target's
  -- end, and among field lines beyond the limit not at all
  abbrev pub AnswersMalformed : List ℕ → Result Message ReadFault → Type 0
  AnswersMalformed all (Ok found) = ⊥
  AnswersMalformed all (Err (Malformed is_head)) = ⊤
  AnswersMalformed all (Err (HostMissingOrRepeated is_head)) = ⊥
  AnswersMalformed all (Err (LengthMissing is_head)) = ⊥
  AnswersMalformed all (Err (BodyTooLong is_head)) = ⊥
  AnswersMalformed all (Err (HeadTooLong is_head)) = F.IsLate (take head_limit all) ⊎ Exceeds field_limit all
  AnswersMalformed all (Err (TransferCoding is_head)) = ⊥
  AnswersMalformed all (Err (Expectation is_head)) = ⊥
  AnswersMalformed all (Err EndedEarly) = F.IsLate all
  AnswersMalformed all (Err ReadFailed) = ⊤
  AnswersMalformed all (Err OutOfMemory) = ⊤
  AnswersMalformed all (Err TurnsExhausted) = ⊤

  -- bytes that no further bytes complete to a head are malformed
  abbrev pub FindsMalformed : Option (List ℕ) → Result Message ReadFault → Type 0
  FindsMalformed old r =
      (bytes rest : List ℕ) → old ≡ Some (bytes ++ rest) → length bytes ≤ head_limit → NeverHas bytes
      → AnswersMalformed (bytes ++ rest) r

  -- no proper prefix of a message is a message, and bytes are at most one message
  abbrev pub AreApart : Type 0
  AreApart =
      (bytes more : List ℕ) (m n : Message) → IsMessage F bytes m → IsMessage F (bytes ++ more) n
      → (m ≡ n) × (more ≡ [])
