-- Each step of a trace over bytes is at most one step of a trace of requests and answers, since what was said is read as it was said.
use Rattle.http_text.specs.Counts.{fresh_reading}
use Rattle.std.proofs.Common.{arith, ◌≡◌, ℕ, Bool, false, List, [], ◌∷◌, ◌++◌, Option, Some, None, Result, Ok, Err, refl, ap, sym, subst, ◌∙◌, inl, inr}
use Rattle.std.specs.FinMap.{keys}
use Rattle.std.specs.Prelude.{◌⊎◌, IfOk}
use Rattle.scim_key.specs.Bases.{IsBase}
use Rattle.scim_resource.specs.Rows.{StoredRecord}
use Rattle.scim_message.specs.Refusals.{ErrorRecord, error_of}
use Rattle.scim_message.specs.declared.answers.BodyFault.{BodyFault}
use Rattle.scim_message.specs.declared.messages.Answer.{Answer}
use Rattle.scim_message.specs.declared.messages.Answer.TheVariants.{Error}
use Rattle.scim_message.specs.declared.messages.Request.{Request}
use Rattle.scim_message.specs.declared.refusals.Refusal.{Refusal}
use Rattle.scim_message.specs.declared.refusals.Refusal.TheVariants as refusals
use Rattle.provider_core.specs.Outcomes.{outcome, changed_rows}
use Rattle.provider_core.specs.Stories.{Entry}
use Rattle.provider_core.specs.declared.registry.Registry.{Ghosts as Registries}
use Rattle.http_text.specs.declared.fault.ReadFault.{ReadFault}
use Rattle.http_text.specs.declared.fault.ReadFault.TheVariants as reads
use Rattle.http_text.specs.Forms.{IsRequestMessage, IsResponseMessage}
use Rattle.http_text.specs.Judging.{is_head}
use Rattle.http_text.specs.Message.{Message}
use Rattle.scim_http.specs.Laws.{fixed_error}
use Rattle.scim_http.specs.Meaning.{Asks}
use Rattle.scim_http.specs.Replies.{ReplyRecord, answer_text, fixed_reply, fixed_text}
use Rattle.scim_http.proofs.MeaningLaws.{one_meaning}
use Rattle.scim_http.proofs.ReplyLaws.{replies_are_lawful}
use Rattle.scim_client.specs.Answers.{AnswersSo, answer_in}
use Rattle.scim_client.specs.Exchanges.{Reads}
use Rattle.scim_client.specs.Requests.{text_of}
use Rattle.scim_client.specs.Spelling.{SpellsRequest}
use Rattle.connection.specs.Reactions.{reaction_to}
use Rattle.connection.specs.Serving.{AnswersFault, AnswersMeaning, AnswersMessage, AnswersRequest, GivesUp, HasReply, IsUnharmed, LeavesRows, Replies, RepliesTo, reply_text}
use Rattle.journal_core.specs.Entries.{EntryMap}
use Rattle.journal_core.specs.declared.journals.Journal.{Ghosts as Journals}
use Rattle.connector_core.specs.Book.{doubted}
use Rattle.connector_core.specs.Asking.{asking}
use Rattle.connector_core.specs.Changing.{history_after, judged, taking}
use Rattle.connector_core.specs.History.{History}
use Rattle.connector_core.specs.Learning.{after_learning, learn}
use Rattle.connector_core.specs.Maps.{BookMap, book_of}
use Rattle.connector_core.specs.State.{AreOf, IsOpened, State as Connector}
use Rattle.connector_core.specs.declared.learning.Learnt.{Learnt}
use Rattle.connector_core.specs.declared.learning.LearnFault.{LearnFault}
use Rattle.provisioning.specs.Exchanges.{Becomes, Came, answered, lost, answer_in as answer_of}
use Rattle.provisioning.specs.Services.{keeping_at}
use Rattle.world_model.specs.World.{World, Asked, Answered}
use Rattle.world_model.proofs.Durable.{AskedFairly}
use Rattle.world_model.specs.Safe.{Has, IsPrefixOf}
use Rattle.world_sim.specs.Fitting.{IsFormed}
use Rattle.promise.specs.Traces.{CameFrom, Finds, Hears, IsAt, IsAtFront, LeavesBook, Serves, State, Step, Step.offers, Step.asks, Step.serves, Step.hears, Step.doubts, Step.reopens, Step.rests, Written, start}
use Rattle.promise.specs.Typed as typed
use Rattle.promise.proofs.Bytes.{one_request_message, one_response_message, part_of_part, without_body}
use Rattle.promise.proofs.Errors.{IsReadable, error_is_read, fixed_readable, refusal_readable}
use Rattle.promise.proofs.Lists.{each_more, has_last, has_more}
use Rattle.promise.proofs.Typed.{other_error}

-- ---- what was written, as answers

-- these bytes are a first part of an answer that was given, or of another error, or all of it
pub data Says (base : List ℕ) (replies : List typed.Reply) (request : Request) (bytes : List ℕ) : Type 0 where
  by_answer : (answer : Answer) → Has replies (request, answer) → IsFormed base (Answered request answer) → IsPrefixOf bytes (answer_text base false answer) → Says base replies request bytes
  by_error : (error : ErrorRecord) → typed.IsOtherError error → IsReadable error → IsPrefixOf bytes (answer_text base false (Error error)) → Says base replies request bytes

says_more : (base : List ℕ) (replies more : List typed.Reply) (request : Request) (bytes : List ℕ) → Says base replies request bytes → Says base (replies ++ more) request bytes
says_more base replies more request bytes (by_answer answer has formed part) = by_answer answer (has_more replies more (request, answer) has) formed part
says_more base replies more request bytes (by_error error other readable part) = by_error error other readable part

-- a first part of that says the same
says_part : (base : List ℕ) (replies : List typed.Reply) (request : Request) (bytes whole : List ℕ) → IsPrefixOf bytes whole → Says base replies request whole → Says base replies request bytes
says_part base replies request bytes whole p (by_answer answer has formed part) = by_answer answer has formed (part_of_part bytes whole _ p part)
says_part base replies request bytes whole p (by_error error other readable part) = by_error error other readable (part_of_part bytes whole _ p part)

fixed_other : typed.IsOtherError fixed_error
fixed_other = record { taken = λ e. absurd (omega (arith, e)); stale = λ e. absurd (omega (arith, e)) }

says_fixed : (base : List ℕ) (replies : List typed.Reply) (request : Request) (bytes : List ℕ) → IsPrefixOf bytes fixed_text → Says base replies request bytes
says_fixed base replies request bytes part = by_error fixed_error fixed_other fixed_readable (subst (IsPrefixOf bytes) (replies_are_lawful.fixed base) part)

says_nothing : (base : List ℕ) (replies : List typed.Reply) (request : Request) → Says base replies request []
says_nothing base replies request = says_fixed base replies request [] (fixed_text, refl)

-- a stop leaves nothing but the rows of a faithful store
abbrev pub Settles : {R : Type 0} → Registries R → Type 0
Settles {R} g = (s : R) (found : List StoredRecord) → g.is_faithful s → g.may_hold s found → found ≡ g.rows s

-- ---- what a connection did

module _ {R : Type 0} (g : Registries R) (settled : Settles g) (base : List ℕ) (before after : R) (rows : List StoredRecord) (finds : Finds g before after rows) where
  abbrev Carries_out : Request → Type 0
  Carries_out request = rows ≡ changed_rows (g.rows before) (outcome (g.rows before) request).change

  -- what the next opening finds after this message and this reply: the rows as they were, or those after what the message asks for
  pub data Did (m : Message) (reply : ReplyRecord) : Type 0 where
    gave_up : reply ≡ fixed_reply → rows ≡ g.rows before → Did m reply
    refused : (refusal : Refusal) → Asks m (Err refusal) → rows ≡ g.rows before → Did m reply
    answered_it : (request : Request) → Asks m (Ok request) → g.is_faithful after → AnswersRequest (g.is_faithful after) base (g.rows before) (g.rows after) (is_head m.head) request reply
        → Carries_out request → Did m reply
    stopped : (request : Request) → Asks m (Ok request) → reply ≡ fixed_reply → Carries_out request → Did m reply

  meant_so : (m : Message) (reply : ReplyRecord) (meaning : Result Request Refusal) → Asks m meaning → g.is_faithful after → rows ≡ g.rows after
      → AnswersMeaning (g.is_faithful after) base (g.rows before) (g.rows after) (is_head m.head) meaning reply → Did m reply
  meant_so m reply (Ok request) means faithful kept is = answered_it request means faithful is (kept ∙ is.rows faithful)
  meant_so m reply (Err refusal) means faithful kept is = refused refusal means (kept ∙ is.rows)

  pub did : (m : Message) (reply : ReplyRecord) → LeavesRows g before after (Ok m)
      → (AnswersMessage (g.is_faithful after) base (g.rows before) (g.rows after) m reply × IsUnharmed g before after) ⊎ GivesUp (g.is_faithful after) (g.rows before) (g.rows after) reply → Did m reply
  did m reply leaves says = elim finds [
    | inl kept ↦ elim says [
      | inl answers ↦ meant_so m reply answers.0.asked answers.0.asked_is kept.0 kept.1 answers.0.answer
      | inr gives_up ↦ gave_up gives_up.reply_is (kept.1 ∙ gives_up.rows kept.0)
    ]
    | inr found ↦ elim says [
      | inl answers ↦
          let still = answers.1.stays_open found.1 found.0 in
          meant_so m reply answers.0.asked answers.0.asked_is still (settled after rows still found.2) answers.0.answer
      | inr gives_up ↦ elim (leaves.stop found.1 rows found.2) [
        | inl held ↦ gave_up gives_up.reply_is (settled before rows found.0 held)
        | inr after_it ↦ stopped after_it.1.0 after_it.1.1 gives_up.reply_is after_it.1.2
      ]
    ]
  ]

  -- a fault of reading left the rows as they were
  pub unread : after ≡ before → rows ≡ g.rows before
  unread same = elim finds [
    | inl kept ↦ kept.1 ∙ ap g.rows same
    | inr found ↦ settled before rows found.0 (subst (λ (r : R). g.may_hold r rows) same found.2)
  ]

-- ---- the two states

-- the trace of requests and answers that a trace over bytes makes
pub record Spoken (base : List ℕ) (s : State) (u : typed.State) : Type 0 where
  pub rows : s.rows ≡ u.rows
  pub history : s.history ≡ u.history
  pub book : s.book ≡ u.book
  pub sent : s.sent ≡ u.sent
  pub formed : (request : Request) → Has s.sent request → IsFormed base (Asked request)
  pub written : (w : Written) → Has s.written w → Says base u.replies w.0 w.1

-- it goes on by one step
pub record Goes (base : List ℕ) (u : typed.State) (t : State) : Type 0 where
  pub later : typed.State
  pub step : typed.Step u later
  pub spoken : Spoken base t later

-- ---- the provider

refusal_says : (base : List ℕ) (replies : List typed.Reply) (request : Request) (leaves_out : Bool) (refusal : Refusal) → typed.IsOtherError (error_of refusal)
    → Says base replies request (answer_text base leaves_out (Error (error_of refusal)))
refusal_says base replies request leaves_out refusal other = by_error (error_of refusal) other (refusal_readable refusal) (without_body base leaves_out (Error (error_of refusal)))

module _ (base : List ℕ) (replies : List typed.Reply) (request : Request) (out : List ℕ) where
  fixed_sent : (reply : ReplyRecord) → reply ≡ fixed_reply → IsPrefixOf out reply.text → Says base replies request out
  fixed_sent reply is part = says_fixed base replies request out (subst (IsPrefixOf out) (ap (λ (r : ReplyRecord). r.text) is) part)

  refusal_sent : (leaves_out : Bool) (refusal : Refusal) → typed.IsOtherError (error_of refusal) → (reply : ReplyRecord) → AnswersFault base leaves_out refusal reply → IsPrefixOf out reply.text
      → Says base replies request out
  refusal_sent leaves_out refusal other reply is part = elim is [
    | inl refuses ↦ says_part base replies request out (answer_text base leaves_out (Error (error_of refusal))) (subst (IsPrefixOf out) (ap (λ (r : ReplyRecord). r.text) refuses) part)
        (refusal_says base replies request leaves_out refusal other)
    | inr fixed ↦ fixed_sent reply fixed part
  ]

  silence : IsPrefixOf out [] → Says base replies request out
  silence part = says_part base replies request out [] part (says_nothing base replies request)

  other_by : (refusal : Refusal) → ((error_of refusal).status ≡ 409 → ⊥) → ((error_of refusal).status ≡ 412 → ⊥) → typed.IsOtherError (error_of refusal)
  other_by refusal taken stale = record { taken = taken; stale = stale }

  module _ (reply : Option ReplyRecord) (part : IsPrefixOf out (reply_text reply)) where
    sent_part_of : (sent : ReplyRecord) → reply ≡ Some sent → IsPrefixOf out sent.text
    sent_part_of sent is = subst (λ (r : Option ReplyRecord). IsPrefixOf out (reply_text r)) is part

    refuses : (leaves_out : Bool) (refusal : Refusal) → typed.IsOtherError (error_of refusal) → HasReply reply (AnswersFault base leaves_out refusal) → Says base replies request out
    refuses leaves_out refusal other is = refusal_sent leaves_out refusal other is.0 is.2 (sent_part_of is.0 is.1)

    silent : reply ≡ None → Says base replies request out
    silent none = silence (subst (λ (r : Option ReplyRecord). IsPrefixOf out (reply_text r)) none part)

    reacted : (fault : ReadFault) → RepliesTo base (reaction_to fault) reply → Says base replies request out
    reacted (reads.Malformed x) is = refuses x refusals.Malformed (other_by refusals.Malformed (λ e. absurd (omega (arith, e))) (λ e. absurd (omega (arith, e)))) is
    reacted (reads.HostMissingOrRepeated x) is = refuses x refusals.Host (other_by refusals.Host (λ e. absurd (omega (arith, e))) (λ e. absurd (omega (arith, e)))) is
    reacted (reads.LengthMissing x) is = refuses x refusals.LengthMissing (other_by refusals.LengthMissing (λ e. absurd (omega (arith, e))) (λ e. absurd (omega (arith, e)))) is
    reacted (reads.BodyTooLong x) is = refuses x refusals.BodyTooLong (other_by refusals.BodyTooLong (λ e. absurd (omega (arith, e))) (λ e. absurd (omega (arith, e)))) is
    reacted (reads.HeadTooLong x) is = refuses x refusals.HeadTooLong (other_by refusals.HeadTooLong (λ e. absurd (omega (arith, e))) (λ e. absurd (omega (arith, e)))) is
    reacted (reads.TransferCoding x) is = refuses x refusals.TransferCoding (other_by refusals.TransferCoding (λ e. absurd (omega (arith, e))) (λ e. absurd (omega (arith, e)))) is
    reacted (reads.Expectation x) is = refuses x refusals.Expectation (other_by refusals.Expectation (λ e. absurd (omega (arith, e))) (λ e. absurd (omega (arith, e)))) is
    reacted reads.EndedEarly is = silent is
    reacted reads.ReadFailed is = silent is
    reacted reads.OutOfMemory is = fixed_sent is.0 is.2 (sent_part_of is.0 is.1)
    reacted reads.TurnsExhausted is = silent is

pub same_request : (x asked : Request) → ◌≡◌ {A = Result Request Refusal} (Ok asked) (Ok x) → asked ≡ x
same_request x asked is = cc

-- what a message means that is at the front of the text of a request
pub meant : (m : Message) (text : List ℕ) (request : Request) → IsAtFront IsRequestMessage text m → SpellsRequest text request → Asks m (Ok request)
meant m text request front spells = subst (λ n. Asks n (Ok request)) (sym (one_request_message text m spells.message front spells.is)) spells.asks

-- ---- the connector

-- what was said is read as it was said: each request that was sent, and each answer that was given
pub record IsRead (base : List ℕ) (u : typed.State) : Type 0 where
  pub history : History
  pub entries : List Entry
  pub asked : (request : Request) → Has u.sent request → AskedFairly history entries request
  pub spelled : (request : Request) → Has u.sent request → IsFormed base (Asked request) → SpellsRequest (text_of base request) request
  pub answers : (request : Request) (answer : Answer) → Has u.replies (request, answer) → IsFormed base (Answered request answer) → AnswersSo (answer_text base false answer) request answer

-- the only answer that is read of these bytes
module _ (base : List ℕ) (is_base : IsBase base) (u : typed.State) (said : IsRead base u) where
  -- what a client reads at the front of a text is the answer of the text
  read_at_front : (request : Request) (text : List ℕ) (m : Message) (read answer : Answer) → AnswersSo text request answer → IsAtFront IsResponseMessage text m → answer_in request m ≡ Ok read → read ≡ answer
  read_at_front request text m read answer so front says =
      let same = one_response_message text m so.message front so.is_message in
      let e : ◌≡◌ {A = Result Answer BodyFault} (Ok read) (Ok answer) = sym says ∙ ap (answer_in request) same ∙ so.says in
      cc

  at_whole : (bytes text : List ℕ) (m : Message) → IsAtFront IsResponseMessage bytes m → IsPrefixOf bytes text → IsAtFront IsResponseMessage text m
  at_whole bytes text m front part = (front.0, front.1, part_of_part front.0 bytes text front.2 part)

  -- an answer that is read of what was written was given, or is another error
  read_answer : (request : Request) (bytes : List ℕ) (m : Message) (read : Answer) → Has u.sent request → Says base u.replies request bytes
      → IsAtFront IsResponseMessage bytes m → answer_in request m ≡ Ok read
      → Has u.replies (request, read) ⊎ ((error : ErrorRecord) × (read ≡ Error error) × typed.IsOtherError error)
  read_answer request bytes m read sent (by_answer answer has formed part) front says =
      inl (subst (λ (x : Answer). Has u.replies (request, x))
      (sym (read_at_front request (answer_text base false answer) m read answer (said.answers request answer has formed) (at_whole bytes (answer_text base false answer) m front part) says)) has)
  read_answer request bytes m read sent (by_error error other readable part) front says =
      let text = answer_text base false (Error error) in
      let so = error_is_read base is_base error readable said.history said.entries request (said.asked request sent) in
      inr (error, read_at_front request text m read (Error error) so (at_whole bytes text m front part) says, other)

  -- ---- one step

  module _ (old : State) (spoken : Spoken base old u) where
    -- a connection that changed no row
    quiet : (request : Request) (rows : List StoredRecord) (out : List ℕ) → rows ≡ old.rows → Says base u.replies request out
        → Goes base u (record old { rows = rows; written = old.written ++ (request, out) ∷ [] })
    quiet request rows out same says = record {
      later = u;
      step = typed.rests;
      spoken = record {
        rows = same ∙ spoken.rows;
        history = spoken.history;
        book = spoken.book;
        sent = spoken.sent;
        formed = spoken.formed;
        written = each_more (λ (w : Written). Says base u.replies w.0 w.1) old.written (request, out) spoken.written says;
      };
    }

    -- a connection whose request was carried out
    carried_out : (request : Request) (rows : List StoredRecord) (out : List ℕ) → Has old.sent request → rows ≡ changed_rows old.rows (outcome old.rows request).change
        → Says base (u.replies ++ (request, (outcome u.rows request).answer) ∷ []) request out
        → Goes base u (record old { rows = rows; written = old.written ++ (request, out) ∷ [] })
    carried_out request rows out has done says = record {
      later = record u { rows = changed_rows u.rows (outcome u.rows request).change; replies = u.replies ++ (request, (outcome u.rows request).answer) ∷ [] };
      step = typed.answers request (subst (λ sent. Has sent request) spoken.sent has);
      spoken = record {
        rows = done ∙ ap (λ rows. changed_rows rows (outcome rows request).change) spoken.rows;
        history = spoken.history;
        book = spoken.book;
        sent = spoken.sent;
        formed = spoken.formed;
        written = each_more (λ (w : Written). Says base (u.replies ++ (request, (outcome u.rows request).answer) ∷ []) w.0 w.1) old.written (request, out)
            (λ w has. says_more base u.replies ((request, (outcome u.rows request).answer) ∷ []) w.0 w.1 (spoken.written w has)) says;
      };
    }

    module _ {R J I O P Q : Type 0} (g : Registries R) (h : Journals J) (received : I → Option (List ℕ)) (posted : O → Option (List ℕ)) (remaining : P → Option (List ℕ)) (contents : Q → Option (List ℕ)) (settled : Settles g) where
      module _ (request : Request) (rows : List StoredRecord) (out : List ℕ) (s : Serves g h received posted remaining contents base old request rows out) where
        abbrev after_serving : State
        after_serving = record old { rows = rows; written = old.written ++ (request, out) ∷ [] }

        -- the message that was read asks for the request
        asks_for : (m : Message) → IsAtFront IsRequestMessage (text_of base request) m → Asks m (Ok request)
        asks_for m front = meant m (text_of base request) request front (said.spelled request (subst (λ sent. Has sent request) spoken.sent s.sent) (spoken.formed request s.sent))

        done_so : (asked : Request) → asked ≡ request → rows ≡ changed_rows (g.rows s.before) (outcome (g.rows s.before) asked).change → rows ≡ changed_rows old.rows (outcome old.rows request).change
        done_so asked same done =
            subst (λ (r : Request). rows ≡ changed_rows (g.rows s.before) (outcome (g.rows s.before) r).change) same done ∙ ap (λ r. changed_rows r (outcome r request).change) s.was

        answered_so : (m : Message) (reply : ReplyRecord) → g.is_faithful s.after → AnswersRequest (g.is_faithful s.after) base (g.rows s.before) (g.rows s.after) (is_head m.head) request reply
            → rows ≡ changed_rows old.rows (outcome old.rows request).change → IsPrefixOf out reply.text → Goes base u after_serving
        answered_so m reply faithful is done part =
            let same : is.answer ≡ (outcome u.rows request).answer = is.answer_is faithful ∙ ap (λ r. (outcome r request).answer) (s.was ∙ spoken.rows) in
            let formed : IsFormed base (Answered request (outcome u.rows request).answer) = subst (λ (a : Answer). IsFormed base (Answered request a)) same (is.lawful, is.utf8) in
            let text : reply.text ≡ answer_text base (is_head m.head) (outcome u.rows request).answer =
            ap (λ (r : ReplyRecord). r.text) is.reply_is ∙ ap (λ (a : Answer). answer_text base (is_head m.head) a) same in
            carried_out request rows out s.sent done
            (by_answer (outcome u.rows request).answer (has_last u.replies (request, (outcome u.rows request).answer)) formed
            (part_of_part out reply.text (answer_text base false (outcome u.rows request).answer) part
            (subst (λ (t : List ℕ). IsPrefixOf t (answer_text base false (outcome u.rows request).answer)) (sym text) (without_body base (is_head m.head) (outcome u.rows request).answer))))

        abbrev Does : Message → ReplyRecord → Type 0
        Does m reply = Did g settled base s.before s.after rows s.finds m reply

        served_message : (m : Message) (reply : ReplyRecord) → IsAtFront IsRequestMessage (text_of base request) m → Does m reply → IsPrefixOf out reply.text → Goes base u after_serving
        served_message m reply front (gave_up fixed same) part = quiet request rows out (same ∙ s.was) (fixed_sent base u.replies request out reply fixed part)
        served_message m reply front (refused refusal means same) part =
            let never : ◌≡◌ {A = Result Request Refusal} (Err refusal) (Ok request) = one_meaning m (Err refusal) (Ok request) means (asks_for m front) in absurd (cc)
        served_message m reply front (answered_it asked means faithful is done) part =
            let same = same_request request asked (one_meaning m (Ok asked) (Ok request) means (asks_for m front)) in
            answered_so m reply faithful (subst (λ (r : Request). AnswersRequest (g.is_faithful s.after) base (g.rows s.before) (g.rows s.after) (is_head m.head) r reply) same is) (done_so asked same done) part
        served_message m reply front (stopped asked means fixed done) part =
            carried_out request rows out s.sent (done_so asked (same_request request asked (one_meaning m (Ok asked) (Ok request) means (asks_for m front))) done)
            (says_more base u.replies ((request, (outcome u.rows request).answer) ∷ []) request out (fixed_sent base u.replies request out reply fixed part))

        by_read : (read : Result Message ReadFault) (reply : Option ReplyRecord) → IfOk read (IsAtFront IsRequestMessage (text_of base request)) → Replies g base s.before s.after read reply → LeavesRows g s.before s.after read
            → IsPrefixOf out (reply_text reply) → Goes base u after_serving
        by_read (Ok m) reply front replies leaves part =
            served_message m replies.0 front (did g settled base s.before s.after rows s.finds m replies.0 leaves replies.2) (sent_part_of base u.replies request out reply part replies.0 replies.1)
        by_read (Err fault) reply front replies leaves part =
            quiet request rows out (unread g settled base s.before s.after rows s.finds replies.1 ∙ s.was) (reacted base u.replies request out reply part fault replies.0)

        served_step : Goes base u after_serving
        served_step = by_read s.is.replied.read s.is.replied.reply s.came s.is.replied.replies s.is.replied.leaves s.wrote

      -- ---- an exchange is over

      module _ (request : Request) (book : BookMap) (x : Hears g h received posted remaining contents base old request book) where
        abbrev after_hearing : State
        after_hearing = record old { book = book }

        -- the book is as it was
        unchanged : book ≡ old.book → Goes base u after_hearing
        unchanged same = record {
          later = u;
          step = typed.rests;
          spoken = record { rows = spoken.rows; history = spoken.history; book = same ∙ spoken.book; sent = spoken.sent; formed = spoken.formed; written = spoken.written };
        }

        -- the trace goes on with another book
        rebooked : typed.Step u (record u { book = book }) → Goes base u after_hearing
        rebooked step = record {
          later = record u { book = book };
          step = step;
          spoken = record { rows = spoken.rows; history = spoken.history; book = refl; sent = spoken.sent; formed = spoken.formed; written = spoken.written };
        }

        abbrev Heard : Answer → Type 0
        Heard answer = Has u.replies (request, answer) ⊎ ((error : ErrorRecord) × (answer ≡ Error error) × typed.IsOtherError error)

        heard : (answer : Answer) (learnt : Result Learnt LearnFault) (taken : Reads request (fresh_reading (received x.reader)) x.asked.left (Ok answer))
            → CameFrom old.written request (fresh_reading (received x.reader)) x.asked.left (answered answer learnt) taken → Heard answer
        heard answer learnt taken from =
            read_answer request from.0 taken.message answer (subst (λ sent. Has sent request) spoken.sent x.sent) (spoken.written (request, from.0) from.1) from.2 taken.says

        books_same : x.before.book ≡ u.book
        books_same = x.was ∙ spoken.book

        -- the connector learnt
        taught : (answer : Answer) → Heard answer → book_of book ≡ after_learning (book_of x.before.book) (learn (book_of x.before.book) request answer) → keys book ≡ keys x.before.book
            → Goes base u after_hearing
        taught answer said is names =
            let there : book_of book ≡ after_learning (book_of u.book) (learn (book_of u.book) request answer) =
            is ∙ ap (λ (b : BookMap). after_learning (book_of b) (learn (book_of b) request answer)) books_same in
            let named : keys book ≡ keys u.book = names ∙ ap keys books_same in
            elim said [
              | inl has ↦ rebooked (typed.learns request answer book has there named)
              | inr error ↦
                  let as_error : book_of book ≡ after_learning (book_of u.book) (learn (book_of u.book) request (Error error.0)) =
                  subst (λ (a : Answer). book_of book ≡ after_learning (book_of u.book) (learn (book_of u.book) request a)) error.1 there in
                  rebooked (typed.refused request error.0 book error.2 as_error named)
            ]

        -- the journal was opened again with what was learnt
        found_taught : (answer : Answer) → Heard answer → (found : EntryMap) → AreOf found (after_learning (book_of x.before.book) (learn (book_of x.before.book) request answer)) (keys x.before.book)
            → IsOpened found book → Goes base u after_hearing
        found_taught answer said found are opened =
            let there : AreOf found (after_learning (book_of u.book) (learn (book_of u.book) request answer)) (keys u.book) =
            subst (λ (b : BookMap). AreOf found (after_learning (book_of b) (learn (book_of b) request answer)) (keys b)) books_same are in
            elim said [
              | inl has ↦ rebooked (typed.relearns request answer found book has there opened)
              | inr error ↦
                  let as_error : AreOf found (after_learning (book_of u.book) (learn (book_of u.book) request (Error error.0))) (keys u.book) =
                  subst (λ (a : Answer). AreOf found (after_learning (book_of u.book) (learn (book_of u.book) request a)) (keys u.book)) error.1 there in
                  rebooked (typed.reopens found book (subst (λ b. AreOf found b (keys u.book)) (other_error (book_of u.book) request error.0 error.2) as_error) opened)
            ]

        -- the connector has the book that the call left
        left_by : (answer : Answer) (learnt : Result Learnt LearnFault) → Heard answer → Becomes h (keeping_at base) request (answered answer learnt) x.before x.after → book ≡ x.after.book → Goes base u after_hearing
        left_by answer (Ok learnt) said becomes same = taught answer said (ap book_of same ∙ becomes.ok) (ap keys same ∙ becomes.names)
        left_by answer (Err fault) said becomes same = unchanged (same ∙ becomes.err ∙ x.was)

        answers_same : (answer other : Answer) (learnt also : Result Learnt LearnFault) → answered answer learnt ≡ answered other also → other ≡ answer
        answers_same answer other learnt also e = cc

        by_came : (came : Came) (taken : Reads request (fresh_reading (received x.reader)) x.asked.left (answer_of came)) → Becomes h (keeping_at base) request came x.before x.after
            → LeavesBook request came x.before x.after book → CameFrom old.written request (fresh_reading (received x.reader)) x.asked.left came taken → Goes base u after_hearing
        by_came (lost fault) taken becomes leaves from = elim leaves [
          | inl same ↦ unchanged (same ∙ ap (λ (c : Connector J). c.book) becomes ∙ x.was)
          | inr none ↦ absurd (never none.3)
        ]
          where
            never : {answer : Answer} {learnt : Result Learnt LearnFault} → lost fault ≡ answered answer learnt → ⊥
            never e = cc
        by_came (answered answer learnt) taken becomes leaves from = elim leaves [
          | inl same ↦ left_by answer learnt (heard answer learnt taken from) becomes same
          | inr found ↦ found_taught found.0 (subst Heard (sym (answers_same answer found.0 learnt found.1 found.3)) (heard answer learnt taken from)) found.2 found.4 found.5
        ]

        hearing_step : Goes base u after_hearing
        hearing_step = by_came x.came x.asked.read x.becomes x.leaves x.from

      -- ---- every step

      pub goes : (new : State) → Step g h received posted remaining contents base old new → Goes base u new
      goes new (offers row law) = record {
        later = _;
        step = typed.offers row law;
        spoken = record {
          rows = spoken.rows;
          history = ap (λ x. history_after x row (judged old.book row)) spoken.history ∙ ap (λ (b : BookMap). history_after u.history row (judged b row)) spoken.book;
          book = ap (λ (b : BookMap). taking b row) spoken.book;
          sent = spoken.sent;
          formed = spoken.formed;
          written = spoken.written;
        };
      }
      goes new (asks name request is formed) = record {
        later = _;
        step = typed.asks name request (ap (λ (b : BookMap). asking (book_of b) name) (sym spoken.book) ∙ is);
        spoken = record {
          rows = spoken.rows;
          history = spoken.history;
          book = spoken.book;
          sent = ap (λ sent. sent ++ request ∷ []) spoken.sent;
          formed = each_more (λ r. IsFormed base (Asked r)) old.sent request spoken.formed formed;
          written = spoken.written;
        };
      }
      goes new (serves request rows out s) = served_step request rows out s
      goes new (hears request book x) = hearing_step request book x
      goes new (doubts name book is names) = record {
        later = record u { book = book };
        step = typed.doubts name book (is ∙ ap (λ (b : BookMap). doubted (book_of b) name) spoken.book) (names ∙ ap keys spoken.book);
        spoken = record { rows = spoken.rows; history = spoken.history; book = refl; sent = spoken.sent; formed = spoken.formed; written = spoken.written };
      }
      goes new (reopens found book are is) = record {
        later = record u { book = book };
        step = typed.reopens found book (subst (λ (b : BookMap). AreOf found (book_of b) (keys b)) spoken.book are) is;
        spoken = record { rows = spoken.rows; history = spoken.history; book = refl; sent = spoken.sent; formed = spoken.formed; written = spoken.written };
      }
      goes new rests = record { later = u; step = typed.rests; spoken = spoken }

-- ---- a state and a world

-- the worlds that the second mirrors have the first's rows, history and book
pub mirrored : (base : List ℕ) (s : State) (u : typed.State) (w : World) → Spoken base s u → typed.Mirrors u w → IsAt s w
mirrored base s u w spoken m = record { rows = spoken.rows ∙ m.rows; history = spoken.history ∙ m.history; book = ap book_of spoken.book ∙ m.book }

pub spoken_start : (base : List ℕ) → Spoken base start typed.start
spoken_start base = record { rows = refl; history = refl; book = refl; sent = refl; formed = λ request has. absurd (cc has.1); written = λ w has. absurd (cc has.1) }
