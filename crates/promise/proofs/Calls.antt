-- The calls of the programs are steps of a trace.
use Rattle.std.proofs.Common.{IfOk, arith, ◌≡◌, ℕ, List, [], ◌∷◌, ◌++◌, Option, Some, None, Result, Ok, Err, refl, ap, sym, subst, ◌∙◌, inl, inr}
use Rattle.std.proofs.lemmas.List.{append-nil, append_cancel_left}
use Rattle.std.specs.Io.KnownBytes.{Appends}
use Rattle.scim_resource.specs.Rows.{StoredRecord}
use Rattle.scim_message.specs.declared.messages.Request.{Request}
use Rattle.provider_core.specs.declared.registry.Registry.{Ghosts as Registries}
use Rattle.http_text.specs.Counts.{Reading, Writing, fresh_reading, fresh_writing}
use Rattle.http_text.specs.Forms.{IsRequestMessage}
use Rattle.http_text.specs.Requests.{TakesMessage}
use Rattle.http_text.specs.Responses.{TakesResponse}
use Rattle.http_text.specs.Message.{Message}
use Rattle.http_text.specs.declared.fault.ReadFault.{ReadFault}
use Rattle.scim_http.specs.Replies.{ReplyRecord}
use Rattle.scim_client.specs.Exchanges as client
use Rattle.scim_client.specs.Requests.{text_of}
use Rattle.connection.specs.declared.answering.Served.{Served}
use Rattle.connection.specs.declared.answering.Served.TheVariants.{Answered, NoRequest, Lost}
use Rattle.connection.specs.Serving.{IsSent, SendsReply, reply_text}
use Rattle.connection.specs.Turns.{IsServed}
use Rattle.journal_core.specs.declared.journals.Journal.{Ghosts as Journals}
use Rattle.connector_core.specs.Asking.{asking}
use Rattle.connector_core.specs.Changing.{history_after, judged, taking}
use Rattle.connector_core.specs.Maps.{BookMap, book_of}
use Rattle.connector_core.specs.State.{AreOf, State as Connector}
use Rattle.connector_core.specs.Book.{doubted}
use Rattle.journal_core.specs.Entries.{EntryMap}
use Rattle.std.specs.FinMap.{keys}
use Rattle.connector_core.specs.declared.asking.Ask.TheVariants.{Send}
use Rattle.provisioning.specs.Exchanges.{Becomes, Came, answered, lost, answer_in as answer_of}
use Rattle.provisioning.specs.Services.{keeping_at}
use Rattle.world_model.specs.Safe.{Has, IsPrefixOf}
use Rattle.promise.specs.Traces.{CameFrom, Finds, IsAtFront, LeavesBook as LeavesTaught, State, Step, Step.offers, Step.asks, Step.serves, Step.hears, Step.doubts, Step.reopens, Trace, Trace.here, Trace.next, Written}
use Rattle.promise.proofs.Bytes.{none_taken, taken_request, taken_response}
use Rattle.promise.specs.Calls.{Asking, BringsReply, BringsRequest, DoubtsAreSteps, ExchangesAreSteps, HoldsMore, IsOver, OffersAreSteps, ReopeningIsAStep, ServingIsAStep}

-- ---- what was written, if it is known what the writer held

-- the writer holds more: a first part of this text, or all of it
abbrev Grows : List ℕ → Option (List ℕ) → (text : List ℕ) → Type 0
Grows held new text = (out : List ℕ) × (new ≡ Some (held ++ out)) × IsPrefixOf out text

grown : (held front text : List ℕ) (old new : Option (List ℕ)) → old ≡ Some held → IsPrefixOf front text → Appends old new front → Grows held new text
grown held front text old new before part appends = go new (subst (λ o. Appends o new front) before appends)
  where
    go : (o : Option (List ℕ)) → Appends (Some held) o front → Grows held o text
    go None more = absurd more
    go (Some all) more = (front, ap Some more, part)

sent_grows : (held : List ℕ) (before after : Writing) (reply : ReplyRecord) (served : Served) → before.contents ≡ Some held → IsSent before after reply served → Grows held after.contents reply.text
sent_grows held before after reply (Answered status) b is = grown held reply.text reply.text before.contents after.contents b ([], sym (append-nil reply.text)) is.1
sent_grows held before after reply (NoRequest fault) b is = absurd is
sent_grows held before after reply (Lost status) b is = grown held is.1.1.front reply.text before.contents after.contents b (is.1.1.left, is.1.1.split) is.1.1.appends

silent_grows : (held : List ℕ) (before after : Writing) → before.contents ≡ Some held → after ≡ before → Grows held after.contents []
silent_grows held before after b same = ([], ap (λ (w : Writing). w.contents) same ∙ b ∙ ap Some (sym (append-nil held)), ([], refl))

pub reply_grows : (held : List ℕ) (before after : Writing) (reply : Option ReplyRecord) (read : Result Message ReadFault) (served : Served) → before.contents ≡ Some held
    → SendsReply before after reply read served → Grows held after.contents (reply_text reply)
reply_grows held before after (Some reply) read served b sends = sent_grows held before after reply served b sends
reply_grows held before after None (Ok m) served b sends = absurd sends
reply_grows held before after None (Err fault) served b sends = silent_grows held before after b sends.written

-- what the writer holds more is a first part of the reply, or all of it
reply_part : (held out : List ℕ) (before after : Writing) (reply : Option ReplyRecord) (read : Result Message ReadFault) (served : Served) → before.contents ≡ Some held → after.contents ≡ Some (held ++ out)
    → SendsReply before after reply read served → IsPrefixOf out (reply_text reply)
reply_part held out before after reply read served b a sends =
    let more = reply_grows held before after reply read served b sends in
    let all : Some (held ++ out) ≡ Some (held ++ more.0) = sym a ∙ more.1 in
    let same : held ++ out ≡ held ++ more.0 = cc in
    subst (λ (l : List ℕ). IsPrefixOf l (reply_text reply)) (sym (append_cancel_left held out more.0 same)) more.2

-- ---- what was read

pub brought : (came text : List ℕ) (known left : Option (List ℕ)) (read : Result Message ReadFault) → known ≡ Some came → IsPrefixOf came text → IfOk read (TakesMessage known left) → IfOk read (IsAtFront IsRequestMessage text)
brought came text known left (Ok m) is part takes = taken_request came text left m part (subst (λ (o : Option (List ℕ)). TakesMessage o left m) is takes)
brought came text known left (Err fault) is part takes = tt

pub carried : {I : Type 0} (received : I → Option (List ℕ)) (written : List Written) (request : Request) (reader : I) (left : Reading) (came : Came)
    (said : client.Reads request (fresh_reading (received reader)) left (answer_of came)) → BringsReply received written request reader
    → CameFrom written request (fresh_reading (received reader)) left came said
carried received written request reader left (lost fault) none brings = tt
carried received written request reader left (answered answer learnt) said brings =
    let takes : TakesResponse (Some brings.0) left.remaining said.message = subst (λ (o : Option (List ℕ)). TakesResponse o left.remaining said.message) brings.1 said.takes in
    elim (brings.2) [
      | inl none ↦ absurd (none_taken left.remaining said.message (subst (λ (b : List ℕ). TakesResponse (Some b) left.remaining said.message) none takes))
      | inr some ↦ (some.0, some.1, taken_response brings.0 some.0 left.remaining said.message some.2 takes)
    ]

-- ---- an exchange in which nothing was written

module _ {J : Type 0} (h : Journals J) where
  pub unsent : (base text : List ℕ) (request : Request) (came : Came) (contents : Option (List ℕ)) (written : Writing) (before after : Connector J) → client.Sends text (fresh_writing contents) written (answer_of came)
      → written ≡ fresh_writing contents → Becomes h (keeping_at base) request came before after → after.book ≡ before.book
  unsent base text request (lost fault) contents written before after sends none becomes = ap (λ (c : Connector J). c.book) becomes
  unsent base text request (answered answer learnt) contents written before after sends none becomes =
      let flushes : 0 ≡ written.flushes = sym (ap (λ (w : Writing). w.flushes) none) in
      absurd (omega (arith, flushes, sends.flushed))

-- ---- the laws

module _ {R J I O P Q : Type 0} (g : Registries R) (h : Journals J) (received : I → Option (List ℕ)) (posted : O → Option (List ℕ)) (remaining : P → Option (List ℕ)) (contents : Q → Option (List ℕ)) where
  pub served_step : (base : List ℕ) (old : State) (before after : R) (reader : P) (writer : Q) (served : Served) (is : IsServed remaining contents g base before after reader writer served) → g.rows before ≡ old.rows
      → (request : Request) → BringsRequest remaining base old.sent reader request → (rows : List StoredRecord) → Finds g before after rows → (out : List ℕ) → HoldsMore (contents writer) is.written.contents out
      → Step g h received posted remaining contents base old (record old { rows = rows; written = old.written ++ (request, out) ∷ [] })
  served_step base old before after reader writer served is was request brings rows finds out wrote = serves request rows out (record {
    before = before;
    after = after;
    reader = reader;
    writer = writer;
    served = served;
    is = is;
    was = was;
    sent = brings.0;
    came = brought brings.1.0 (text_of base request) (remaining reader) is.left.remaining is.replied.read brings.1.1 brings.1.2 is.replied.has_read.message;
    finds = finds;
    wrote = reply_part wrote.0 out (fresh_writing (contents writer)) is.written is.replied.reply is.replied.read served wrote.1 wrote.2 is.replied.sends;
  })

  pub serving_is_a_step : ServingIsAStep g h received posted remaining contents
  serving_is_a_step base old before after reader writer served is was request brings held held_is rows finds =
      let more = reply_grows held (fresh_writing (contents writer)) is.written is.replied.reply is.replied.read served held_is is.replied.sends in
      let wrote : HoldsMore (contents writer) is.written.contents more.0 = (held, held_is, more.1) in
      (more.0, wrote, served_step base old before after reader writer served is was request brings rows finds more.0 wrote)

  module _ (base : List ℕ) where
    abbrev Goes : State → State → Type 0
    Goes old new = Trace g h received posted remaining contents base old new

    pub and_then : (a b c : State) → Goes a b → Goes b c → Goes a c
    and_then a b c first here = first
    and_then a b c first (next {mid = mid} more step) = next (and_then a b mid first more) step

  pub over_step : (base : List ℕ) (mid : State) (e : Asking I O) (before after : Connector J) → IsOver h received posted base e before after → before.book ≡ mid.book → Has mid.sent e.1.request
      → BringsReply received mid.written e.1.request e.1.reader → (book : BookMap) → LeavesTaught e.1.request e.1.came before after book → Step g h received posted remaining contents base mid (record mid { book = book })
  over_step base mid e before after over was has brings book leaves = hears e.1.request book (record {
    before = before;
    after = after;
    reader = e.1.reader;
    writer = e.1.writer;
    came = e.1.came;
    asked = over.sent;
    becomes = over.becomes;
    was = was;
    leaves = leaves;
    sent = has;
    from = carried received mid.written e.1.request e.1.reader over.sent.left e.1.came over.sent.read brings;
  })

  pub exchanges_are_steps : ExchangesAreSteps g h received posted remaining contents
  exchanges_are_steps base old before after name e is was = elim (is.sent.spelled) [
    | inl none ↦ inl (unsent h base (text_of base e.request) e.request e.came (posted e.writer) is.sent.written before after is.sent.sent none is.becomes)
    | inr spells ↦ inr (
      asks name e.request (subst (λ (b : BookMap). asking (book_of b) name ≡ Some (Send e.request)) was is.asked) spells,
      λ mid same has brings. over_step base mid (name, e) before after (record { sent = is.sent; becomes = is.becomes }) same has brings after.book (inl refl),
    )
  ]

  pub offers_are_steps : OffersAreSteps g h received posted remaining contents
  offers_are_steps base old [] all = here
  offers_are_steps base old (row ∷ rows) all =
      let mid : State = record old { history = history_after old.history row (judged old.book row); book = taking old.book row } in
      and_then base old mid _ (next here (offers row all.0)) (offers_are_steps base mid rows all.1)

  pub doubts_are_steps : DoubtsAreSteps g h received posted remaining contents
  doubts_are_steps base old before after name was is names =
      doubts name after.book (is ∙ ap (λ (b : BookMap). doubted (book_of b) name) was) (names ∙ ap keys was)

  -- ---- the connector is opened again

  pub entries_of : (found : EntryMap) (book other : BookMap) → book ≡ other → AreOf found (book_of book) (keys book) → AreOf found (book_of other) (keys other)
  entries_of found book other same are = subst (λ (b : BookMap). AreOf found (book_of b) (keys b)) same are

  pub reopening_is_a_step : ReopeningIsAStep g h received posted remaining contents
  reopening_is_a_step base old last was leaves found book may is = reopens found book (entries_of found last.book old.book was (leaves found may)) is
