-- An exchange in which something is sent: the request, the provider's step, the reply, and what the connector learns from it.
use Rattle.std.proofs.Common.{◌≡◌, ℕ, suc, [], ◌∷◌, length, Option, Some, ap, sym, ◌∙◌, subst, arith, length-append}
use Rattle.std.specs.List.{slice_get}
use Rattle.scim_key.specs.declared.records.RecordName.{RecordName}
use Rattle.scim_resource.specs.Contents.{content_name}
use Rattle.scim_resource.specs.declared.contents.Content.{Content}
use Rattle.scim_message.specs.declared.messages.Request.{Request}
use Rattle.scim_message.specs.declared.messages.Request.TheVariants.{Create}
use Rattle.scim_message.specs.declared.messages.Answer.{Answer}
use Rattle.provider_core.specs.Stories.{step}
use Rattle.provider_core.proofs.TableLaws.{at_end}
use Rattle.connector_core.specs.Asking.{asking}
use Rattle.connector_core.specs.Keeps.{learn_at}
use Rattle.connector_core.specs.declared.keeps.Keeps.{Keeps}
use Rattle.connector_core.specs.declared.keeps.Keeps.TheVariants.{Revisions, Versions}
use Rattle.connector_core.specs.Learning.{learn, after_learning}
use Rattle.connector_core.specs.declared.asking.Ask.{Ask}
use Rattle.connector_core.specs.declared.asking.Ask.TheVariants.{Send}
use Rattle.world_model.specs.World.{World, Message, Asked, Answered, Sends, Delivers, names, with_message, sends, replies, delivers, message_at, happens, run}
use Rattle.world_model.specs.Providers.{answered, replies_at, delivers_at, happens_at, exchange_at}
use Rattle.world_model.specs.Safe.{IsAt, Has}
use Rattle.world_model.specs.Settled.{exchange}
use Rattle.world_model.specs.Invariant.{Names, AskedTruly}
use Rattle.world_model.specs.Room.{HasRoom}
use Rattle.world_model.proofs.Quiet.{QuietAmong, row_counted, event_quiet}
use Rattle.world_model.proofs.Room.{own_room}
use Rattle.world_model.proofs.Sending.{what_is_asked}

-- the answer of the provider in its current state
abbrev pub answer_to : World → Request → Answer
answer_to w request = (step w.entries request).answer

-- the world when the reply was given
abbrev pub replied : World → Request → World
replied w request = replies (with_message w (Asked request)) request (step w.entries request)

-- and when it was learnt from
abbrev pub exchanged : World → Request → World
exchanged w request = record (replied w request) { book = after_learning w.book (learn w.book request (answer_to w request)) }

-- with a provider of this kind
abbrev pub replied_at : Keeps → World → Request → World
replied_at keeps w request = replies_at keeps (with_message w (Asked request)) request (step w.entries request)

abbrev exchanged_at : Keeps → World → Request → World
exchanged_at keeps w request = record (replied_at keeps w request) { book = after_learning w.book (learn_at keeps w.book request (answered keeps (answer_to w request))) }

abbrev pub exchange_of : Keeps → World → RecordName → World
exchange_of Revisions w name = exchange w name
exchange_of Versions w name = exchange_at Versions w name

module _ (w : World) (name : RecordName) (request : Request) (asks : asking w.book name ≡ Some (Send request)) where
  abbrev sent : World
  sent = with_message w (Asked request)

  abbrev first : ℕ
  first = suc (length w.messages)

  at_request : message_at sent.messages first ≡ Some (Asked request)
  at_request = at_end w.messages (Asked request)

  pub at_reply : IsAt (replied w request).messages first (Answered request (answer_to w request))
  at_reply =
      let count : length sent.messages ≡ first = omega (arith, length-append w.messages (Asked request ∷ [])) in
      ap (slice_get (replied w request).messages) (sym count) ∙ at_end sent.messages (Answered request (answer_to w request))

  pub sent_is : run w (Sends name ∷ Delivers first ∷ []) ≡ replied w request
  sent_is = ap (λ (o : Option Ask). happens (sends w o) (Delivers first)) asks ∙ ap (λ (o : Option Message). delivers sent o) at_request

  pub exchange_is : exchange w name ≡ exchanged w request
  exchange_is = ap (λ (u : World). happens u (Delivers (suc first))) sent_is ∙ ap (λ (o : Option Message). delivers (replied w request) o) at_reply

  -- ---- with each kind of provider
  module _ (keeps : Keeps) where
    at_reply_at : IsAt (replied_at keeps w request).messages first (Answered request (answered keeps (answer_to w request)))
    at_reply_at =
        let count : length sent.messages ≡ first = omega (arith, length-append w.messages (Asked request ∷ [])) in
        ap (slice_get (replied_at keeps w request).messages) (sym count) ∙ at_end sent.messages (Answered request (answered keeps (answer_to w request)))

    pub sent_is_at : happens_at keeps (happens_at keeps w (Sends name)) (Delivers first) ≡ replied_at keeps w request
    sent_is_at = ap (λ (o : Option Ask). happens_at keeps (sends w o) (Delivers first)) asks ∙ ap (λ (o : Option Message). delivers_at keeps sent o) at_request

    exchange_is_at : exchange_at keeps w name ≡ exchanged_at keeps w request
    exchange_is_at = ap (λ (u : World). happens_at keeps u (Delivers (suc first))) sent_is_at ∙ ap (λ (o : Option Message). delivers_at keeps (replied_at keeps w request) o) at_reply_at

  pub after_exchange : (keeps : Keeps) → exchange_of keeps w name ≡ exchanged_at keeps w request
  after_exchange Revisions = exchange_is
  after_exchange Versions = exchange_is_at Versions

  -- ---- while there is room

  module _ {ours : Names} (room : HasRoom w) (q : QuietAmong ours w) where
    sent_quiet : QuietAmong ours sent
    sent_quiet = subst (λ (o : Option Ask). QuietAmong ours (sends w o)) asks (event_quiet w (Sends name) tt tt room q)

    pub replied_quiet : QuietAmong ours (replied w request)
    replied_quiet = subst (λ (o : Option Message). QuietAmong ours (delivers sent o)) at_request (event_quiet sent (Delivers first) tt tt room sent_quiet)

    its_names : (content : Content) → request ≡ Create content → Has (names w) (content_name content)
    its_names content is =
        let asked : AskedTruly w.history w.entries (Create content) =
        subst (λ (r : Request). AskedTruly w.history w.entries r) is (what_is_asked w.history w.entries w.book q.inv.follows q.inv.noted name request asks) in
        row_counted w.history q.counted (content_name content) asked.row asked.accepted

    replied_room : HasRoom (replied w request)
    replied_room = own_room (with_message w (Asked request)) request its_names room

    pub exchange_room : HasRoom (exchange w name)
    exchange_room = subst (λ (u : World). HasRoom u) (sym exchange_is) replied_room

    -- an exchange leaves no reply that is refused
    pub exchange_quiet : QuietAmong ours (exchange w name)
    exchange_quiet = subst (λ (u : World). QuietAmong ours (happens u (Delivers (suc first)))) (sym sent_is)
        (event_quiet (replied w request) (Delivers (suc first)) tt tt replied_room replied_quiet)
