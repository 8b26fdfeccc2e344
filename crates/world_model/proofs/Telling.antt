-- What is true of every message that was ever sent stays true.
use Rattle.std.proofs.Common.{List, [], ◌∷◌, ◌++◌, inl, inr, subst}
use Rattle.scim_resource.specs.Contents.{content_name}
use Rattle.scim_resource.specs.Rows.{ShownRecord}
use Rattle.scim_message.specs.declared.messages.Request.{Request}
use Rattle.scim_message.specs.declared.messages.Request.TheVariants.{Create, Retrieve, Search, Replace}
use Rattle.provider_core.specs.Stories.{Entry, AllGoOn}
use Rattle.provider_core.proofs.TableLaws.{at_push}
use Rattle.source_csv.specs.Records.{row_name}
use Rattle.connector_core.specs.History.{History}
use Rattle.connector_core.specs.declared.keeps.Keeps.{Keeps}
use Rattle.connector_core.specs.declared.keeps.Keeps.TheVariants.{Revisions, Versions}
use Rattle.world_model.specs.World.{Message, Asked, Answered}
use Rattle.world_model.specs.Invariant.{AskedTrulyAt, StandsAt, ToldTruly, ToldTrulyAt, AllTold, AllToldAt}
use Rattle.world_model.proofs.Growing.{Grows, image_grows, version_grows, fact_grows}

pub stands_grow : (keeps : Keeps) (es fs : List Entry) (s : ShownRecord) → AllGoOn es fs → StandsAt keeps es s → StandsAt keeps fs s
stands_grow Revisions es fs s all fact = fact_grows es fs s all fact
stands_grow Versions es fs s all stands = record { true_one = stands.true_one; fact = fact_grows es fs stands.true_one all stands.fact; stands = stands.stands }

module _ (keeps : Keeps) (history : History) (es : List Entry) (history' : History) (fs : List Entry) (grows : Grows history es history' fs) where
  asked_grows : (request : Request) → AskedTrulyAt keeps history es request → AskedTrulyAt keeps history' fs request
  asked_grows (Create content) asked = image_grows history es history' fs grows (content_name content) content asked
  asked_grows (Retrieve kind id if_match if_none_match) asked = absurd asked
  asked_grows (Search kind wanted start count) asked = record { row = asked.row; accepted = grows.rows (row_name asked.row) asked.row asked.accepted; is = asked.is }
  asked_grows (Replace id content if_match if_none_match) asked = record {
    image = image_grows history es history' fs grows (content_name content) content asked.image;
    tag = asked.tag;
    alone = asked.alone;
    older = asked.older;
    newer = asked.newer;
    version = version_grows es fs (content_name content) id asked.tag asked.older grows.entries asked.version;
    revision = asked.revision;
    rises = asked.rises;
  }

  told_grows : (message : Message) → ToldTrulyAt keeps history es message → ToldTrulyAt keeps history' fs message
  told_grows (Asked request) told = asked_grows request told
  told_grows (Answered request answer) told = λ i s at. stands_grow keeps es fs s grows.entries (told i s at)

  pub all_told_grow_at : (messages : List Message) → AllToldAt keeps history es messages → AllToldAt keeps history' fs messages
  all_told_grow_at messages told i message at = told_grows message (told i message at)

-- one more message
pub told_push_at : (keeps : Keeps) (history : History) (es : List Entry) (messages : List Message) (message : Message) → AllToldAt keeps history es messages → ToldTrulyAt keeps history es message
    → AllToldAt keeps history es (messages ++ message ∷ [])
told_push_at keeps history es messages message told new i m at = elim (at_push messages message i m at) [
  | inl old ↦ told i m old
  | inr last ↦ subst (ToldTrulyAt keeps history es) last.1 new
]

-- ---- with a provider that keeps revisions

pub all_told_grow : (history : History) (es : List Entry) (history' : History) (fs : List Entry) → Grows history es history' fs → (messages : List Message) → AllTold history es messages
    → AllTold history' fs messages
all_told_grow = all_told_grow_at Revisions

pub told_push : (history : History) (es : List Entry) (messages : List Message) (message : Message) → AllTold history es messages → ToldTruly history es message
    → AllTold history es (messages ++ message ∷ [])
told_push = told_push_at Revisions
