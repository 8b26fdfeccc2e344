-- What the connector hears in an answer of each kind of provider: what is written is what the request carried.
use Rattle.std.proofs.Common.{◌≡◌, ℕ, zero, suc, Bool, true, false, ◌&&◌, List, [], ◌∷◌, map, length, Option, Some, None, Ok, ◌⊎◌, inl, inr, refl, ap, sym, ◌∙◌, subst}
use Rattle.scim_key.proofs.RecordLaws.{same as same_names}
use Rattle.scim_key.specs.Revisions.{RevisionValue, no_revision}
use Rattle.scim_key.specs.declared.records.RecordName.{RecordName}
use Rattle.scim_version.specs.declared.conditions.Condition.{Condition}
use Rattle.scim_resource.specs.Contents.{content_name, content_revision, content_with}
use Rattle.scim_resource.specs.Rows.{ShownRecord, shown}
use Rattle.scim_resource.specs.declared.contents.Content.{Content}
use Rattle.scim_resource.specs.declared.contents.Content.TheVariants as contents
use Rattle.scim_message.specs.declared.messages.Request.{Request}
use Rattle.scim_message.specs.declared.messages.Request.TheVariants.{Create, Retrieve, Search, Replace}
use Rattle.scim_message.specs.declared.messages.Answer.{Answer}
use Rattle.scim_message.specs.declared.messages.Answer.TheVariants.{Created, Found, Replaced, NotModified, Error}
use Rattle.scim_message.specs.declared.messages.Answer.TheVariants as answers
use Rattle.provider_core.specs.Stories.{Entry, row_of, first_entry, renewed, Numbered, creating_entry, writing_entry, replacing_entry, step}
use Rattle.provider_core.specs.Tables.{shown_in}
use Rattle.provider_core.proofs.TableLaws.{at_one, answers_show_facts}
use Rattle.comparing.specs.Aspects.{is_active, same_flag}
use Rattle.source_csv.specs.declared.rows.Row.{Row}
use Rattle.source_csv.specs.declared.rows.Row.TheVariants.{User, Group}
use Rattle.connector_core.specs.Asking.{search_for}
use Rattle.connector_core.specs.History.{same_name}
use Rattle.connector_core.specs.Keeps.{shown_with, filling, answer_with, carried, forgot, heard, says}
use Rattle.connector_core.specs.declared.keeps.Keeps.{Keeps}
use Rattle.connector_core.specs.declared.keeps.Keeps.TheVariants.{Revisions, Versions}
use Rattle.connector_core.proofs.Standing.{finding_with, said_with}
use Rattle.connector_core.specs.Learning.{Finding, Shows, Shows_none, Taken, Stale, finding}
use Rattle.world_model.specs.Safe.{IsAt}
use Rattle.world_model.specs.World.{World, Message, Asked, Answered, Event, Changes, Sends, Delivers, Cuts, Restarts_provider, Restarts_connector, Doubts, delivers, message_at, happens, run}
use Rattle.world_model.specs.Providers.{answered, delivers_at, happens_at, run_at}
use Rattle.world_model.specs.Invariant.{RepliesTrulyAt}

-- ---- another revision

pub name_with : (r : Option RevisionValue) (c : Content) → content_name (content_with r c) ≡ content_name c
name_with r (contents.User u) = refl
name_with r (contents.Group g) = refl

pub revision_with : (r : Option RevisionValue) (c : Content) → content_revision (content_with r c) ≡ r
revision_with r (contents.User u) = refl
revision_with r (contents.Group g) = refl

with_again : (r q : Option RevisionValue) (c : Content) → content_with r (content_with q c) ≡ content_with r c
with_again r q (contents.User u) = refl
with_again r q (contents.Group g) = refl

-- ---- resources of an answer

pub shown_in_with : (f : ShownRecord → ShownRecord) (answer : Answer) → shown_in (answer_with f answer) ≡ map f (shown_in answer)
shown_in_with f (Created s) = refl
shown_in_with f (Found s) = refl
shown_in_with f (Replaced s) = refl
shown_in_with f (answers.List list) = refl
shown_in_with f (NotModified kind id version) = refl
shown_in_with f (Error error) = refl

at_map : {X Y : Type 0} (f : X → Y) (xs : List X) (i : ℕ) (y : Y) → IsAt (map f xs) i y → (x : X) × IsAt xs i x × (f x ≡ y)
at_map f [] i y at = absurd (cc)
at_map f (x ∷ xs) zero y at = (x, refl, cc)
at_map f (x ∷ xs) (suc i) y at = at_map f xs i y at

pub at_with : (f : ShownRecord → ShownRecord) (answer : Answer) (i : ℕ) (s : ShownRecord) → IsAt (shown_in (answer_with f answer)) i s
    → (x : ShownRecord) × IsAt (shown_in answer) i x × (f x ≡ s)
at_with f answer i s at = at_map f (shown_in answer) i s (subst (λ (xs : List ShownRecord). IsAt xs i s) (shown_in_with f answer) at)

-- ---- what is written is shown

create_shows : (taken : Option Entry) (full : Bool) (es : List Entry) (c : Content) (i : ℕ) (x : ShownRecord) → IsAt (shown_in (creating_entry taken full es c).answer) i x
    → c ≡ x.content
create_shows (Some e) full es c i x at = absurd (cc)
create_shows None true es c i x at = absurd (cc)
create_shows None false es c i x at = ap (λ (s : ShownRecord). s.content) (at_one (shown (row_of (suc (length es)) (first_entry c))) i x at)

write_shows : (same at_last holds : Bool) (n : Numbered) (es : List Entry) (c : Content) (i : ℕ) (x : ShownRecord)
    → IsAt (shown_in (writing_entry same at_last holds n es c).answer) i x → c ≡ x.content
write_shows false at_last holds n es c i x at = absurd (cc)
write_shows true true holds n es c i x at = absurd (cc)
write_shows true false false n es c i x at = absurd (cc)
write_shows true false true n es c i x at = ap (λ (s : ShownRecord). s.content) (at_one (shown (row_of n.number (renewed n.entry c))) i x at)

replace_shows : (found : Option Numbered) (es : List Entry) (c : Content) (m n : Condition) (i : ℕ) (x : ShownRecord)
    → IsAt (shown_in (replacing_entry found es c m n).answer) i x → c ≡ x.content
replace_shows None es c m n i x at = absurd (cc)
replace_shows (Some e) es c m n i x at = write_shows _ _ _ e es c i x at

-- ---- every answer

-- the answer, forgotten, and then heard with this in place of each resource
twice : (f : ShownRecord → ShownRecord) (answer : Answer) (i : ℕ) (s : ShownRecord) → IsAt (shown_in (answer_with f (forgot answer))) i s
    → (x : ShownRecord) × IsAt (shown_in answer) i x × (s ≡ f (shown_with None x))
twice f answer i s at =
    let (y, at_y, same_y) = at_with f (forgot answer) i s at in
    let (x, at_x, same_x) = at_with (shown_with None) answer i y at_y in
    (x, at_x, sym (ap f same_x ∙ same_y))

-- what stands in the place of a resource is the resource, or it at no revision
standing : (es : List Entry) (request : Request) (i : ℕ) (x : ShownRecord) → IsAt (shown_in (step es request).answer) i x
    → (filling request (shown_with None x) ≡ x) ⊎ (filling request (shown_with None x) ≡ shown_with (Some no_revision) x)
standing es (Create c) i x at = inl (ap (λ (content : Content). record x { content = content }) (create_shows _ _ es c i x at))
standing es (Retrieve kind id m n) i x at = inr (ap (λ (content : Content). record x { content = content }) (with_again (Some no_revision) None x.content))
standing es (Search kind wanted start count) i x at = inr (ap (λ (content : Content). record x { content = content }) (with_again (Some no_revision) None x.content))
standing es (Replace id c m n) i x at = inl (ap (λ (content : Content). record x { content = content }) (replace_shows _ es c m n i x at))

pub forgot_truly : (es : List Entry) (request : Request) → RepliesTrulyAt Versions (step es request).entries request (forgot (step es request).answer)
forgot_truly es request i s at =
    let (x, at_x, same) = twice (filling request) (step es request).answer i s at in
    record {
      true_one = x;
      fact = answers_show_facts es request i x at_x;
      stands = elim (standing es request i x at_x) [
        | inl is ↦ inl (same ∙ is)
        | inr is ↦ inr (same ∙ is)
      ];
    }

pub answered_truly : (keeps : Keeps) (es : List Entry) (request : Request) → RepliesTrulyAt keeps (step es request).entries request (answered keeps (step es request).answer)
answered_truly Revisions es request = answers_show_facts es request
answered_truly Versions es request = forgot_truly es request

-- ---- what an answer says

-- what is heard in the place of a shown resource
abbrev pub hearing : Keeps → Request → ShownRecord → ShownRecord
hearing Revisions request s = s
hearing Versions request s = filling request (shown_with None s)

abbrev pub heard_said : Keeps → Request → Finding → Finding
heard_said keeps request (Shows s) = Shows (hearing keeps request s)
heard_said keeps request Shows_none = Shows_none
heard_said keeps request Taken = Taken
heard_said keeps request (Stale if_match) = Stale if_match

pub hearing_version : (keeps : Keeps) (request : Request) (s : ShownRecord) → (hearing keeps request s).version ≡ s.version
hearing_version Revisions request s = refl
hearing_version Versions (Create c) s = refl
hearing_version Versions (Retrieve kind id m n) s = refl
hearing_version Versions (Search kind wanted start count) s = refl
hearing_version Versions (Replace id c m n) s = refl

-- a search for a row shows the same name, and what was written is what was asked
pub hearing_name : (keeps : Keeps) (row : Row) (s : ShownRecord) → content_name (hearing keeps (search_for row) s).content ≡ content_name s.content
hearing_name Revisions row s = refl
hearing_name Versions (User row) s = name_with (Some no_revision) (content_with None s.content) ∙ name_with None s.content
hearing_name Versions (Group row) s = name_with (Some no_revision) (content_with None s.content) ∙ name_with None s.content

pub hearing_created : (keeps : Keeps) (c : Content) (s : ShownRecord) → s.content ≡ c → (hearing keeps (Create c) s).content ≡ c
hearing_created Revisions c s is = is
hearing_created Versions c s is = refl

pub hearing_replaced : (keeps : Keeps) (id : List ℕ) (c : Content) (m n : Condition) (s : ShownRecord) → s.content ≡ c → (hearing keeps (Replace id c m n) s).content ≡ c
hearing_replaced Revisions id c m n s is = is
hearing_replaced Versions id c m n s is = refl

-- what a provider says of what was found
abbrev pub answered_said : Keeps → Finding → Finding
answered_said Revisions said = said
answered_said Versions said = said_with (shown_with None) said

pub says_answered : (keeps : Keeps) (request : Request) (answer : Answer) (said : Finding) → finding request answer ≡ Ok said → finding request (answered keeps answer) ≡ Ok (answered_said keeps said)
says_answered Revisions request answer said is = is
says_answered Versions request answer said is = finding_with (shown_with None) request answer said is

same_said : (request : Request) (said : Finding) → said ≡ heard_said Revisions request said
same_said request (Shows s) = refl
same_said request Shows_none = refl
same_said request Taken = refl
same_said request (Stale if_match) = refl

filled_said : (request : Request) (said : Finding) → said_with (filling request) (said_with (shown_with None) said) ≡ heard_said Versions request said
filled_said request (Shows s) = refl
filled_said request Shows_none = refl
filled_said request Taken = refl
filled_said request (Stale if_match) = refl

pub hears : (keeps : Keeps) (request : Request) (answer : Answer) (said : Finding) → finding request answer ≡ Ok said
    → finding request (heard keeps request (answered keeps answer)) ≡ Ok (heard_said keeps request said)
hears Revisions request answer said is = is ∙ ap Ok (same_said request said)
hears Versions request answer said is =
    finding_with (filling request) request (forgot answer) (said_with (shown_with None) said) (finding_with (shown_with None) request answer said is) ∙ ap Ok (filled_said request said)

-- ---- an answer shows what was asked

active_with : (r : Option RevisionValue) (c : Content) → is_active (content_with r c) ≡ is_active c
active_with r (contents.User u) = refl
active_with r (contents.Group g) = refl

same_flag_itself : (b : Bool) → same_flag b b ≡ true
same_flag_itself true = refl
same_flag_itself false = refl

both : (a b : Bool) → a ≡ true → b ≡ true → (a && b) ≡ true
both a b is_a is_b = rw (is_a, is_b) refl

-- what was written says what was asked, also if its revision is forgotten
pub says_itself : (name : RecordName) (c : Content) (s : ShownRecord) → content_name c ≡ name → c ≡ s.content → says name c (shown_with None s) ≡ true
says_itself name c s its is =
    let named : name ≡ content_name (content_with None s.content) = sym its ∙ ap content_name is ∙ sym (name_with None s.content) in
    let active : is_active (content_with None s.content) ≡ is_active c = active_with None s.content ∙ ap is_active (sym is) in
    both (same_name name (content_name (content_with None s.content))) (same_flag (is_active c) (is_active (content_with None s.content))) ((same_names name (content_name (content_with None s.content))).1 named)
    (ap (same_flag (is_active c)) active ∙ same_flag_itself (is_active c))

-- what a provider shows of what was written is what the request carried
pub carried_shown : (es : List Entry) (request : Request) (c : Content) → carried request ≡ Some c → (i : ℕ) (x : ShownRecord) → IsAt (shown_in (step es request).answer) i x → c ≡ x.content
carried_shown es (Create content) c has i x at = let same : content ≡ c = cc in sym same ∙ create_shows _ _ es content i x at
carried_shown es (Retrieve kind id m n) c has i x at = absurd (cc)
carried_shown es (Search kind wanted start count) c has i x at = absurd (cc)
carried_shown es (Replace id content m n) c has i x at = let same : content ≡ c = cc in sym same ∙ replace_shows _ es content m n i x at

-- ---- with a provider that keeps revisions

same_delivery : (w : World) (o : Option Message) → delivers_at Revisions w o ≡ delivers w o
same_delivery w None = refl
same_delivery w (Some (Asked request)) = refl
same_delivery w (Some (Answered request answer)) = refl

pub same_event : (w : World) (event : Event) → happens_at Revisions w event ≡ happens w event
same_event w (Changes row) = refl
same_event w (Sends name) = refl
same_event w (Delivers number) = same_delivery w (message_at w.messages number)
same_event w (Cuts number length) = refl
same_event w Restarts_provider = refl
same_event w Restarts_connector = refl
same_event w (Doubts name) = refl

pub same_run : (w : World) (events : List Event) → run_at Revisions w events ≡ run w events
same_run w [] = refl
same_run w (event ∷ events) = same_run (happens_at Revisions w event) events ∙ ap (λ (v : World). run v events) (same_event w event)
