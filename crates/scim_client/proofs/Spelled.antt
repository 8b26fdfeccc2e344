-- The text of a request is a message that asks for that request.
use Rattle.std.proofs.Common.{◌≡◌, ℕ, ◌+◌, ◌<◌, ◌≤◌, Bool, true, false, List, [], ◌∷◌, length, Option, Some, None, refl, ap, sym, subst, ◌∙◌, arith}
use Rattle.std.specs.Prelude.{All, IfSome, ℤ, Result, Ok, Err, codes, option_map, if◌then◌else◌}
use Rattle.std.specs.Fmt.{decimal, signed_decimal}
use Rattle.std.specs.List.{AllByRecursion, list_all}
use Rattle.std.proofs.lemmas.List.Elements.{All-nil, All-cons}
use Rattle.std.proofs.lemmas.List.Sums.{AllPass-from_list_all}
use Rattle.httparse.specs.Grammar.{IsToken, is_token_byte}
use Rattle.scim_key.specs.Bases.{IsAuthority}
use Rattle.scim_key.proofs.BaseLemmas.{authority_is_lawful}
use Rattle.scim_key.specs.Outcome.{◌>>=◌}
use Rattle.scim_key.specs.declared.records.Kind.{Kind}
use Rattle.scim_key.specs.declared.records.Kind.TheVariants as kinds
use Rattle.scim_version.specs.declared.conditions.Condition.{Condition}
use Rattle.scim_version.specs.declared.conditions.Condition.TheVariants.{Always}
use Rattle.scim_resource.specs.Contents.{content_kind}
use Rattle.scim_resource.specs.Locations.{location_text}
use Rattle.scim_resource.specs.Reading.{content_in}
use Rattle.scim_resource.proofs.RoundTrips as round_trips
use Rattle.scim_resource.specs.declared.contents.Content.{Content}
use Rattle.scim_resource.specs.declared.faults.ContentFault.{ContentFault}
use Rattle.scim_filter.specs.Expressions.{Expression}
use Rattle.scim_filter.specs.Texts.{filter_text}
use Rattle.scim_filter.proofs.Spelling.{text_spells}
use Rattle.scim_message.specs.declared.messages.Request.{Request}
use Rattle.scim_message.specs.declared.messages.Request.TheVariants.{Create, Retrieve, Search, Replace}
use Rattle.scim_message.specs.declared.refusals.Refusal.{Refusal}
use Rattle.scim_message.specs.declared.refusals.Refusal.TheVariants.{MediaType}
use Rattle.http_text.specs.Forms.{IsRequestMessage, IsAccepted}
use Rattle.http_text.specs.Judging.{is_host_wrong, judge_head}
use Rattle.http_text.specs.Message.{NamedValue, Head, Message, request_line, values, length_in, stated, absent, body_length, head_limit, body_limit}
use Rattle.http_text.specs.Response.{written_lines}
use Rattle.http_text.specs.Texts.{IsTarget, request_text}
use Rattle.http_text.proofs.TextLemmas as texts
use Rattle.scim_http.specs.Laws.{resource_path}
use Rattle.scim_http.specs.Meaning.{IsAsked, routed_asked, collection_asked, resource_request, content_read, condition_in}
use Rattle.scim_http.specs.Routes.{path_of, route_of, collection_path}
use Rattle.scim_http.specs.Searches.{IsFilter, IsSearch, IsSearchOn, start_in, count_in, start_of, count_of, page_of}
use Rattle.scim_http.proofs.LocationLaws.{locations_are_routed}
use Rattle.scim_client.specs.Requests.{with_query, query_text, start_value, condition_value, content_text, lines_of, method_text, body_text, request_lines, collection_in, target_text, text_at}
use Rattle.scim_client.specs.ServicePaths.{host_of, service_path_of}
use Rattle.scim_client.specs.Spelling.{IsIdText, IsSentContent, IsFilterText, KeepsFilterLimits, IsShortNumber, HasLawfulParts, IsWritable, KeepsLimitsAt, SpellsRequest, RequestsAreSpelled}
use Rattle.scim_client.proofs.Lines.{IsSentCondition, host_is_right, host_value, decimal_value, condition_is_value, condition_found, lines_are, finds, stated_decimal, judged, judged_body, judged_bodiless}
use Rattle.scim_client.proofs.Queries.{IsByte, IsTextOf, reads, start_read, count_read}
use Rattle.scim_client.proofs.ServicePathLemmas.{base_host}
use Rattle.scim_client.proofs.Utf8Bytes.{utf8_bytes}
use Rattle.scim_client.proofs.Targets.{is_target, path_bytes, collection_is_path, resource_is_path, path_alone, path_found, query_found, target_some, target_bytes, query_bytes}

-- ---- the message

abbrev head_with : (method target : List ℕ) → List NamedValue → Head
head_with method target fields = record { start = request_line method target 1; fields = fields }

-- with this method a head is judged so
abbrev Judges : Bool → (method target : List ℕ) → Type 0
Judges has_body method target =
    (fields : List NamedValue) → judge_head (head_with method target fields)
    ≡ judged has_body (length_in (values (codes "content-length") fields)) (values (codes "host") fields) (values (codes "transfer-encoding") fields) (values (codes "expect") fields)

-- the text is this message, and it isn't refused
abbrev IsSent : List ℕ → Message → Type 0
IsSent text m = IsRequestMessage text m × IsAccepted m

sent_with_body : (host method target body : List ℕ) (first second : Condition) → IsToken method → IsTarget target → Judges true method target → IsAuthority host
    → IsSentCondition first → IsSentCondition second → length body ≤ body_limit
    → length (request_text method target (written_lines (lines_of host (Some (decimal (length body))) (condition_value first) (condition_value second))) body) ≤ head_limit + length body
    → IsSent (request_text method target (written_lines (lines_of host (Some (decimal (length body))) (condition_value first) (condition_value second))) body)
    (record { head = head_with method target (written_lines (lines_of host (Some (decimal (length body))) (condition_value first) (condition_value second))); body = body })
sent_with_body host method target body first second is at judges lawful one two small size =
    let n = length body in
    let long = Some (decimal n) in
    let found = finds host long (condition_value first) (condition_value second) in
    let fields = written_lines (lines_of host long (condition_value first) (condition_value second)) in
    let all = lines_are host long (condition_value first) (condition_value second) (host_value host lawful.bytes) (decimal_value n (omega (arith, small))) (condition_is_value first one) (condition_is_value second two) in
    let l : length_in (values (codes "content-length") fields) ≡ stated n = ap length_in found.long ∙ stated_decimal n small in (
      texts.texts_are_read.request method target fields body is at all size found.few (sym (ap body_length l)),
      (n, judges fields ∙ judged_body n (length_in (values (codes "content-length") fields)) (values (codes "host") fields) (values (codes "transfer-encoding") fields) (values (codes "expect") fields) small l (ap (is_host_wrong 1) found.at ∙ host_is_right host lawful.bytes) found.coding found.expect),
    )

sent_bodiless : (host method target : List ℕ) (first second : Condition) → IsToken method → IsTarget target → Judges false method target → IsAuthority host
    → IsSentCondition first → IsSentCondition second
    → length (request_text method target (written_lines (lines_of host None (condition_value first) (condition_value second))) []) ≤ head_limit + 0
    → IsSent (request_text method target (written_lines (lines_of host None (condition_value first) (condition_value second))) [])
    (record { head = head_with method target (written_lines (lines_of host None (condition_value first) (condition_value second))); body = [] })
sent_bodiless host method target first second is at judges lawful one two size =
    let found = finds host None (condition_value first) (condition_value second) in
    let fields = written_lines (lines_of host None (condition_value first) (condition_value second)) in
    let all = lines_are host None (condition_value first) (condition_value second) (host_value host lawful.bytes) tt (condition_is_value first one) (condition_is_value second two) in
    let l : length_in (values (codes "content-length") fields) ≡ absent = ap length_in found.long in (
      texts.texts_are_read.request method target fields [] is at all size found.few (sym (ap body_length l)),
      (0, judges fields ∙ judged_bodiless (length_in (values (codes "content-length") fields)) (values (codes "host") fields) (values (codes "transfer-encoding") fields) (values (codes "expect") fields) l (ap (is_host_wrong 1) found.at ∙ host_is_right host lawful.bytes) found.coding found.expect),
    )

token : (name : List ℕ) → 0 < length name → list_all is_token_byte name ≡ true → IsToken name
token name some passes = (some, AllPass-from_list_all is_token_byte name passes)

post_is_token : IsToken (codes "POST")
unfolding is_token_byte
post_is_token = token (codes "POST") (omega arith) refl

put_is_token : IsToken (codes "PUT")
unfolding is_token_byte
put_is_token = token (codes "PUT") (omega arith) refl

get_is_token : IsToken (codes "GET")
unfolding is_token_byte
get_is_token = token (codes "GET") (omega arith) refl

-- ---- the text

-- the target of a request, as the server reads it
abbrev target_here : Request → List ℕ
target_here (Create content) = collection_path (content_kind content)
target_here (Retrieve kind id first second) = resource_path kind id
target_here (Search kind filter start count) = with_query (collection_path kind) (query_text filter start count)
target_here (Replace id content first second) = resource_path (content_kind content) id

abbrev text_here : List ℕ → Request → List ℕ
text_here host request =
    request_text (method_text request) (target_here request) (written_lines (request_lines host request)) (body_text request)

abbrev KeepsHere : List ℕ → Request → Type 0
KeepsHere host request = (length (text_here host request) ≤ head_limit + length (body_text request)) × (length (body_text request) ≤ body_limit)

-- ---- what is asked

collection_some : (kind : Kind) → 0 < length (collection_path kind)
collection_some kinds.User = omega arith
collection_some kinds.Group = omega arith

resource_some : (kind : Kind) (id : List ℕ) → 0 < length (resource_path kind id)
resource_some kinds.User id = omega arith
resource_some kinds.Group id = omega arith

-- what is asked at the path of a collection
at_collection : (kind : Kind) (m : Message) (answer : Result Request Refusal) → IsAsked (collection_asked kind m) answer → IsAsked (routed_asked (route_of (collection_path kind)) m) answer
at_collection kinds.User m answer asked = asked
at_collection kinds.Group m answer asked = asked

in_collection : (kind : Kind) (m : Message) (path : List ℕ) (answer : Result Request Refusal) → path ≡ collection_path kind → IsAsked (collection_asked kind m) answer
    → IsAsked (routed_asked (route_of path) m) answer
in_collection kind m path answer is asked =
    subst (λ (p : List ℕ). IsAsked (routed_asked (route_of p) m) answer) (sym is) (at_collection kind m answer asked)

-- and at the path of a resource
at_resource : (kind : Kind) (id : List ℕ) (m : Message) (path : List ℕ) (answer : Result Request Refusal) → IsIdText id → path ≡ resource_path kind id
    → resource_request kind id m ≡ answer → IsAsked (routed_asked (route_of path) m) answer
at_resource kind id m path answer named is asked =
    subst (λ (p : List ℕ). IsAsked (routed_asked (route_of p) m) answer) (sym is)
    (subst (λ r. IsAsked (routed_asked r m) answer) (sym (locations_are_routed.routed kind id (utf8_bytes id named.0) named.0 named.1)) asked)

abbrev accepted_where : Bool → Result (Unit {0}) Refusal
accepted_where served = if served then Ok tt else Err MediaType

content_sent_is : (served : Bool) (read : Result Content ContentFault) (content : Content) → served ≡ true → read ≡ Ok content
    → (accepted_where served >>= (λ _. content_read read)) ≡ Ok content
content_sent_is served read content is found = rw (is, found) refl

abbrev both_conditions : Condition → Condition → Result (Condition × Condition) Refusal
both_conditions first second = Ok (first, second)

conditions_are : (a b : Result Condition Refusal) (first second : Condition) → a ≡ Ok first → b ≡ Ok second
    → (a >>= (λ x. b >>= (λ y. both_conditions x y))) ≡ Ok (first, second)
conditions_are a b first second one two = rw (one, two) refl

content_found : (content : Content) → IsSentContent content → content_in (content_kind content) (content_text content) ≡ Ok content
content_found content is = round_trips.content_sent content is.0 is.1

-- ---- POST

created : (host : List ℕ) (content : Content) → IsAuthority host → IsSentContent content → KeepsHere host (Create content) → SpellsRequest (text_here host (Create content)) (Create content)
created host content lawful is keeps =
    let kind = content_kind content in
    let path = collection_path kind in
    let body = content_text content in
    let long = Some (decimal (length body)) in
    let fields = written_lines (lines_of host long None None) in
    let m : Message = record { head = head_with (codes "POST") path fields; body = body } in
    let found = finds host long None None in
    let at = is_target path (collection_some kind) (path_bytes path (collection_is_path kind)) in
    let sent = sent_with_body host (codes "POST") path body Always Always post_is_token at (λ f. refl) lawful (tt, tt) (tt, tt) keeps.1 keeps.0 in
    let read = content_sent_is _ (content_in kind body) content found.media (content_found content is) in
    record {
      message = m;
      is = sent.0;
      accepted = sent.1;
      asks = in_collection kind m (path_of path) (Ok (Create content)) (path_alone path (collection_is_path kind)) (ap (λ (r : Result Content Refusal). r >>= (λ c. Ok (Create c))) read);
    }

-- ---- PUT

replaced : (host id : List ℕ) (content : Content) (first second : Condition) → IsAuthority host → IsIdText id → IsSentContent content → IsSentCondition first → IsSentCondition second
    → KeepsHere host (Replace id content first second) → SpellsRequest (text_here host (Replace id content first second)) (Replace id content first second)
replaced host id content first second lawful named is one two keeps =
    let kind = content_kind content in
    let path = resource_path kind id in
    let body = content_text content in
    let long = Some (decimal (length body)) in
    let fields = written_lines (lines_of host long (condition_value first) (condition_value second)) in
    let m : Message = record { head = head_with (codes "PUT") path fields; body = body } in
    let found = finds host long (condition_value first) (condition_value second) in
    let lawful_path = resource_is_path kind id (utf8_bytes id named.0) in
    let at = is_target path (resource_some kind id) (path_bytes path lawful_path) in
    let sent = sent_with_body host (codes "PUT") path body first second put_is_token at (λ f. refl) lawful one two keeps.1 keeps.0 in
    let read = content_sent_is _ (content_in kind body) content found.media (content_found content is) in
    let conditions = conditions_are (condition_in (values (codes "if-match") fields)) (condition_in (values (codes "if-none-match") fields)) first second
    (ap condition_in found.first ∙ condition_found first one) (ap condition_in found.second ∙ condition_found second two) in
    record {
      message = m;
      is = sent.0;
      accepted = sent.1;
      asks = at_resource kind id m (path_of path) (Ok (Replace id content first second)) named (path_alone path lawful_path)
          (λ i. read i >>= (λ c. conditions i >>= (λ x. Ok (Replace id c x.0 x.1))));
    }

-- ---- GET on one resource

retrieved : (host : List ℕ) (kind : Kind) (id : List ℕ) (first second : Condition) → IsAuthority host → IsIdText id → IsSentCondition first → IsSentCondition second
    → KeepsHere host (Retrieve kind id first second) → SpellsRequest (text_here host (Retrieve kind id first second)) (Retrieve kind id first second)
retrieved host kind id first second lawful named one two keeps =
    let path = resource_path kind id in
    let fields = written_lines (lines_of host None (condition_value first) (condition_value second)) in
    let m : Message = record { head = head_with (codes "GET") path fields; body = [] } in
    let found = finds host None (condition_value first) (condition_value second) in
    let lawful_path = resource_is_path kind id (utf8_bytes id named.0) in
    let at = is_target path (resource_some kind id) (path_bytes path lawful_path) in
    let sent = sent_bodiless host (codes "GET") path first second get_is_token at (λ f. refl) lawful one two keeps.0 in
    let conditions = conditions_are (condition_in (values (codes "if-match") fields)) (condition_in (values (codes "if-none-match") fields)) first second
    (ap condition_in found.first ∙ condition_found first one) (ap condition_in found.second ∙ condition_found second two) in
    record {
      message = m;
      is = sent.0;
      accepted = sent.1;
      asks = at_resource kind id m (path_of path) (Ok (Retrieve kind id first second)) named (path_alone path lawful_path)
          (ap (λ (r : Result (Condition × Condition) Refusal). r >>= (λ x. Ok (Retrieve kind id x.0 x.1))) conditions);
    }

-- ---- GET on a collection

-- a filter that a query may have
abbrev IsSentFilter : Expression → Type 0
IsSentFilter filter = IsFilterText filter × KeepsFilterLimits filter

is_sent_filter : (filter : Option Expression) → IfSome filter IsFilterText → IfSome filter KeepsFilterLimits → IfSome filter IsSentFilter
is_sent_filter None text limits = tt
is_sent_filter (Some filter) text limits = (text, limits)

small_bytes : (text : List ℕ) → AllByRecursion (λ byte. byte < 256) text → All IsByte text
small_bytes [] all = All-nil IsByte
small_bytes (b ∷ text) all = All-cons IsByte b text all.0 (small_bytes text all.1)

filter_is_text : (filter : Option Expression) → IfSome filter IsSentFilter → IsTextOf (option_map filter_text filter)
filter_is_text None is = tt
filter_is_text (Some filter) is = record { bytes = small_bytes (filter_text filter) (utf8_bytes (filter_text filter) is.0); utf8 = is.0 }

filter_read : (filter : Option Expression) → IfSome filter IsSentFilter → IsFilter (option_map filter_text filter) (Ok filter)
filter_read None is = refl
filter_read (Some filter) is = text_spells filter is.1.0 is.1.1

abbrev page_of_both : ℤ → Option ℤ → Result (ℤ × Option ℤ) Refusal
page_of_both start count = Ok (start, count)

page_is : (a : Result ℤ Refusal) (b : Result (Option ℤ) Refusal) (start : ℤ) (count : Option ℤ) → a ≡ Ok start → b ≡ Ok count
    → (a >>= (λ x. b >>= (λ y. page_of_both x y))) ≡ Ok (start, count)
page_is a b start count one two = rw (one, two) refl

searched : (kind : Kind) (filter : Option Expression) (start : ℤ) (count : Option ℤ) → IfSome filter IsSentFilter → IsShortNumber start → IfSome count IsShortNumber
    → IsSearch kind (query_text filter start count) (Ok (Search kind filter start count))
searched kind filter start count lawful first second =
    let query = query_text filter start count in
    let starts = start_read start first in
    let counts = count_read count second in
    let found = reads (option_map filter_text filter) (start_value start) (option_map signed_decimal count) (filter_is_text filter lawful) starts.1 counts.1 in
    let page : page_of query ≡ Ok (start, count) = page_is (start_of query) (count_of query) start count (ap start_in found.second ∙ starts.0) (ap count_in found.third ∙ counts.0) in
    let P : Result (ℤ × Option ℤ) Refusal → Type 0 = λ p. IsSearchOn kind query p (Ok (Search kind filter start count)) in
    let F : Option (List ℕ) → Type 0 = λ text. IsFilter text (Ok filter) in
    subst P (sym page) (Ok filter, subst F (sym found.first) (filter_read filter lawful), refl)

found_by : (host : List ℕ) (kind : Kind) (filter : Option Expression) (start : ℤ) (count : Option ℤ) → IsAuthority host → IfSome filter IsSentFilter → IsShortNumber start → IfSome count IsShortNumber
    → KeepsHere host (Search kind filter start count) → SpellsRequest (text_here host (Search kind filter start count)) (Search kind filter start count)
found_by host kind filter start count lawful is first second keeps =
    let path = collection_path kind in
    let query = query_text filter start count in
    let target = with_query path query in
    let fields = written_lines (lines_of host None None None) in
    let m : Message = record { head = head_with (codes "GET") target fields; body = [] } in
    let at = is_target target (target_some path query (collection_some kind)) (target_bytes path query (collection_is_path kind) (query_bytes (option_map filter_text filter) (start_value start) (option_map signed_decimal count))) in
    let sent = sent_bodiless host (codes "GET") target Always Always get_is_token at (λ f. refl) lawful (tt, tt) (tt, tt) keeps.0 in
    let P : List ℕ → Type 0 = λ q. IsSearch kind q (Ok (Search kind filter start count)) in
    record {
      message = m;
      is = sent.0;
      accepted = sent.1;
      asks = in_collection kind m (path_of target) (Ok (Search kind filter start count)) (path_found path query (collection_is_path kind))
          (subst P (sym (query_found path query (collection_is_path kind))) (searched kind filter start count is first second));
    }

spelled_here : (host : List ℕ) (request : Request) → IsAuthority host → HasLawfulParts request → IsWritable request → KeepsHere host request → SpellsRequest (text_here host request) request
spelled_here host (Create content) lawful parts seen keeps = created host content lawful parts.1 keeps
spelled_here host (Retrieve kind id first second) lawful parts seen keeps =
    retrieved host kind id first second lawful parts.0 (seen.0, parts.2) (seen.1, parts.3) keeps
spelled_here host (Search kind filter start count) lawful parts seen keeps =
    found_by host kind filter start count lawful (is_sent_filter filter parts.0 seen.0) seen.1 seen.2 keeps
spelled_here host (Replace id content first second) lawful parts seen keeps =
    replaced host id content first second lawful parts.0 parts.1 (seen.0, parts.2) (seen.1, parts.3) keeps

-- ---- at the path of the server

collection_same : (kind : Kind) → collection_in (codes "/v2") kind ≡ collection_path kind
collection_same kinds.User = refl
collection_same kinds.Group = refl

resource_same : (kind : Kind) (id : List ℕ) → location_text (codes "/v2") kind id ≡ resource_path kind id
unfolding location_text
resource_same kinds.User id = refl
resource_same kinds.Group id = refl

target_same : (request : Request) → target_text (codes "/v2") request ≡ target_here request
target_same (Create content) = collection_same (content_kind content)
target_same (Retrieve kind id first second) = resource_same kind id
target_same (Search kind filter start count) = ap (λ (p : List ℕ). with_query p (query_text filter start count)) (collection_same kind)
target_same (Replace id content first second) = resource_same (content_kind content) id

text_same : (host path : List ℕ) (request : Request) → path ≡ codes "/v2" → text_at host path request ≡ text_here host request
text_same host path request is =
    ap (λ (t : List ℕ). request_text (method_text request) t (written_lines (request_lines host request)) (body_text request))
    (ap (λ (p : List ℕ). target_text p request) is ∙ target_same request)

pub spelled_by : (host path : List ℕ) (request : Request) → IsAuthority host → HasLawfulParts request → IsWritable request → KeepsLimitsAt host path request
    → SpellsRequest (text_at host path request) request
spelled_by host path request lawful parts seen keeps =
    let same = text_same host path request keeps.2 in
    let short = subst (λ (t : List ℕ). length t ≤ head_limit + length (body_text request)) same keeps.0 in
    subst (λ (t : List ℕ). SpellsRequest t request) (sym same) (spelled_here host request lawful parts seen (short, keeps.1))

pub requests_are_spelled : RequestsAreSpelled
requests_are_spelled base request lawful parts seen keeps =
    let authority = subst IsAuthority (sym (base_host base lawful)) (authority_is_lawful base lawful) in
    spelled_by (host_of base) (service_path_of base) request authority parts seen keeps
