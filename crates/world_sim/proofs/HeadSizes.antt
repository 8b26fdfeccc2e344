-- Every request of a run keeps the limits of heads and bodies, and so does every answer.
use Rattle.std.proofs.Common.{◌≡◌, ℕ, suc, ◌+◌, ◌*◌, ◌-◌, ◌/◌, ◌%◌, ◌≤◌, Bool, true, false, List, [], ◌∷◌, ◌++◌, length, codes, take, Option, Some, None, refl, ap, sym, subst, arith, length-append, length-take, length-drop, append-nil, lit<}
use Rattle.std.specs.Prelude.{pos, zero}
use Rattle.std.proofs.lemmas.Bool.Decides.{nat_tests}
use Rattle.std.proofs.lemmas.Fmt.{length-decimal-le}
use Rattle.std.specs.Fmt.{decimal}
use Rattle.std.specs.List.{join_by}
use Rattle.serde_json.specs.Written.{compact_text}
use Rattle.form_urlencoded.specs.Form.{append_pair}
use Rattle.scim_key.specs.Bases.{IsBase, base_fault, authority_of}
use Rattle.scim_key.specs.Identifiers.{id_text, hex_digit, lower_hex}
use Rattle.scim_resource.specs.Rows.{last_version}
use Rattle.scim_key.specs.declared.records.Kind.{Kind}
use Rattle.scim_key.specs.declared.records.Kind.TheVariants as kinds
use Rattle.scim_version.specs.Tags.{version_tag}
use Rattle.scim_version.specs.declared.conditions.Condition.TheVariants.{Always, Tags}
use Rattle.scim_resource.specs.Contents.{content_kind}
use Rattle.scim_resource.specs.Locations.{location_text}
use Rattle.scim_resource.specs.Writing.{content_data}
use Rattle.scim_resource.specs.declared.contents.Content.{Content}
use Rattle.scim_filter.specs.Expressions.{Expression}
use Rattle.scim_filter.specs.Texts.{filter_text}
use Rattle.scim_message.specs.declared.messages.Request.{Request}
use Rattle.scim_message.specs.declared.messages.Request.TheVariants.{Create, Retrieve, Search, Replace}
use Rattle.scim_message.specs.declared.messages.Answer.{Answer}
use Rattle.scim_message.specs.Bodies.{answer_location, body_text as answer_body}
use Rattle.scim_message.specs.Messages.{answer_status}
use Rattle.http_text.specs.Response.{Line, written_lines}
use Rattle.scim_http.specs.Replies.{stated_type, lines_of as reply_lines_of, answer_lines, shown_tag, is_created, stated_length as reply_length, value_if}
use Rattle.scim_client.specs.AnswerLaws.{KeepsAnswerLimits}
use Rattle.scim_client.specs.Requests.{with_query, collection_in, target_text, method_text, body_text, stated_length, condition_value, if_match_of, if_none_match_of, lines_of, request_lines}
use Rattle.scim_client.specs.ServicePaths.{host_of}
use Rattle.scim_client.specs.Spelling.{KeepsLimits, KeepsLimitsAt}
use Rattle.scim_client.proofs.ServicePathLemmas.{base_host, base_path}
use Rattle.world_sim.proofs.TextSizes.{IsWithin, printed, no_lines, with_line, request_most, response_most, parameter_short, location_short}

-- ---- small texts

pub within : (text : List ℕ) (n : ℕ) → length text ≤ n → IsWithin n (Some text)
within text n short other is = let same : text ≡ other = cc in subst (λ (t : List ℕ). length t ≤ n) same short

pub nothing_within : (n : ℕ) → IsWithin n None
nothing_within n text is = absurd (cc)

pub base_short : (base : List ℕ) → IsBase base → length base ≤ 110
unfolding base_fault
base_short base lawful = grind (arith, nat_tests)

hex_length : (count n : ℕ) → length (lower_hex count n) ≡ count
unfolding lower_hex
hex_length zero n = refl
hex_length (suc count) n = omega (arith, length-append (lower_hex count (n / 16)) (hex_digit (n % 16) ∷ []), hex_length count (n / 16))

pub id_length : (n : ℕ) → length (id_text n) ≡ 36
unfolding id_text
id_length n = omega (arith, length-append (codes "5c1a0000-0000-8000-8000-") (lower_hex 12 n), hex_length 12 n)

pub id_short : (n : ℕ) → length (id_text n) ≤ 36
id_short n = omega (arith, id_length n)

pub tag_short : (n : ℕ) → n ≤ last_version → length (version_tag n) ≤ 22
tag_short n few = omega (arith, length-append (decimal n) (34 ∷ []), length-decimal-le 20 n (lit< tt) (omega (arith, few)) (omega (arith, few)))

length_short : (n : ℕ) → n ≤ 100000 → length (decimal n) ≤ 20
length_short n small = length-decimal-le 20 n (lit< tt) (omega (arith, small)) (omega (arith, small))

pub length_within : (body : List ℕ) → length body ≤ 30000 → IsWithin 20 (Some (decimal (length body)))
length_within body small = within (decimal (length body)) 20 (length_short (length body) (omega (arith, small)))

pub location_within : (base : List ℕ) (kind : Kind) (id : List ℕ) → length base ≤ 110 → length id ≤ 36 → IsWithin 226 (Some (location_text base kind id))
location_within base kind id short id_most = within (location_text base kind id) 226 (omega (arith, location_short base kind id, short, id_most))

-- ---- requests

lines_most : (host : List ℕ) (long first second : Option (List ℕ)) → length host ≤ 110 → IsWithin 20 long → IsWithin 22 first → IsWithin 22 second
    → length (printed (written_lines (lines_of host long first second))) ≤ 316
lines_most host long first second at size one two =
    let last : List Line = (codes "If-None-Match", second) ∷ [] in
    let matching : List Line = (codes "If-Match", first) ∷ last in
    let typed : List Line = (codes "Content-Type", stated_type long) ∷ matching in
    let sized : List Line = (codes "Content-Length", long) ∷ typed in
    let closing : List Line = (codes "Connection", Some (codes "close")) ∷ sized in
    let accepting : List Line = (codes "Accept", Some (codes "application/scim+json")) ∷ closing in
    with_line (codes "Host") (Some host) accepting 4 110 198 (omega arith) (within host 110 at)
    (with_line (codes "Accept") (Some (codes "application/scim+json")) closing 6 21 167 (omega arith) (within (codes "application/scim+json") 21 (omega arith))
    (with_line (codes "Connection") (Some (codes "close")) sized 10 5 148 (omega arith) (within (codes "close") 5 (omega arith))
    (with_line (codes "Content-Length") long typed 14 20 110 (omega arith) size
    (with_line (codes "Content-Type") (stated_type long) matching 12 21 73 (omega arith) (type_within long)
    (with_line (codes "If-Match") first last 8 22 39 (omega arith) one (with_line (codes "If-None-Match") second [] 13 22 0 (omega arith) two no_lines))))))
  where
    type_within : (long : Option (List ℕ)) → IsWithin 21 (stated_type long)
    type_within None = nothing_within 21
    type_within (Some text) = within (codes "application/scim+json") 21 (omega arith)

method_short : (request : Request) → length (method_text request) ≤ 4
method_short (Create content) = omega arith
method_short (Retrieve kind id if_match if_none_match) = omega arith
method_short (Search kind wanted start count) = omega arith
method_short (Replace id content if_match if_none_match) = omega arith

authority_short : (base : List ℕ) → length base ≤ 110 → length (authority_of base) ≤ 110
authority_short base short = omega (arith, short, length-drop 7 (take (length base - 3) base), length-take (length base - 3) base)

host_short : (base : List ℕ) → IsBase base → length (host_of base) ≤ 110
host_short base is = subst (λ (h : List ℕ). length h ≤ 110) (sym (base_host base is)) (authority_short base (base_short base is))

-- what a request of a run keeps, as far as lengths go
pub record IsBrief (request : Request) : Type 0 where
  pub target : length (target_text (codes "/v2") request) ≤ 3000
  pub body : length (body_text request) ≤ 21000
  pub long : IsWithin 20 (stated_length request)
  pub first : IsWithin 22 (condition_value (if_match_of request))
  pub second : IsWithin 22 (condition_value (if_none_match_of request))

keeps_limits_at : (host : List ℕ) → length host ≤ 110 → (request : Request) → IsBrief request → KeepsLimitsAt host (codes "/v2") request
keeps_limits_at host short request brief =
    let lines = lines_most host (stated_length request) (condition_value (if_match_of request)) (condition_value (if_none_match_of request)) short brief.long brief.first brief.second in
    let head = request_most (method_text request) (target_text (codes "/v2") request) (written_lines (request_lines host request)) (body_text request) 4 3000 316 (method_short request) brief.target lines in
    (omega (arith, head), omega (arith, brief.body), refl)

pub keeps_limits : (base : List ℕ) → IsBase base → (request : Request) → IsBrief request → KeepsLimits base request
keeps_limits base is request brief =
    subst (λ (p : List ℕ). KeepsLimitsAt (host_of base) p request) (sym (base_path base is)) (keeps_limits_at (host_of base) (host_short base is) request brief)

collection_short : (kind : Kind) → length (collection_in (codes "/v2") kind) ≤ 10
collection_short kinds.User = omega arith
collection_short kinds.Group = omega arith

resource_short : (kind : Kind) (id : List ℕ) → length (location_text (codes "/v2") kind id) ≤ 11 + 3 * length id
resource_short kind id = omega (arith, location_short (codes "/v2") kind id)

query_most : (path query : List ℕ) → length (with_query path query) ≤ length path + 1 + length query
query_most path [] = omega arith
query_most path (byte ∷ query) = omega (arith, length-append path (codes "?" ++ byte ∷ query))

pub create_brief : (content : Content) → length (compact_text (content_data content)) ≤ 21000 → IsBrief (Create content)
create_brief content short = record {
  target = omega (arith, collection_short (content_kind content));
  body = short;
  long = within (decimal (length (compact_text (content_data content)))) 20 (length_short (length (compact_text (content_data content))) (omega (arith, short)));
  first = nothing_within 22;
  second = nothing_within 22;
}

pub replace_brief : (id tag : List ℕ) (content : Content) → length id ≤ 36 → length tag ≤ 22 → length (compact_text (content_data content)) ≤ 21000
    → IsBrief (Replace id content (Tags (tag ∷ [])) Always)
replace_brief id tag content id_most tag_most short = record {
  target = omega (arith, resource_short (content_kind content) id, id_most);
  body = short;
  long = within (decimal (length (compact_text (content_data content)))) 20 (length_short (length (compact_text (content_data content))) (omega (arith, short)));
  first = within (join_by (λ (t : List ℕ). t) (codes ", ") (tag ∷ [])) 22 (omega (arith, ap (λ (t : List ℕ). length t) (append-nil tag), tag_most));
  second = nothing_within 22;
}

pub search_brief : (kind : Kind) (wanted : Expression) → length (filter_text wanted) ≤ 900 → IsBrief (Search kind (Some wanted) (pos 1) None)
search_brief kind wanted short = record {
  target = omega (
    arith,
    collection_short kind,
    query_most (collection_in (codes "/v2") kind) (append_pair [] (codes "filter") (filter_text wanted)),
    parameter_short (codes "filter") (filter_text wanted),
    short,
  );
  body = omega arith;
  long = nothing_within 20;
  first = nothing_within 22;
  second = nothing_within 22;
}

-- ---- answers

reply_lines_most : (long location tag : Option (List ℕ)) (created : Bool) → IsWithin 20 long → IsWithin 226 location → IsWithin 22 tag
    → length (printed (written_lines (reply_lines_of long location tag created))) ≤ 700
reply_lines_most long location tag created size at version =
    let last : List Line = (codes "Location", value_if created location) ∷ [] in
    let tagged : List Line = (codes "ETag", tag) ∷ last in
    let typed : List Line = (codes "Content-Type", stated_type long) ∷ tagged in
    let located : List Line = (codes "Content-Location", location) ∷ typed in
    let sized : List Line = (codes "Content-Length", long) ∷ located in
    let whole : length (printed (written_lines (reply_lines_of long location tag created))) ≤ 10 + 5 + 4 + 589 =
    with_line (codes "Connection") (Some (codes "close")) sized 10 5 589 (omega arith) (within (codes "close") 5 (omega arith))
    (with_line (codes "Content-Length") long located 14 20 551 (omega arith) size (with_line (codes "Content-Location") location typed 16 226 305 (omega arith) at
    (with_line (codes "Content-Type") (stated_type long) tagged 12 21 268 (omega arith) (type_within long)
    (with_line (codes "ETag") tag last 4 22 238 (omega arith) version (with_line (codes "Location") (value_if created location) [] 8 226 0 (omega arith) (if_within created location at) no_lines))))) in
    omega (arith, whole)
  where
    type_within : (long : Option (List ℕ)) → IsWithin 21 (stated_type long)
    type_within None = nothing_within 21
    type_within (Some text) = within (codes "application/scim+json") 21 (omega arith)

    if_within : (created : Bool) (location : Option (List ℕ)) → IsWithin 226 location → IsWithin 226 (value_if created location)
    if_within true location at = at
    if_within false location at = nothing_within 226

-- what an answer of a run keeps, as far as lengths go
pub record IsBriefAnswer (base : List ℕ) (answer : Answer) : Type 0 where
  pub body : length (answer_body base answer) ≤ 30000
  pub long : IsWithin 20 (reply_length base answer)
  pub location : IsWithin 226 (answer_location base answer)
  pub tag : IsWithin 22 (shown_tag answer)

pub keeps_answer_limits : (base : List ℕ) (answer : Answer) → IsBriefAnswer base answer → KeepsAnswerLimits base answer
keeps_answer_limits base answer brief =
    let lines = reply_lines_most (reply_length base answer) (answer_location base answer) (shown_tag answer) (is_created answer) brief.long brief.location brief.tag in
    let head = response_most (answer_status answer) (written_lines (answer_lines base answer)) (answer_body base answer) 700 lines in
    record { head = omega (arith, head); body = omega (arith, brief.body) }
