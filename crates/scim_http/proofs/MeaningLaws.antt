-- A message asks for one thing.
use Rattle.std.proofs.Common.{◌≡◌, sym, ap, ◌∙◌, ℕ, List, Option, Some, None}
use Rattle.std.specs.Prelude.{ℤ, Result, Ok, Err}
use Rattle.scim_key.specs.declared.records.Kind.{Kind}
use Rattle.scim_filter.specs.Expressions.{Expression}
use Rattle.scim_filter.proofs.Progress.{one_reading}
use Rattle.scim_message.specs.declared.messages.Request.{Request}
use Rattle.scim_message.specs.declared.refusals.Refusal.{Refusal}
use Rattle.http_text.specs.Message.{target_of}
use Rattle.scim_http.specs.Laws.{OneMeaning}
use Rattle.scim_http.specs.Meaning.{Asked, outright, by_query, IsAsked, routed_asked}
use Rattle.scim_http.specs.Routes.{path_of, route_of}
use Rattle.scim_http.specs.Searches.{IsFilter, IsSearchOn, search_with, page_of}

one_filter : (text : Option (List ℕ)) (one two : Result (Option Expression) Refusal) → IsFilter text one → IsFilter text two → one ≡ two
one_filter None one two a b = sym a ∙ b
one_filter (Some text) (Ok None) two a b = absurd a
one_filter (Some text) (Ok (Some e)) (Ok None) a b = absurd b
one_filter (Some text) (Ok (Some e)) (Ok (Some f)) a b = ap (λ (x : Expression). Ok (Some x)) (one_reading text e f a b)
one_filter (Some text) (Ok (Some e)) (Err y) a b = absurd (b.1 e a)
one_filter (Some text) (Err x) (Ok None) a b = absurd b
one_filter (Some text) (Err x) (Ok (Some f)) a b = absurd (a.1 f b)
one_filter (Some text) (Err x) (Err y) a b = ap (λ (r : Refusal). Err r) (a.0 ∙ sym b.0)

one_search : (kind : Kind) (query : List ℕ) (page : Result (ℤ × Option ℤ) Refusal) (one two : Result Request Refusal) → IsSearchOn kind query page one → IsSearchOn kind query page two → one ≡ two
one_search kind query (Err refusal) one two a b = sym a ∙ b
one_search kind query (Ok page) one two a b = sym a.2 ∙ ap (search_with kind page) (one_filter _ a.0 b.0 a.1 b.1) ∙ b.2

one_asked : (asked : Asked) (one two : Result Request Refusal) → IsAsked asked one → IsAsked asked two → one ≡ two
one_asked (outright asked) one two a b = sym a ∙ b
one_asked (by_query kind query) one two a b = one_search kind query (page_of query) one two a b

pub one_meaning : OneMeaning
one_meaning m one two a b = one_asked (routed_asked (route_of (path_of (target_of m.head.start))) m) one two a b
