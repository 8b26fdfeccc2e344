use Rattle.std.proofs.Common.{◌≡◌, true, false, refl, sym, subst, rules, arith}
use Rattle.std.proofs.lemmas.Grind.{common_steps}
use Rattle.std.specs.Prelude.{codes}
use Rattle.std.specs.Str.{bytes_eq}
use Rattle.http_text.specs.Message.{method_of, target_of}
use Rattle.scim_http.specs.Meaning.{by_query, collection_asked, IsAsked, TellsOf}
use Rattle.scim_http.specs.Routes.{query_of}
use Rattle.scim_http.proofs.requests.on_collection.Goals as goal

pub returns-in-GET : goal.returns-in-GET
returns-in-GET c =
    let method = method_of c.args.incoming.now.head.start in
    let post : bytes_eq method (codes "POST") ≡ false = search rules in
    let get : bytes_eq method (codes "GET") ≡ true = grind (arith, common_steps) in
    let query : c.query_of.result.now ≡ query_of (target_of c.args.incoming.now.head.start) = search rules in
    let asked : collection_asked c.args.kind c.args.incoming.now ≡ by_query c.args.kind c.query_of.result.now = rw (post, get, query) refl in
    subst (λ a. TellsOf (IsAsked a) c.search.result) (sym asked) c.search.ensures
