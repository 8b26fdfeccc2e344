-- Values that differ only in the case of names and the order of members.
use Rattle.std.specs.Prelude.{◌≡◌, ℕ, List, Option, Some, None}
use Rattle.serde_json.specs.Data.{Data, array, object, Items, no_items, item, Members}
use Rattle.scim_json.specs.Attributes.{named, repeats}

-- Objects are alike if both repeat a name or neither does, and if each name, in any case, has alike values in both or a
-- value in neither. Lists are alike if their items are, one by one
mutual
  pub data Alike : Data → Data → Type 0 where
    same : (d : Data) → Alike d d
    lists : (ds es : Items) → ItemsAlike ds es → Alike (array ds) (array es)
    objects : (ms ns : Members) → repeats ms ≡ repeats ns
        → ((name : List ℕ) → AlikeIf (named name ms) (named name ns)) → Alike (object ms) (object ns)

  pub data ItemsAlike : Items → Items → Type 0 where
    no_more : ItemsAlike no_items no_items
    one_more : (d e : Data) (ds es : Items) → Alike d e → ItemsAlike ds es → ItemsAlike (item d ds) (item e es)

  pub data AlikeIf : Option Data → Option Data → Type 0 where
    neither : AlikeIf None None
    both : (d e : Data) → Alike d e → AlikeIf (Some d) (Some e)
