-- Which names the source has; and requests that leave the entries of other records as they are.
use Rattle.std.proofs.Common.{◌≡◌, ℕ, zero, suc, true, List, [], ◌∷◌, ◌++◌, map, Some, inl, inr, refl, ap, sym, ◌∙◌, subst}
use Rattle.std.specs.List.{AllByRecursion}
use Rattle.scim_key.specs.declared.records.RecordName.{RecordName}
use Rattle.scim_resource.specs.Contents.{content_name}
use Rattle.scim_resource.specs.declared.contents.Content.{Content}
use Rattle.scim_message.specs.declared.messages.Request.{Request}
use Rattle.provider_core.specs.Stories.{Entry, first_entry, renew_at, AllGoOn}
use Rattle.provider_core.proofs.TableLaws.{at_more, at_push, at_renew, go_on_staying, go_on_further}
use Rattle.source_csv.specs.Records.{row_name}
use Rattle.source_csv.specs.declared.rows.Row.{Row}
use Rattle.connector_core.specs.History.{History}
use Rattle.connector_core.specs.Changing.{names_with}
use Rattle.world_model.specs.Invariant.{Names}
use Rattle.world_model.specs.Others.{Theirs, LeavesAlone}
use Rattle.world_model.specs.Room.{after_them}
use Rattle.world_model.specs.Safe.{IsAt, Has}
use Rattle.world_model.specs.World.{World, names}
use Rattle.world_model.proofs.Counting.{has_old, has_new, with_name}
use Rattle.world_model.proofs.Meanwhile.{all_alone}
use Rattle.world_model.proofs.Onwards.{among_on}
use Rattle.world_model.proofs.Stepping.{renewed_others}

-- ---- names of the source

kept_names : (names : List RecordName) (rows : History) (q : RecordName) → Has names q → Has (names_with names rows) q
kept_names names [] q has = has
kept_names names (row ∷ rows) q has = kept_names (with_name names (row_name row)) rows q (has_old names (row_name row) has.0 q has.1)

pub every_name : (names : List RecordName) (rows : History) (i : ℕ) (row : Row) → IsAt rows i row → Has (names_with names rows) (row_name row)
every_name names [] i row at = absurd (cc)
every_name names (r ∷ rows) zero row at =
    let same : r ≡ row = cc in
    subst (λ (x : Row). Has (names_with names (r ∷ rows)) (row_name x)) same (kept_names (with_name names (row_name r)) rows (row_name r) (has_new names (row_name r)))
every_name names (r ∷ rows) (suc i) row at = every_name (with_name names (row_name r)) rows i row at

-- ---- the entries of other records stay

pub record LeavesOthers (es fs : List Entry) (name : RecordName) : Type 0 where
  pub grows : AllGoOn es fs
  pub there : (j : ℕ) (f : Entry) → IsAt es j f → (f.name ≡ name → ⊥) → IsAt fs j f
  pub back : (j : ℕ) (f : Entry) → IsAt fs j f → (f.name ≡ name → ⊥) → IsAt es j f

pub leaves_all : (es : List Entry) (name : RecordName) → LeavesOthers es es name
leaves_all es name = record { grows = go_on_staying es; there = λ j f at other. at; back = λ j f at other. at }

pub leaves_further : (es fs gs : List Entry) (name : RecordName) → LeavesOthers es fs name → LeavesOthers fs gs name → LeavesOthers es gs name
leaves_further es fs gs name one two = record {
  grows = go_on_further es fs gs one.grows two.grows;
  there = λ j f at other. two.there j f (one.there j f at other) other;
  back = λ j f at other. one.back j f (two.back j f at other) other;
}

place_named : (es : List Entry) (i : ℕ) (e : Entry) (name : RecordName) → IsAt es i e → e.name ≡ name → (j : ℕ) (f : Entry) → IsAt es j f → j ≡ i → f.name ≡ name
place_named es i e name at named j f here same =
    let there : IsAt es i f = subst (λ (k : ℕ). IsAt es k f) same here in
    let entries : Some f ≡ Some e = sym there ∙ at in
    let equal : f ≡ e = cc in
    ap (λ (x : Entry). x.name) equal ∙ named

pub renewing_leaves : (es : List Entry) (i : ℕ) (e : Entry) (content : Content) (name : RecordName) → IsAt es i e → e.name ≡ name → AllGoOn es (renew_at i content es)
    → LeavesOthers es (renew_at i content es) name
renewing_leaves es i e content name at named grows = record {
  grows = grows;
  there = λ j f at_f other. renewed_others es i j f content at_f (λ same. other (place_named es i e name at named j f at_f same));
  back = λ j f at_f other.
      let (d, here, which) = at_renew i content es j f at_f in
      elim which [
        | inl old ↦ subst (λ (x : Entry). IsAt es j x) (sym old) here
        | inr new ↦ absurd (other (ap (λ (x : Entry). x.name) new.1 ∙ place_named es i e name at named j d here new.0))
      ];
}

pub adding_leaves : (es : List Entry) (content : Content) (name : RecordName) → content_name content ≡ name → AllGoOn es (es ++ first_entry content ∷ [])
    → LeavesOthers es (es ++ first_entry content ∷ []) name
adding_leaves es content name named grows = record {
  grows = grows;
  there = λ j f at other. at_more es (first_entry content ∷ []) j f at;
  back = λ j f at other. elim (at_push es (first_entry content) j f at) [
    | inl old ↦ old
    | inr new ↦ absurd (other (ap (λ (x : Entry). x.name) (sym new.1) ∙ named))
  ];
}

-- ---- others act

-- the entries of our other records stay
pub record LeavesOurs (ours : Names) (es fs : List Entry) (name : RecordName) : Type 0 where
  pub grows : AllGoOn es fs
  pub there : (j : ℕ) (f : Entry) → IsAt es j f → ours f.name ≡ true → (f.name ≡ name → ⊥) → IsAt fs j f
  pub back : (j : ℕ) (f : Entry) → IsAt fs j f → ours f.name ≡ true → (f.name ≡ name → ⊥) → IsAt es j f

pub ours_further : (ours : Names) (es fs gs : List Entry) (name : RecordName) → LeavesOurs ours es fs name → LeavesOurs ours fs gs name → LeavesOurs ours es gs name
ours_further ours es fs gs name one two = record {
  grows = go_on_further es fs gs one.grows two.grows;
  there = λ j f at mine other. two.there j f (one.there j f at mine other) mine other;
  back = λ j f at mine other. one.back j f (two.back j f at mine other) mine other;
}

pub leaves_ours : (ours : Names) (es fs : List Entry) (name : RecordName) → LeavesOthers es fs name → LeavesOurs ours es fs name
leaves_ours ours es fs name l = record { grows = l.grows; there = λ j f at mine other. l.there j f at other; back = λ j f at mine other. l.back j f at other }

pub them_leave : (ours : Names) (w : World) (requests : List Request) (name : RecordName) → AllByRecursion (LeavesAlone ours) requests → LeavesOurs ours w.entries (after_them w requests).entries name
them_leave ours w requests name alone = record {
  grows = (among_on w (map Theirs requests)).stories;
  there = λ j f at mine other. (all_alone ours f.name mine w requests alone).onward j f refl at;
  back = λ j f at mine other. (all_alone ours f.name mine w requests alone).back j f refl at;
}
