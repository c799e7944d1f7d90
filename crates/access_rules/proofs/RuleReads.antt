-- What is read at the key of a sharing rule is that rule.
use Rattle.std.proofs.Common.{◌≡◌, inl, inr, ℕ, ◌<◌, ◌^◌, cond, List, [], ◌∷◌, Option, Some, None, refl, sym, ap, subst, bytes_eq}
use Rattle.std.specs.Option.{option_map}
use Rattle.std.proofs.lemmas.Slice.Eq.{bytes_eq-Decides}
use Rattle.base_lemmas.proofs.Options.{option_map-compose as map_twice}
use Rattle.base_lemmas.proofs.Bools.{by_answer as pick}
use Rattle.std.proofs.lemmas.Option.{same_Some as some_is}
use Rattle.store_rows.specs.declared.sharing.SharingRow.{SharingRow}
use Rattle.store_rows.specs.Forms.{row_bytes}
use Rattle.store_rows.specs.Keys.{Sharing}
use Rattle.store_rows.specs.Reads.{MayStandAt}
use Rattle.store_rows.specs.Rows.{sharing_form}
use Rattle.model.specs.Membership.{Has}
use Rattle.model.specs.Sound.{IsSound}
use Rattle.model.specs.Tenant.{SharingRule, Tenant}
use Rattle.store_codec.specs.Shapes.{FitsIn}
use Rattle.store_abstraction.specs.Metadata.{lower_bytes, named_so, sharing_of}
use Rattle.store_abstraction.specs.Plan.{OrgPlan}
use Rattle.store_abstraction.specs.Stands.{row_in}
use Rattle.store_abstraction.proofs.Found.{IsRowOf}
use Rattle.store_abstraction.proofs.Names.{MakesIds}
use Rattle.access_rules.proofs.SharingFits.{sharing_fits}

-- the rule that a name finds has it
pub named_found : (rules : List SharingRule) (key : List ℕ) (r : SharingRule) → named_so (λ x. x.name) rules key ≡ Some r → Has rules r × (lower_bytes r.name ≡ key)
named_found [] key r e = absurd cc
named_found (x ∷ rules) key r e =
    pick (bytes_eq (lower_bytes x.name) key) (λ b. bytes_eq (lower_bytes x.name) key ≡ b → cond b (Some x) (named_so (λ x. x.name) rules key) ≡ Some r → Has (x ∷ rules) r × (lower_bytes r.name ≡ key))
    (λ _ is g. let same : x ≡ r = some_is x r g in (inl (sym same), subst (λ (y : SharingRule). lower_bytes y.name ≡ key) same ((bytes_eq-Decides (lower_bytes x.name) key).0 is)))
    (λ _ _ g. let more = named_found rules key r g in (inr more.0, more.1))
    refl
    e

-- the row of a rule, if there is one
abbrev pub sharing_there : (org : ℕ) → List ℕ → OrgPlan → Tenant → Option SharingRow
sharing_there org key p t = option_map (sharing_of org) (named_so (λ r. r.name) t.sharing_rules key)

rows_are : (org : ℕ) (key : List ℕ) (p : OrgPlan) (t : Tenant) → row_in p t (Sharing org key) ≡ option_map (row_bytes sharing_form) (sharing_there org key p t)
unfolding row_in
rows_are org key p t = map_twice (row_bytes sharing_form) (sharing_of org) (named_so (λ r. r.name) t.sharing_rules key)

module _ (makes : MakesIds) where
  may : (org : ℕ) (key : List ℕ) (t : Tenant) → org < 2 ^ 32 → IsSound t → (o : Option SharingRule) → named_so (λ r. r.name) t.sharing_rules key ≡ o → MayStandAt sharing_form (org, (tt, key)) (option_map (sharing_of org) o)
  may org key t lo s None e = tt
  may org key t lo s (Some r) e =
      let found = named_found t.sharing_rules key r e in
      (ap (λ (k : List ℕ). (org, (tt, k))) found.1, sharing_fits makes org t lo s r found.0)

  pub sharing_is_row : (org : ℕ) (key : List ℕ) → org < 2 ^ 32 → FitsIn sharing_form.key (org, (tt, key)) → IsRowOf sharing_form org (org, (tt, key)) (sharing_there org key)
  sharing_is_row org key lo fits = record {
    owned = refl;
    fits = fits;
    rows = rows_are org key;
    stands = λ p t s f. may org key t lo s (named_so (λ r. r.name) t.sharing_rules key) refl;
  }
