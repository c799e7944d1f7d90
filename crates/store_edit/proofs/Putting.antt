-- Rows that are put, and keys of the organisation beside theirs.
use Rattle.std.proofs.Common.{◌≡◌, ◌∙◌, ℕ, true, false, List, Some, refl, sym, bytes_eq, ◌∷◌}
use Rattle.std.proofs.lemmas.Bool.{or_parts as or_false}
use Rattle.base_lemmas.proofs.Options.{eqb-same_Some as own_number}
use Rattle.store_edit.specs.Rows.{change_to}
use Rattle.store_rows.specs.Forms.{FitsForm, Form, key_of, row_bytes}
use Rattle.store_rows.specs.Keys as key
use Rattle.store_rows.specs.Keys.{Key, key_eq}
use Rattle.model.specs.Tenant.{Tenant}
use Rattle.store_abstraction.specs.Changes.{Change, IsOf, is_changed}
use Rattle.store_abstraction.specs.Local.{IsIn}
use Rattle.store_abstraction.specs.Plan.{OrgPlan}
use Rattle.store_abstraction.specs.Records.{is_org_key}
use Rattle.store_abstraction.specs.Stands.{org_of_key, row_in}

-- the change to a row is to what the tenant has there
pub put_is_of : {U : Type 0} (f : Form U) (org : ℕ) (q : OrgPlan) (u : Tenant) (row : U) → FitsForm f row → org_of_key (key_of f row) ≡ Some org → row_in q u (key_of f row) ≡ Some (row_bytes f row)
    → IsOf org q u (change_to f row)
put_is_of f org q u row fits own there = (f.fits (f.keyed row) fits.0, own, there)

-- whatever the tenant has there, it is a change at a key of the organisation
pub put_is_in : {U : Type 0} (f : Form U) (org : ℕ) (row : U) → FitsForm f row → org_of_key (key_of f row) ≡ Some org → IsIn org (change_to f row)
put_is_in f org row fits own = (f.fits (f.keyed row) fits.0, own)

-- ---- keys beside those of the changes

-- a key that isn't changed is none of the first change, and isn't changed by the others
pub beside : (c : Change) (changes : List Change) (k : Key) → is_changed (c ∷ changes) k ≡ false → (key_eq k c.0 ≡ false) × (is_changed changes k ≡ false)
beside c changes k e = or_false (key_eq k c.0) (is_changed changes k) e

pub other_org : (org : ℕ) (k : Key) → org_of_key k ≡ Some org → key_eq k (key.Org org) ≡ false → is_org_key k ≡ false
other_org org (key.Org m) of e = absurd (true_false (sym (own_number m org of) ∙ e))
  where
    true_false : true ≡ false → ⊥
    true_false e = cc
other_org org k of e = refl
