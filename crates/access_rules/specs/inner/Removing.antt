-- What the removal of a sharing rule changes. No public contract reaches these words.
-- Source: Salesforce, "Sharing Rules".
use Rattle.std.specs.Prelude.{◌≡◌, ℕ, List, [], ◌∷◌, not, None}
use Rattle.std.specs.List.{list_any}
use Rattle.std.specs.Str.{IsUtf8}
use Rattle.store_edit.specs.Rows.{change_to}
use Rattle.store_rows.specs.Forms.{FitsForm}
use Rattle.store_rows.specs.Rows.{org_form, sharing_form}
use Rattle.model.specs.Fields.{same_name}
use Rattle.model.specs.declared.refusal.Refusal.TheVariants.{NotFound}
use Rattle.model.specs.Rules.{Rule, refuse_if}
use Rattle.model.specs.Tenant.{Tenant}
use Rattle.store_codec.specs.Shapes.{FitsIn}
use Rattle.store_abstraction.specs.Changes.{Change}
use Rattle.store_abstraction.specs.Metadata.{lower_bytes, org_of}
use Rattle.access_rules.specs.declared.removing.Remaining.{Remaining}
use Rattle.access_rules.specs.inner.Rows.{key_of_name}
use Rattle.access_rules.specs.Sharing.{without_rule}

-- NOT_FOUND: no rule has the name
abbrev pub no_such_rule : Tenant → (name : List ℕ) → Rule
no_such_rule t name = refuse_if (not (list_any (λ r. same_name r.name name) t.sharing_rules)) NotFound

-- the organisation's row has one rule less
abbrev pub IsRemaining : (org : ℕ) → Tenant → (name : List ℕ) → Remaining → Type 0
IsRemaining org t name x = x.row ≡ org_of org (without_rule name t)

-- the row has a spelling, and the key is that of the name
pub record FitsRemaining (org : ℕ) (name : List ℕ) (x : Remaining) : Type 0 where
  pub row : FitsForm org_form x.row
  pub key : FitsIn sharing_form.key x.key
  pub is : x.key ≡ key_of_name org name
  pub utf8 : IsUtf8 (lower_bytes name)

-- the row with one rule less is put, and that of the rule goes
abbrev pub changes_of : Remaining → List Change
changes_of x = change_to org_form x.row ∷ (sharing_form.named x.key, None) ∷ []
