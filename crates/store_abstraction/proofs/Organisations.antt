-- What is read at an organisation's key is that organisation's row.
use Rattle.std.proofs.Common.{◌≡◌, ℕ, ◌<◌, ◌^◌, Option, Some, None, refl, arith}
use Rattle.std.specs.Prelude.{Result}
use Rattle.std.specs.Option.{option_and_then, option_map}
use Rattle.std.specs.FinMap as map
use Rattle.std.specs.FinMap.{IsAntisymmetric}
use Rattle.store_kv.specs.Tables.{Tables, place_cmp}
use Rattle.store_rows.specs.declared.fail.StoreFail.{StoreFail}
use Rattle.store_rows.specs.declared.org.OrgRow.{OrgRow}
use Rattle.store_rows.specs.Forms.{FitsForm, row_bytes}
use Rattle.store_rows.specs.Keys.{Org, spell}
use Rattle.store_rows.specs.Reads.{ReadsAs}
use Rattle.store_rows.specs.Rows.{org_form}
use Rattle.model.specs.Sound.{IsSound}
use Rattle.model.specs.Tenant.{Tenant}
use Rattle.store_abstraction.specs.Layouts.{own_row}
use Rattle.store_abstraction.specs.Local.{FindsIn}
use Rattle.store_abstraction.specs.Metadata.{org_of}
use Rattle.store_abstraction.specs.Plan.{OrgPlan}
use Rattle.store_abstraction.specs.Stands.{row_in}
use Rattle.store_abstraction.proofs.Found.{FindsRow, IsRowOf, found_same, row_finds, row_in_org}
use Rattle.store_abstraction.proofs.Names.{NamesAreShort, NamesAreTexts, name_fits}
use Rattle.store_abstraction.proofs.Places.{PrefixLaws}

-- the row of the organisation itself
abbrev there : ℕ → OrgPlan → Tenant → Option OrgRow
there org p t = Some (org_of org t)

rows_are : (org : ℕ) (p : OrgPlan) (t : Tenant) → row_in p t (Org org) ≡ option_map (row_bytes org_form) (there org p t)
unfolding row_in
rows_are org p t = refl

module _ (texts : NamesAreTexts) (short : NamesAreShort) where
  pub org_fits : (org : ℕ) (t : Tenant) → org < 2 ^ 32 → IsSound t → FitsForm org_form (org_of org t)
  org_fits org t lo s = (
    lo,
    (
      name_fits texts short t.name s.name,
      (
        omega (arith, s.counter),
        (
          omega (arith, s.metadata.few),
          (
            omega (arith, s.records.few),
            (
              omega (arith, s.users.few),
              (omega (arith, s.roles.few), (omega (arith, s.groups.few), (omega (arith, s.rules.few), omega (arith, s.rules.few_drawn)))),
            ),
          ),
        ),
      ),
    ),
  )

  org_is_row : (org : ℕ) → org < 2 ^ 32 → IsRowOf org_form org org (there org)
  org_is_row org lo = record { owned = refl; fits = lo; rows = rows_are org; stands = λ p t s f. (refl, org_fits org t lo s) }

  pub org_finds : PrefixLaws → IsAntisymmetric place_cmp → FindsRow org_form → (m : Tables) (org : ℕ) → org < 2 ^ 32 → (r : Result (Option OrgRow) StoreFail) → ReadsAs org_form org (map.get m (spell (Org org))) r → FindsIn org (own_row org) m r
  org_finds laws exact finds m org lo r e = found_same org (row_in_org (there org)) (own_row org) m r same (row_finds laws exact org_form org lo org (there org) (org_is_row org lo) finds m r e)
    where
      same : (p : OrgPlan) (o : Option Tenant) → option_and_then (there org p) o ≡ option_map (org_of org) o
      same p None = refl
      same p (Some t) = refl
