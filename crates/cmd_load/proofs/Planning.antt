-- How the text of an input is loaded.
use Rattle.std.proofs.Common.{◌≡◌, ◌∙◌, ℕ, ◌≤◌, Bool, true, cond, List, [], ◌∷◌, length, map, take, Option, Some, None, Result, Ok, Err, refl, sym, ap, subst, arith}
use Rattle.std.proofs.lemmas.Bool.Decides.{nat_tests}
use Rattle.std.specs.Prelude.{nat_le}
use Rattle.std.specs.Str.{chars}
use Rattle.csv.specs.Records.{Row, fields_of}
use Rattle.cmd_load_plan.specs.Columns.{plan_of}
use Rattle.cmd_load_plan.specs.Headings.{InEach, in_characters}
use Rattle.cmd_load_plan.specs.declared.plan.LoadPlan.{LoadPlan}
use Rattle.model.specs.declared.refusal.Refusal.{Refusal}
use Rattle.model.specs.declared.refusal.Refusal.TheVariants.{CsvRefused, HeadingRefused, InputTooLarge}
use Rattle.model.specs.Cases.{in_case}
use Rattle.model.specs.Limits.{input_limit}
use Rattle.model.specs.Objects.{Numbered}
use Rattle.model.specs.Tenant.{Tenant}
use Rattle.schema_rules.specs.Objects.{numbered_in}
use Rattle.store_abstraction.specs.declared.layout.Layout.{Layout}
use Rattle.store_abstraction.specs.Layouts.{layout_of}
use Rattle.store_abstraction.specs.Plan.{OrgPlan}
use Rattle.base_csv.specs.Place.{TellsPlace}
use Rattle.base_csv.specs.Table.{first_refused, table_of}
use Rattle.base_csv.specs.declared.fail.TableFail.{TableFail}
use Rattle.base_csv.specs.declared.fail.TableFail.TheVariants as table
use Rattle.cmd_load.specs.Inputs.{Cells, IsPlanned, PlannedRows, input_plan, table_plan, with_heading}
use Rattle.cmd_load.specs.Targets.{IsTarget, LoadObject}
use Rattle.cmd_load.specs.inner.Headings.{IsPlannedBy, refused_cell}
use Rattle.cmd_load.specs.declared.target.Target.{Target}

-- ---- a heading

abbrev pub PlanLaw : Type 0
PlanLaw = (org : ℕ) (q : OrgPlan) (t : Tenant) (o : Numbered) (heading : List (List ℕ)) → plan_of t (numbered_in (layout_of org q t o)) heading ≡ plan_of t o heading

module _ (law : PlanLaw) (x : LoadObject) (found : Target) (is : IsTarget x found) (heading : Cells) where
  -- by the layout it is the object's
  by_layout : plan_of x.0 (numbered_in found.layout) heading ≡ plan_of x.0 x.1 heading
  by_layout = ap (λ (l : Layout). plan_of x.0 (numbered_in l) heading) is.its ∙ law found.layout.org is.plan x.0 x.1 heading

  pub plan_found : (cells : Cells) → cells ≡ heading → (p : LoadPlan) → InEach found.layouts found.layout (λ t. Ok p ≡ in_characters (plan_of t (numbered_in found.layout) cells)) → IsPlannedBy x heading (Ok p)
  plan_found cells same p h = by (plan_of x.0 x.1 heading) (h is.plan x.0 is.layouts ∙ ap in_characters (ap (plan_of x.0 (numbered_in found.layout)) same ∙ by_layout))
    where
      by : (r : Result LoadPlan (List ℕ)) → Ok p ≡ in_characters r → Ok p ≡ refused_cell r
      by (Ok q) e = ap Ok (inside e)
        where
          inside : ◌≡◌ {A = Result LoadPlan (List ℕ)} (Ok p) (Ok q) → p ≡ q
          inside e = cc
      by (Err cell) e = absurd cc

  pub cell_refused : (cells : Cells) → cells ≡ heading → (cell : List ℕ) → InEach found.layouts found.layout (λ t. Err cell ≡ in_characters (plan_of t (numbered_in found.layout) cells)) → IsPlannedBy x heading (Err (HeadingRefused cell))
  cell_refused cells same cell h = by (plan_of x.0 x.1 heading) (h is.plan x.0 is.layouts ∙ ap in_characters (ap (plan_of x.0 (numbered_in found.layout)) same ∙ by_layout))
    where
      by : (r : Result LoadPlan (List ℕ)) → Err cell ≡ in_characters r → Err (HeadingRefused cell) ≡ refused_cell r
      by (Ok q) e = absurd cc
      by (Err other) e = ap (λ (c : List ℕ). Err (HeadingRefused c)) (inside e)
        where
          inside : ◌≡◌ {A = Result LoadPlan (List ℕ)} (Err cell) (Err (chars other)) → cell ≡ chars other
          inside e = cc

-- ---- a text

pub told_row : (bytes : List ℕ) (fail : TableFail) (row line column : ℕ) → fail ≡ table.Refused row line column → TellsPlace bytes fail → first_refused bytes ≡ Some row
told_row bytes fail row line column is told = by (subst (TellsPlace bytes) is told)
  where
    by : TellsPlace bytes (table.Refused row line column) → first_refused bytes ≡ Some row
    by h = h.refused

module _ (x : LoadObject) (bytes : List ℕ) (small : length bytes ≤ input_limit) where
  small_so : nat_le (length bytes) input_limit ≡ true
  small_so = grind (arith, nat_tests)

  abbrev by_length : Bool → Result PlannedRows Refusal
  by_length b = cond b (in_case (first_refused bytes) (table_plan x (table_of bytes)) (λ row. Err (CsvRefused row))) (Err InputTooLarge)

  by_record : (refused : Option ℕ) → first_refused bytes ≡ refused → input_plan x bytes ≡ in_case refused (table_plan x (table_of bytes)) (λ row. Err (CsvRefused row))
  by_record refused e = ap by_length small_so ∙ ap (λ (o : Option ℕ). in_case o (table_plan x (table_of bytes)) (λ row. Err (CsvRefused row))) e

  pub record_refused : (row : ℕ) → first_refused bytes ≡ Some row → IsPlanned (input_plan x bytes) bytes (Err (CsvRefused row))
  record_refused row e = subst (λ (r : Result PlannedRows Refusal). IsPlanned r bytes (Err (CsvRefused row))) (sym (by_record (Some row) e)) refl

  -- none is refused
  module _ (whole : first_refused bytes ≡ None) where
    by_table : (ts : List Cells) → table_of bytes ≡ ts → (planned : Result LoadPlan Refusal) → IsPlanned (table_plan x ts) bytes planned → IsPlanned (input_plan x bytes) bytes planned
    by_table ts is planned h = subst (λ (r : Result PlannedRows Refusal). IsPlanned r bytes planned) (sym (by_record None whole ∙ ap (table_plan x) is)) h

    -- a heading
    pub planned_so : (heading : Cells) (rows : List Cells) → table_of bytes ≡ heading ∷ rows → (planned : Result LoadPlan Refusal) → IsPlannedBy x heading planned → IsPlanned (input_plan x bytes) bytes planned
    planned_so heading rows is planned h = by_table (heading ∷ rows) is planned (by (plan_of x.0 x.1 heading) planned h)
      where
        by : (r : Result LoadPlan (List ℕ)) (planned : Result LoadPlan Refusal) → planned ≡ refused_cell r → IsPlanned (with_heading rows r) bytes planned
        by (Ok p) (Ok q) e = (inside e, record { heading = heading; table = is; whole = whole })
          where
            inside : ◌≡◌ {A = Result LoadPlan Refusal} (Ok q) (Ok p) → q ≡ p
            inside e = cc
        by (Ok p) (Err y) e = absurd cc
        by (Err cell) (Ok q) e = absurd cc
        by (Err cell) (Err y) e = inside e
          where
            inside : ◌≡◌ {A = Result LoadPlan Refusal} (Err y) (Err (HeadingRefused (chars cell))) → y ≡ HeadingRefused (chars cell)
            inside e = cc

    -- no record
    pub no_record : table_of bytes ≡ [] → IsPlanned (input_plan x bytes) bytes (Err (CsvRefused 0))
    no_record is = by_table [] is (Err (CsvRefused 0)) refl

-- the first record, if there is one
pub first_of : (records : List Row) (ts : List Cells) (heading : Row) → map fields_of records ≡ take 1 ts → (rest : List Row) → records ≡ heading ∷ rest → (rows : List Cells) × (ts ≡ fields_of heading ∷ rows)
first_of records [] heading same rest is = absurd (none (sym (ap (map fields_of) is) ∙ same))
  where
    none : ◌≡◌ {A = List Cells} (fields_of heading ∷ map fields_of rest) [] → ⊥
    none e = cc
first_of records (t ∷ ts) heading same rest is = (ts, ap (λ (c : Cells). c ∷ ts) (head (sym same ∙ ap (map fields_of) is)))
  where
    head : ◌≡◌ {A = List Cells} (t ∷ []) (fields_of heading ∷ map fields_of rest) → t ≡ fields_of heading
    head e = cc

pub none_of : (ts : List Cells) → [] ≡ take 1 ts → ts ≡ []
none_of [] e = refl
none_of (t ∷ ts) e = absurd cc
