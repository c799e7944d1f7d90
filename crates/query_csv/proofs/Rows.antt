-- The cells of a record are the values of the paths that are selected.
use Rattle.std.proofs.Common.{◌≡◌, ◌∙◌, ℕ, Bool, true, false, cond, List, [], ◌∷◌, ◌++◌, map, Option, Some, None, refl, sym, ap, inl, inr}
use Rattle.std.specs.List.{flat_map}
use Rattle.std.specs.Option.{option_and_then, unwrap_or}
use Rattle.base_value.specs.Printing.{is_printable, print_value}
use Rattle.base_value.specs.declared.value.Value.{Value}
use Rattle.base_value.specs.declared.value.Value.TheVariants as value
use Rattle.soql.specs.declared.query.Path.{Path}
use Rattle.soql.specs.declared.query.Query.{Query}
use Rattle.model.specs.declared.record.Record.{Record}
use Rattle.model.specs.Cases.{in_case}
use Rattle.model.specs.Fields.{Column, column_named, value_in}
use Rattle.model.specs.Levels.{can_read, readable}
use Rattle.model.specs.Membership.{Has}
use Rattle.model.specs.Objects.{Numbered, is_of, object_named, object_number, object_of_record, record_at, records_of}
use Rattle.model.specs.Paths.{Asked, field_value, if_readable, parent_of, path_value}
use Rattle.model.specs.Relationships.{Reference, named_id, named_record, parent_named}
use Rattle.model.specs.Rows.{chosen, found, readable_of}
use Rattle.model.specs.Sound.{IsSound}
use Rattle.model.specs.Tenant.{Object, Tenant}
use Rattle.query_plan.proofs.Sound.{having_has}
use Rattle.query_plan.specs.Checks.{spot_value}
use Rattle.query_plan.specs.Plans.{Chooses, chosen_by, parents_by}
use Rattle.query_plan.specs.declared.check.Spot.{Spot}
use Rattle.query_plan.specs.declared.plan.Choice.{Choice}
use Rattle.query_plan.proofs.Found.{chosen_same}
use Rattle.query_plan.proofs.Lists.{kept}
use Rattle.query_bind.specs.Cells.{MeansCells, paths_in}
use Rattle.query_bind.specs.declared.cells.CellPlan.{CellPlan}
use Rattle.query_exec.specs.Relatives.{by_parents}
use Rattle.query_json.specs.row.Shows.{or_null}
use Rattle.query_json.specs.Planned.{choice_rows}
use Rattle.query_json.proofs.Found.{Laws, Printable, has_row, rows_chosen, site_printable}
use Rattle.query_csv.specs.Lines.{line, record_line}
use Rattle.query_csv.specs.inner.Rows.{cell_text, parents_of, row_line}

-- ---- a record's parents are records of its tenant

from_readable : (a : Asked) (o : Option Record) (s : Record) → option_and_then (if_readable a) o ≡ Some s → o ≡ Some s
from_readable a None s e = absurd cc
from_readable a (Some r) s e = by (can_read a.tenant a.user r) e
  where
    by : (b : Bool) → ◌≡◌ {A = Option Record} (cond b (Some r) None) (Some s) → ◌≡◌ {A = Option Record} (Some r) (Some s)
    by true e = e
    by false e = absurd cc

named_has : (t : Tenant) (f : Reference) (r s : Record) → named_record t f r ≡ Some s → Has t.records s
named_has t f r s = by (named_id f r)
  where
    by : (i : Option (List ℕ)) → option_and_then (record_at t) i ≡ Some s → Has t.records s
    by None e = absurd cc
    by (Some id) e = having_has (λ (x : Record). x.id) t.records id s e

parent_has : (a : Asked) (r : Record) (name : List ℕ) (s : Record) → parent_of a r name ≡ Some s → Has a.tenant.records s
parent_has a r name s e = by (parent_named a.tenant (object_number r.id) name) (from_readable a _ s e)
  where
    by : (f : Option Reference) → option_and_then (λ (f : Reference). named_record a.tenant f r) f ≡ Some s → Has a.tenant.records s
    by None e = absurd cc
    by (Some f) e = named_has a.tenant f r s e

-- ---- values that can be printed

module _ (a : Asked) (sound : IsSound a.tenant) (printable : Printable) where
  field_printable : (r : Record) → Has a.tenant.records r → (name : List ℕ) → is_printable (field_value a.tenant r name) ≡ true
  field_printable r has name = by (option_and_then (λ (o : Object). column_named o name) (object_of_record a.tenant r))
    where
      by : (c : Option Column) → is_printable (in_case c value.Null (λ (c : Column). value_in c.at r)) ≡ true
      by None = refl
      by (Some c) = site_printable a.tenant r sound has printable c.at

  path_printable : (names : List (List ℕ)) (r : Record) → Has a.tenant.records r → is_printable (path_value a r names) ≡ true
  path_printable [] r has = refl
  path_printable (name ∷ []) r has = field_printable r has name
  path_printable (name ∷ next ∷ names) r has = by (parent_of a r name) refl (λ s h. path_printable (next ∷ names) s h)
    where
      by : (o : Option Record) → parent_of a r name ≡ o → ((s : Record) → Has a.tenant.records s → is_printable (path_value a s (next ∷ names)) ≡ true)
          → is_printable (in_case o value.Null (λ (s : Record). path_value a s (next ∷ names))) ≡ true
      by None is more = refl
      by (Some s) is more = more s (parent_has a r name s is)

  -- ---- a record's line

  abbrev printed : Value → List ℕ
  printed v = print_value (or_null v)

  texts_are : (far : List (Option Record)) (r : Record) (cells : List Spot) → map (cell_text far r) cells ≡ map printed (map (spot_value far r) cells)
  texts_are far r [] = refl
  texts_are far r (s ∷ cells) = ap (λ (ts : List (List ℕ)). cell_text far r s ∷ ts) (texts_are far r cells)

  values_are : (r : Record) → Has a.tenant.records r → (paths : List Path) → map printed (map (λ x. path_value a r x.names) paths) ≡ map (λ x. print_value (path_value a r x.names)) paths
  values_are r has [] = refl
  values_are r has (p ∷ paths) =
      ap (λ (b : Bool). print_value (cond b (path_value a r p.names) value.Null) ∷ map printed (map (λ (x : Path). path_value a r x.names) paths)) (path_printable p.names r has)
      ∙ ap (λ (ts : List (List ℕ)). print_value (path_value a r p.names) ∷ ts) (values_are r has paths)

  pub line_is : (q : Query) (n : ℕ) (p : CellPlan) → MeansCells a n q p → (r : Record) → Has (records_of a.tenant n) r
      → row_line p.cells (parents_by a p.choice r) r ≡ record_line a q r
  line_is q n p means r has =
      ap line
      (texts_are (parents_by a p.choice r) r p.cells
      ∙ ap (map printed) (means.cells r has)
      ∙ values_are r (kept (is_of n) a.tenant.records r has).0 (paths_in q.select))

-- ---- which records

found_by : (a : Asked) (q : Query) (o : Numbered) (c : Choice) → object_named a.tenant q.tail.from ≡ Some o → Chooses a o.number q.tail (unwrap_or q.offset 0) c
    → chosen_by a c (readable_of a o.number) ≡ found a q
unfolding found readable
found_by a q o c named chooses =
    chosen_same a o.number q.tail (unwrap_or q.offset 0) c chooses (readable_of a o.number) (λ r h. (kept (can_read a.tenant a.user) (records_of a.tenant o.number) r h).0)
    ∙ ap (λ (x : Option Numbered). in_case x [] (λ (o : Numbered). chosen a q.tail (unwrap_or q.offset 0) (readable_of a o.number))) (sym named)

flat_same : (f g : Record → List ℕ) (rs : List Record) → ((r : Record) → Has rs r → f r ≡ g r) → flat_map f rs ≡ flat_map g rs
flat_same f g [] h = refl
flat_same f g (r ∷ rs) h =
    ap (λ (t : List ℕ). t ++ flat_map f rs) (h r (inl refl)) ∙ ap (λ (t : List ℕ). g r ++ t) (flat_same f g rs (λ s m. h s (inr m)))

-- the lines of a plan that means a query are those of what the query finds
pub rows_are : (laws : Laws) (a : Asked) (q : Query) (o : Numbered) → object_named a.tenant q.tail.from ≡ Some o → IsSound a.tenant → (p : CellPlan) → MeansCells a o.number q p
    → flat_map (by_parents (parents_of p.choice.branches) (row_line p.cells) a) (choice_rows (parents_of p.choice.branches) p.choice o.number a)
    ≡ flat_map (record_line a q) (found a q)
rows_are laws a q o named sound p means =
    flat_same (by_parents (parents_of p.choice.branches) (row_line p.cells) a) (record_line a q) (choice_rows (parents_of p.choice.branches) p.choice o.number a)
    (λ r h. line_is a sound laws.printable q o.number p means r (has_row laws a o.number sound p.choice r h))
    ∙ ap (flat_map (record_line a q)) (rows_chosen laws a o.number sound p.choice ∙ found_by a q o p.choice named means.chooses)
