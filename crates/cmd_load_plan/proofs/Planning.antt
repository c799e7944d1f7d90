-- The columns of a heading one after the other, and the plan that they make.
use Rattle.std.proofs.Common.{◌≡◌, ◌∙◌, ℕ, ◌+◌, ◌<◌, ◌≤◌, Bool, true, false, cond, Bor, List, [], ◌∷◌, ◌++◌, map, drop, length, get_or, Option, Some, None, Result, Ok, Err, refl, sym, ap}
use Rattle.std.proofs.lemmas.List.{at_drop_all, at_drop_more}
use Rattle.std.specs.List.{enumerate_from}
use Rattle.std.specs.Option.{is_some, option_and_then, option_map}
use Rattle.std.specs.Prelude.{slice_get}
use Rattle.std.specs.Str.{chars}
use Rattle.std.proofs.lemmas.Option.{same_Some as some_is}
use Rattle.model.specs.Cases.{in_case}
use Rattle.model.specs.Fields.{column_named}
use Rattle.model.specs.Objects.{Numbered}
use Rattle.model.specs.Tenant.{Field, Object, Tenant}
use Rattle.model.specs.Upserts.{unique_named}
use Rattle.store_abstraction.specs.Layouts.{layout_of, place_of}
use Rattle.store_abstraction.specs.Plan.{OrgPlan}
use Rattle.schema_rules.specs.Objects.{field_of_place, numbered_in}
use Rattle.cmd_load_plan.specs.declared.plan.LoadColumn.{LoadColumn}
use Rattle.cmd_load_plan.specs.declared.plan.LoadPlan.{LoadPlan}
use Rattle.cmd_load_plan.specs.Columns.{column_of, columns_behind, first_key, gives_field, key_of, one_more, own_column, parent_column, parts_of, plan_by, plan_of}
use Rattle.cmd_load_plan.specs.Headings.{in_characters}

-- ---- a cell, by what is before and behind its first dot

pub by_name : (t : Tenant) (o : Numbered) (cell : List ℕ) → parts_of cell ≡ None → column_of t o cell ≡ own_column o.object (chars cell)
by_name t o cell none =
    ap (λ (parts : Option (List ℕ × List ℕ)). in_case parts (own_column o.object (chars cell)) (λ p. parent_column t o.number (chars p.0) (chars p.1))) none

pub by_parent : (t : Tenant) (o : Numbered) (cell relationship field : List ℕ) → parts_of cell ≡ Some (relationship, field)
    → column_of t o cell ≡ parent_column t o.number (chars relationship) (chars field)
by_parent t o cell relationship field some =
    ap (λ (parts : Option (List ℕ × List ℕ)). in_case parts (own_column o.object (chars cell)) (λ p. parent_column t o.number (chars p.0) (chars p.1))) some

-- ---- a cell and those behind it

module _ (t : Tenant) (o : Numbered) (before : List LoadColumn) where
  pub no_cells : columns_behind t o before [] ≡ Ok before
  unfolding columns_behind
  no_cells = refl

  module _ (cell : List ℕ) (cells : List (List ℕ)) where
    abbrev behind : Option (List LoadColumn) → Result (List LoadColumn) (List ℕ)
    behind more = in_case more (Err cell) (λ (columns : List LoadColumn). columns_behind t o columns cells)

    by_column : (c : Option LoadColumn) → c ≡ column_of t o cell → columns_behind t o before (cell ∷ cells) ≡ behind (option_and_then (one_more before) c)
    unfolding columns_behind
    by_column c is = ap (λ (x : Option LoadColumn). behind (option_and_then (one_more before) x)) (sym is)

    pub no_column : None ≡ column_of t o cell → columns_behind t o before (cell ∷ cells) ≡ Err cell
    no_column is = by_column None is

    module _ (c : LoadColumn) (is : Some c ≡ column_of t o cell) where
      pub given_before : gives_field before c.field ≡ true → columns_behind t o before (cell ∷ cells) ≡ Err cell
      given_before again = by_column (Some c) is ∙ ap (λ (b : Bool). behind (cond b None (Some (before ++ c ∷ [])))) again

      pub one_column : gives_field before c.field ≡ false → columns_behind t o before (cell ∷ cells) ≡ columns_behind t o (before ++ c ∷ []) cells
      one_column new = by_column (Some c) is ∙ ap (λ (b : Bool). behind (cond b None (Some (before ++ c ∷ [])))) new

-- cells from a place on
pub cells_split : (heading : List (Bor (List ℕ))) (i : ℕ) (d : Bor (List ℕ)) → i < length heading
    → map (λ (x : Bor (List ℕ)). x.now) (drop i heading) ≡ (get_or heading i d).now ∷ map (λ (x : Bor (List ℕ)). x.now) (drop (i + 1) heading)
cells_split heading i d lt = at_drop_more (λ (xs : List (Bor (List ℕ))). map (λ (x : Bor (List ℕ)). x.now) xs) heading i d lt

pub cells_none : (heading : List (Bor (List ℕ))) (i : ℕ) → length heading ≤ i → map (λ (x : Bor (List ℕ)). x.now) (drop i heading) ≡ []
cells_none heading i le = at_drop_all (λ (xs : List (Bor (List ℕ))). map (λ (x : Bor (List ℕ)). x.now) xs) heading i le

-- the cell at which a loop over the rest stops, and the columns at its end
pub stops_at : (all : Result (List LoadColumn) (List ℕ)) (t : Tenant) (o : Numbered) (before : List LoadColumn) (rest cells : List (List ℕ)) (cell text : List ℕ)
    → columns_behind t o before rest ≡ all → rest ≡ cell ∷ cells → columns_behind t o before (cell ∷ cells) ≡ Err cell → text ≡ chars cell → Err text ≡ in_characters all
stops_at all t o before rest cells cell text so_far split refused is =
    ap (λ (x : List ℕ). Err x) is ∙ ap in_characters (sym refused ∙ ap (columns_behind t o before) (sym split) ∙ so_far)

pub goes_on : (all : Result (List LoadColumn) (List ℕ)) (t : Tenant) (o : Numbered) (before more : List LoadColumn) (rest cells : List (List ℕ)) (cell : List ℕ) (c : LoadColumn)
    → columns_behind t o before rest ≡ all → rest ≡ cell ∷ cells → columns_behind t o before (cell ∷ cells) ≡ columns_behind t o (before ++ c ∷ []) cells → more ≡ before ++ c ∷ []
    → columns_behind t o more cells ≡ all
goes_on all t o before more rest cells cell c so_far split next is =
    ap (λ (cs : List LoadColumn). columns_behind t o cs cells) is ∙ sym next ∙ ap (columns_behind t o before) (sym split) ∙ so_far

pub ends_with : (all : Result (List LoadColumn) (List ℕ)) (t : Tenant) (o : Numbered) (before made : List LoadColumn) (rest : List (List ℕ))
    → columns_behind t o before rest ≡ all → rest ≡ [] → made ≡ before → Ok made ≡ in_characters all
ends_with all t o before made rest so_far none is =
    ap (λ (cs : List LoadColumn). Ok cs) is ∙ ap in_characters (sym (no_cells t o before) ∙ ap (columns_behind t o before) (sym none) ∙ so_far)

-- ---- the key

first_there : (o : Object) (columns : List LoadColumn) (c : LoadColumn) → Some c ≡ slice_get columns 0 → key_of o c ≡ first_key o columns
first_there o [] c e = absurd cc
first_there o (d ∷ columns) c e = ap (key_of o) (some_is c d e)

pub no_first : (o : Object) (columns : List LoadColumn) → None ≡ slice_get columns 0 → None ≡ first_key o columns
no_first o [] e = refl
no_first o (d ∷ columns) e = absurd cc

abbrev name_of : Option (ℕ × Field) → Option (List ℕ)
name_of u = option_map (λ (u : ℕ × Field). u.1.name) u

module _ (o : Object) (columns : List LoadColumn) (c : LoadColumn) (first : Some c ≡ slice_get columns 0) where
  pub key_found : is_some c.find ≡ true → None ≡ first_key o columns
  key_found finds = by c.find finds ∙ first_there o columns c first
    where
      by : (find : Option ℕ) → is_some find ≡ true → None ≡ in_case find (name_of (unique_named o c.field)) (λ (place : ℕ). None)
      by None finds = absurd cc
      by (Some place) finds = refl

  pub key_is : (u : Option (ℕ × Field)) → is_some c.find ≡ false → unique_named o c.field ≡ u → name_of u ≡ first_key o columns
  key_is u plain named = by c.find plain ∙ first_there o columns c first
    where
      by : (find : Option ℕ) → is_some find ≡ false → name_of u ≡ in_case find (name_of (unique_named o c.field)) (λ (place : ℕ). None)
      by None plain = ap name_of (sym named)
      by (Some place) plain = absurd cc

-- ---- the plan

abbrev plan_with : Object → List LoadColumn → LoadPlan
plan_with o columns = record { object = o.name; key = first_key o columns; columns = columns }

module _ (t : Tenant) (o : Numbered) (heading : List (List ℕ)) where
  pub plan_is : (columns : List LoadColumn) → Ok columns ≡ in_characters (columns_behind t o [] heading)
      → Ok (plan_with o.object columns) ≡ in_characters (plan_of t o heading)
  unfolding plan_of
  plan_is columns e = by (columns_behind t o [] heading) e
    where
      by : (r : Result (List LoadColumn) (List ℕ)) → Ok columns ≡ in_characters r
          → Ok (plan_with o.object columns) ≡ in_characters (plan_by o r)
      by (Ok others) e =
          let same : columns ≡ others = cc in
          ap (λ (cs : List LoadColumn). Ok (plan_with o.object cs)) same
      by (Err cell) e = absurd cc

  pub plan_refused : (cell : List ℕ) → Err cell ≡ in_characters (columns_behind t o [] heading) → Err cell ≡ in_characters (plan_of t o heading)
  unfolding plan_of
  plan_refused cell e = by (columns_behind t o [] heading) e
    where
      by : (r : Result (List LoadColumn) (List ℕ)) → Err cell ≡ in_characters r → Err cell ≡ in_characters (plan_by o r)
      by (Ok others) e = absurd cc
      by (Err other) e =
          let same : cell ≡ chars other = cc in
          ap (λ (x : List ℕ). Err x) same

abbrev pub as_planned : LoadPlan → Result LoadPlan (List ℕ)
as_planned p = Ok p

-- ---- by the layout of the object

fields_same : (q : OrgPlan) (n k : ℕ) (fs : List Field) → map field_of_place (map (place_of q n) (enumerate_from k fs)) ≡ fs
fields_same q n k [] = refl
fields_same q n k (f ∷ fs) = ap (λ (gs : List Field). f ∷ gs) (fields_same q n (k + 1) fs)

-- an object with these fields and without its validation rules
abbrev with_fields : Numbered → List Field → Numbered
with_fields o fields =
    record { number = o.number; object = record { name = o.object.name; access = o.object.access; hierarchy = o.object.hierarchy; fields = fields; validation_rules = [] } }

abbrev plain : Numbered → Numbered
plain o = with_fields o o.object.fields

plain_columns : (t : Tenant) (o : Numbered) (before : List LoadColumn) (cells : List (List ℕ)) → columns_behind t (plain o) before cells ≡ columns_behind t o before cells
unfolding columns_behind column_named
plain_columns t o before [] = refl
plain_columns t o before (cell ∷ cells) = by (option_and_then (one_more before) (column_of t o cell)) (λ columns. plain_columns t o columns cells)
  where
    by : (more : Option (List LoadColumn))
        → ((columns : List LoadColumn) → columns_behind t (plain o) columns cells ≡ columns_behind t o columns cells)
        → in_case more (Err cell) (λ (columns : List LoadColumn). columns_behind t (plain o) columns cells)
        ≡ in_case more (Err cell) (λ (columns : List LoadColumn). columns_behind t o columns cells)
    by None rest = refl
    by (Some more) rest = rest more

plain_key : (o : Numbered) (columns : List LoadColumn) → first_key (plain o).object columns ≡ first_key o.object columns
plain_key o [] = refl
plain_key o (c ∷ columns) = refl

abbrev keyed : Object → List LoadColumn → Option (List ℕ) → Result LoadPlan (List ℕ)
keyed o columns key = Ok (record { object = o.name; key = key; columns = columns })

plain_plan : (t : Tenant) (o : Numbered) (heading : List (List ℕ)) → plan_of t (plain o) heading ≡ plan_of t o heading
unfolding plan_of
plain_plan t o heading = ap (plan_by (plain o)) (plain_columns t o [] heading) ∙ by (columns_behind t o [] heading)
  where
    by : (r : Result (List LoadColumn) (List ℕ)) → plan_by (plain o) r ≡ plan_by o r
    by (Ok columns) = ap (keyed o.object columns) (plain_key o columns)
    by (Err cell) = refl

pub plan_alike : (org : ℕ) (q : OrgPlan) (t : Tenant) (o : Numbered) (heading : List (List ℕ)) → plan_of t (numbered_in (layout_of org q t o)) heading ≡ plan_of t o heading
plan_alike org q t o heading =
    ap (λ (fields : List Field). plan_of t (with_fields o fields) heading) (fields_same q o.number 0 o.object.fields) ∙ plain_plan t o heading
