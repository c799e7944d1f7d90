-- The columns of an object are where its layout has them, under their names, and records show them so.
use Rattle.std.proofs.Common.{◌≡◌, ℕ, zero, suc, ◌+◌, ◌-◌, ◌<◌, ◌≤◌, Bool, true, false, ◌||◌, cond, List, [], ◌∷◌, ◌++◌, length, map, Option, Some, None, refl, sym, ap, ◌∙◌, arith, subst}
use Rattle.std.specs.Prelude.{codes, slice_get, Result, Ok, Err}
use Rattle.std.specs.List.{AllByRecursion, enumerate_from, list_any}
use Rattle.std.specs.Option.{option_map}
use Rattle.std.specs.Str.{chars}
use Rattle.std.proofs.Math.Bool.{or-false, or_comm}
use Rattle.std.proofs.Math.Dec.{eqb-suc-zero}
use Rattle.std.proofs.lemmas.Bool.{lt-ltb}
use Rattle.std.proofs.lemmas.List.Folds.{list_any-append}
use Rattle.std.proofs.lemmas.Option.{slice_get_within, same_Some as some_is}
use Rattle.base_value.specs.declared.value.FieldType.TheVariants as type
use Rattle.model.specs.Cases.{in_case}
use Rattle.model.specs.Fields as model
use Rattle.model.specs.Fields.{column_named, columns, custom_columns, is_detail, is_master, its_created, its_id, its_modified, name_column, of_ids, of_type, owner_column, same_name, value_site}
use Rattle.model.specs.Objects.{Numbered}
use Rattle.model.specs.Tenant.{Field, Object, Tenant}
use Rattle.model.specs.declared.refusal.Refusal.{Refusal}
use Rattle.model.specs.declared.refusal.Refusal.TheVariants.{InvalidField}
use Rattle.model_reads.specs.RecordJson.{Columns, columns_asked, columns_named, shown_columns, with_column}
use Rattle.query_check.proofs.Joined.{column_same, created_text, custom, id_text, modified_text, name_text, owner_text}
use Rattle.query_check.specs.Columns.{column_in, custom_name, name_at, place_at, placed, value_place}
use Rattle.query_check.specs.declared.columns.Column.{Column}
use Rattle.query_plan.proofs.Lists.{all_numbered, at_number, of_found}
use Rattle.query_plan.specs.Checks.{site_of}
use Rattle.query_plan.specs.declared.check.Site.{Site}
use Rattle.query_plan.specs.declared.check.Site.TheVariants as site
use Rattle.store_abstraction.specs.Layouts.{layout_of, place_of}
use Rattle.store_abstraction.specs.Plan.{OrgPlan}
use Rattle.store_abstraction.specs.declared.layout.FieldPlace.{FieldPlace}
use Rattle.store_abstraction.specs.declared.layout.Layout.{Layout}
use Rattle.api_read.specs.inner.Columns.{Sites, first_sites, shown_sites, site_named, sites_asked, sites_named, value_sites, with_site}
use Rattle.form_urlencoded.specs.Form.{split}

-- ---- one column

-- a column is where the layout has it, under its name
pub record IsPlaced (l : Layout) (c : model.Column) : Type 0 where
  pub there : site_of (place_at c.at) ≡ c.at
  pub named : name_at l (place_at c.at) ≡ c.name

abbrev pub its_site : model.Column → Site
its_site c = place_at c.at

abbrev pub found : List Site → Sites
found sites = Ok sites

abbrev pub to_sites : Columns → Sites
to_sites (Ok cs) = Ok (map its_site cs)
to_sites (Err refusal) = Err refusal

abbrev pub ArePlaced : Layout → Columns → Type 0
ArePlaced l (Ok cs) = AllByRecursion (IsPlaced l) cs
ArePlaced l (Err refusal) = Unit {0}

-- these are the sites of those columns, which are where the layout has them
pub record AreSites (l : Layout) (cs : Columns) (sites : Sites) : Type 0 where
  pub same : sites ≡ to_sites cs
  pub all : ArePlaced l cs

within : (n : ℕ) → n < 256 → value_place n ≡ site.Value n
within n lt = ap (λ b. site.Value (cond b n 255)) (lt-ltb n 256 lt)

custom_named : (fs : List FieldPlace) (i n : ℕ) (f : FieldPlace) → 1 + i ≡ n → slice_get fs i ≡ Some f → custom_name fs n ≡ f.name
custom_named fs i n f e at =
    let less : n - 1 ≡ i = omega (arith, e) in
    ap (λ (m : ℕ). in_case (slice_get fs m) (chars (codes "")) (λ (f : FieldPlace). f.name)) less ∙ ap (λ (x : Option FieldPlace). in_case x (chars (codes "")) (λ (f : FieldPlace). f.name)) at

-- ---- those of custom fields

values_placed : (fs : List Field) (k : ℕ) → k + length fs ≤ 40 → value_sites (length fs) k ≡ map its_site (map custom (enumerate_from (k + 1) fs))
values_placed [] k few = refl
values_placed (f ∷ fs) k few =
    let next : suc k ≡ k + 1 = omega arith in
    let here : site.Value (suc k) ≡ value_place (k + 1) = ap site.Value next ∙ sym (within (k + 1) (omega (arith, few))) in
    ap (λ (s : Site). s ∷ value_sites (length fs) (suc k)) here
    ∙ ap (λ (ss : List Site). value_place (k + 1) ∷ ss) (ap (value_sites (length fs)) next ∙ values_placed fs (k + 1) (omega (arith, few)))

detail_same : (q : OrgPlan) (n k : ℕ) (fs : List Field) → list_any (λ f. is_master f.kind) (map (place_of q n) (enumerate_from k fs)) ≡ list_any (λ f. is_master f.kind) fs
detail_same q n k [] = refl
detail_same q n k (f ∷ fs) = ap (λ b. is_master f.kind || b) (detail_same q n (k + 1) fs)

pub as_many : (q : OrgPlan) (n k : ℕ) (fs : List Field) → length (map (place_of q n) (enumerate_from k fs)) ≡ length fs
as_many q n k [] = refl
as_many q n k (f ∷ fs) = ap suc (as_many q n (k + 1) fs)

first_placed : (b : Bool) (values : List Site) (cs : List model.Column) → values ≡ map its_site cs
    → first_sites b ++ values
    ≡ map its_site
    (model.column (codes "Id") of_ids its_id
    ∷ cond b [] (owner_column ∷ [])
    ++ (name_column
    ∷ model.column (codes "CreatedDate") (of_type type.Moment) its_created
    ∷ model.column (codes "LastModifiedDate") (of_type type.Moment) its_modified
    ∷ cs))
first_placed true values cs e = ap (λ (ss : List Site). site.Id ∷ site.Value 0 ∷ site.Created ∷ site.Modified ∷ ss) e
first_placed false values cs e = ap (λ (ss : List Site). site.Id ∷ site.Owner ∷ site.Value 0 ∷ site.Created ∷ site.Modified ∷ ss) e

module _ (org : ℕ) (q : OrgPlan) (t : Tenant) (o : Numbered) (few : length o.object.fields ≤ 40) where
  abbrev here : Layout
  here = layout_of org q t o

  custom_placed : (i n : ℕ) (f : Field) → 1 + i ≡ n → slice_get o.object.fields i ≡ Some f → IsPlaced here (custom (n, f))
  custom_placed i n f e at =
      let inside : i < length o.object.fields = slice_get_within o.object.fields i f at in
      let place = within n (omega (arith, e, inside, few)) in
      record { there = ap site_of place; named = ap (name_at here) place ∙ named n e }
    where
      named : (n : ℕ) → 1 + i ≡ n → name_at here (site.Value n) ≡ f.name
      named zero e = absurd (omega (arith, e))
      named (suc m) e =
          ap (λ b. cond b (chars (codes "Name")) (custom_name here.fields (suc m))) (eqb-suc-zero m)
          ∙ custom_named here.fields i (suc m) (place_of q o.number (i, f)) e (at_number (place_of q o.number) o.object.fields 0 i i f (omega arith) at)

  owners_placed : (b : Bool) → (xs : List model.Column) → AllByRecursion (IsPlaced here) xs → AllByRecursion (IsPlaced here) (cond b [] (owner_column ∷ []) ++ xs)
  owners_placed true xs all = all
  owners_placed false xs all = (record { there = refl; named = owner_text }, all)

  customs_placed : AllByRecursion (IsPlaced here) (custom_columns o.object)
  customs_placed = all_numbered (IsPlaced here) custom o.object.fields 1 (λ i n f e at. custom_placed i n f e at)

  id_placed : IsPlaced here (model.column (codes "Id") of_ids its_id)
  id_placed = record { there = refl; named = id_text }

  created_placed : IsPlaced here (model.column (codes "CreatedDate") (of_type type.Moment) its_created)
  created_placed = record { there = refl; named = created_text }

  modified_placed : IsPlaced here (model.column (codes "LastModifiedDate") (of_type type.Moment) its_modified)
  modified_placed = record { there = refl; named = modified_text }

  name_placed : IsPlaced here name_column
  name_placed = record { there = refl; named = name_text }

  all_placed : AllByRecursion (IsPlaced here) (columns o.object)
  all_placed = (id_placed, (created_placed, (modified_placed, (name_placed, owners_placed (is_detail o.object) (custom_columns o.object) customs_placed))))

  named_placed : (name : List ℕ) (m : model.Column) → column_named o.object name ≡ Some m → IsPlaced here m
  unfolding column_named
  named_placed name m e = of_found (IsPlaced here) (λ c. same_name c.name name) (columns o.object) m all_placed e

  -- ---- all of them

  shown_are : AreSites here (Ok (shown_columns o.object)) (Ok (shown_sites here))
  shown_are = record {
    same = ap found
        (ap (λ (b : Bool). first_sites b ++ value_sites (length here.fields) 0) (detail_same q o.number 0 o.object.fields)
        ∙ ap (λ (n : ℕ). first_sites (is_detail o.object) ++ value_sites n 0) (as_many q o.number 0 o.object.fields)
        ∙ first_placed (is_detail o.object) (value_sites (length o.object.fields) 0) (custom_columns o.object) (values_placed o.object.fields 0 (omega (arith, few))));
    all = (id_placed, owners_placed (is_detail o.object) _ (name_placed, (created_placed, (modified_placed, customs_placed))));
  }

  -- ---- those that are named

  abbrev Mentions : (before nearest : List (List ℕ)) → Type 0
  Mentions before nearest = (n : List ℕ) → list_any (same_name n) before ≡ list_any (same_name n) nearest

  more_mentions : (before nearest : List (List ℕ)) (x : List ℕ) → Mentions before nearest → Mentions (before ++ x ∷ []) (x ∷ nearest)
  more_mentions before nearest x same n =
      list_any-append (same_name n) before (x ∷ [])
      ∙ ap (λ b. b || (same_name n x || false)) (same n)
      ∙ or_comm (list_any (same_name n) nearest) (same_name n x || false)
      ∙ ap (λ b. b || list_any (same_name n) nearest) (or-false (same_name n x))

  with_one : (m : model.Column) (rest : Columns) (more : Sites) → IsPlaced here m → AreSites here rest more → AreSites here (with_column m rest) (with_site (its_site m) more)
  with_one m (Ok cs) more p are = record { same = ap (with_site (its_site m)) are.same; all = (p, are.all) }
  with_one m (Err refusal) more p are = record { same = ap (with_site (its_site m)) are.same; all = tt }

  -- one name, and those behind it
  abbrev by_column : (name : List ℕ) → Option model.Column → Bool → Columns → Columns
  by_column name x b rest = in_case x (Err (InvalidField name)) (λ c. cond b (Err (InvalidField name)) (with_column c rest))

  abbrev by_site : (name : List ℕ) → Option Column → Bool → Sites → Sites
  by_site name x b more = in_case (in_case x None (λ c. cond b None (Some c.site))) (Err (InvalidField name)) (λ s. with_site s more)

  one_named : (name : List ℕ) (x : Option model.Column) (b : Bool) (rest : Columns) (more : Sites) → ((m : model.Column) → x ≡ Some m → IsPlaced here m) → AreSites here rest more
      → AreSites here (by_column name x b rest) (by_site name (option_map placed x) b more)
  one_named name None b rest more p are = record { same = refl; all = tt }
  one_named name (Some m) true rest more p are = record { same = refl; all = tt }
  one_named name (Some m) false rest more p are = with_one m rest more (p m refl) are

  named_are : (names before nearest : List (List ℕ)) → Mentions before nearest → AreSites here (columns_named o.object nearest names) (sites_named here before names)
  named_are [] before nearest same = record { same = refl; all = tt }
  named_are (name ∷ names) before nearest same =
      let later = named_are names (before ++ name ∷ []) (name ∷ nearest) (more_mentions before nearest name same) in
      let one = one_named name (column_named o.object name) (list_any (same_name name) nearest) (columns_named o.object (name ∷ nearest) names) (sites_named here (before ++ name ∷ []) names) (named_placed name) later in
      subst (AreSites here (columns_named o.object nearest (name ∷ names)))
      (ap (λ (x : Option Column). by_site name x (list_any (same_name name) nearest) (sites_named here (before ++ name ∷ []) names)) (column_same q t here o.object name)
      ∙ ap (λ (b : Bool). by_site name (column_in here name) b (sites_named here (before ++ name ∷ []) names)) (sym (same name)))
      one

  pub asked_are : (text : Option (List ℕ)) → AreSites here (columns_asked o.object text) (sites_asked here text)
  asked_are None = shown_are
  asked_are (Some []) = shown_are
  asked_are (Some (c ∷ cs)) = named_are (split 44 (c ∷ cs)) [] [] (λ n. refl)
