-- The columns of a sound object that its custom fields give, by their names.
use Rattle.std.proofs.Common.{◌≡◌, ◌∙◌, ℕ, zero, suc, ◌+◌, ◌-◌, ◌==◌, Bool, true, false, cond, List, [], ◌∷◌, ◌++◌, drop, length, map, Some, refl, sym, ap, bytes_eq, inl, inr}
use Rattle.std.specs.Prelude.{codes, if◌then◌else◌}
use Rattle.std.specs.List.{enumerate_from, find, list_any}
use Rattle.std.proofs.lemmas.Bool.{true≢false as apart, or_right as or_second}
use Rattle.base_lemmas.proofs.Texts.{same_from_bytes_eq as same_exact}
use Rattle.base_lemmas.proofs.Bools.{and_second as and_right}
use Rattle.std.proofs.lemmas.Option.{same_Some as some_is}
use Rattle.record_read.proofs.Lists.{of_each}
use Rattle.record_input.proofs.Searching.{found_has}
use Rattle.base_value.specs.Texts.{lower}
use Rattle.base_value.specs.declared.value.FieldType.TheVariants as type
use Rattle.model.specs.Fields.{Column, column, column_named, custom_columns, is_detail, its_created, its_id, its_modified, name_column, of_ids, of_type, owner_column, owner_columns, same_name, value_site}
use Rattle.model.specs.Membership.{Has}
use Rattle.model.specs.Names.{is_custom_name, is_stem}
use Rattle.model.specs.Objects.{Numbered, object_numbered}
use Rattle.model.specs.Sound.{IsSound}
use Rattle.model.specs.SoundMetadata.{IsSoundField}
use Rattle.model.specs.Tenant.{Field, Object, Tenant}
use Rattle.store_abstraction.specs.Layouts.{place_of}
use Rattle.store_abstraction.specs.Plan.{OrgPlan}
use Rattle.store_abstraction.specs.declared.layout.FieldPlace.{FieldPlace}
use Rattle.store_abstraction.proofs.MetadataRows.{sound_object}

-- ---- names

-- names are the same whatever the case of their letters
pub lower_is : (a b : List ℕ) → same_name a b ≡ true → lower a ≡ lower b
lower_is a b = same_exact (lower a) (lower b)

-- it has a `_`
abbrev has_underscore : List ℕ → Bool
has_underscore = list_any (λ c. c == 95)

ends_so : (cs : List ℕ) → bytes_eq (drop (length cs - 3) cs) (codes "__c") ≡ true → has_underscore (lower cs) ≡ true
ends_so cs h = behind cs (length cs - 3) (ap (λ (ds : List ℕ). has_underscore (lower ds)) (same_exact (drop (length cs - 3) cs) (codes "__c") h))
  where
    behind : (ds : List ℕ) (k : ℕ) → has_underscore (lower (drop k ds)) ≡ true → has_underscore (lower ds) ≡ true
    behind ds zero h = h
    behind [] (suc k) h = h
    behind (d ∷ ds) (suc k) h = or_second _ (has_underscore (lower ds)) (behind ds k h)

custom_so : (cs : List ℕ) → is_custom_name cs ≡ true → has_underscore (lower cs) ≡ true
unfolding is_custom_name
custom_so cs h = ends_so cs (and_right (is_stem _) (bytes_eq (drop (length cs - 3) cs) (codes "__c")) h)

-- ---- custom fields

abbrev custom : ℕ × Field → Column
custom f = column f.1.name (of_type f.1.kind) (value_site f.0)

-- the field whose place has the name, and its column
record IsCustom (i : ℕ) (fs : List Field) (name : List ℕ) (r : FieldPlace) : Type 0 where
  field : ℕ × Field
  found : find (λ c. same_name c.name name) (map custom (enumerate_from i fs)) ≡ Some (custom field)
  there : Has fs field.1
  name_is : r.name ≡ field.1.name
  kind : r.kind ≡ field.1.kind

module _ (q : OrgPlan) (n : ℕ) (name : List ℕ) (r : FieldPlace) where
  custom_found : (k i : ℕ) (fs : List Field) → find (λ g. same_name g.name name) (map (place_of q n) (enumerate_from k fs)) ≡ Some r → IsCustom i fs name r
  custom_found k i [] e = absurd cc
  custom_found k i (f ∷ fs) e = by (same_name f.name name) refl e (custom_found (k + 1) (i + 1) fs)
    where
      here : (b : Bool) → same_name f.name name ≡ b → b ≡ true → place_of q n (k, f) ≡ r → IsCustom i (f ∷ fs) name r
      here b is holds same = record {
        field = (i, f);
        found = ap (λ (c : Bool). cond c (Some (custom (i, f))) (find (λ c. same_name c.name name) (map custom (enumerate_from (i + 1) fs)))) (is ∙ holds);
        there = inl refl;
        name_is = ap (λ (p : FieldPlace). p.name) (sym same);
        kind = ap (λ (p : FieldPlace). p.kind) (sym same);
      }

      later : same_name f.name name ≡ false → IsCustom (i + 1) fs name r → IsCustom i (f ∷ fs) name r
      later is it = record {
        field = it.field;
        found = ap (λ (c : Bool). cond c (Some (custom (i, f))) (find (λ c. same_name c.name name) (map custom (enumerate_from (i + 1) fs)))) is ∙ it.found;
        there = inr it.there;
        name_is = it.name_is;
        kind = it.kind;
      }

      by : (b : Bool) → same_name f.name name ≡ b → cond b (Some (place_of q n (k, f))) (find (λ g. same_name g.name name) (map (place_of q n) (enumerate_from (k + 1) fs))) ≡ Some r
          → (find (λ g. same_name g.name name) (map (place_of q n) (enumerate_from (k + 1) fs)) ≡ Some r → IsCustom (i + 1) fs name r) → IsCustom i (f ∷ fs) name r
      by true is e more = here true is refl (some_is (place_of q n (k, f)) r e)
      by false is e more = later is (more e)

-- ---- all columns

module _ (name : List ℕ) (low : has_underscore (lower name) ≡ true) where
  -- one without a `_` is passed over
  passed : (s : Column) (rest : List Column) → has_underscore (lower s.name) ≡ false → find (λ c. same_name c.name name) (s ∷ rest) ≡ find (λ c. same_name c.name name) rest
  passed s rest plain = by (same_name s.name name) refl
    where
      by : (b : Bool) → same_name s.name name ≡ b → cond b (Some s) (find (λ c. same_name c.name name) rest) ≡ find (λ c. same_name c.name name) rest
      by true is = absurd (apart (sym low ∙ ap has_underscore (sym (lower_is s.name name is)) ∙ plain))
      by false is = refl

  past_owner : (detail : Bool) (rest : List Column) → find (λ c. same_name c.name name) ((if detail then [] else owner_column ∷ []) ++ rest) ≡ find (λ c. same_name c.name name) rest
  past_owner true rest = refl
  past_owner false rest = passed owner_column rest refl

  abbrev written : Object → List Column
  written o = name_column ∷ owner_columns o ++ custom_columns o

  abbrev last_modified : Column
  last_modified = column (codes "LastModifiedDate") (of_type type.Moment) its_modified

  abbrev created : Column
  created = column (codes "CreatedDate") (of_type type.Moment) its_created

  custom_alone : (o : Object) → column_named o name ≡ find (λ c. same_name c.name name) (custom_columns o)
  unfolding column_named
  custom_alone o =
      passed (column (codes "Id") of_ids its_id) (created ∷ last_modified ∷ written o) refl
      ∙ passed created (last_modified ∷ written o) refl
      ∙ passed last_modified (written o) refl
      ∙ passed name_column (owner_columns o ++ custom_columns o) refl
      ∙ past_owner (is_detail o) (custom_columns o)

-- the column with the name of a custom field is that of the field
pub column_is : (q : OrgPlan) (t : Tenant) (o : Numbered) (name : List ℕ) (r : FieldPlace) (c : Column) → IsSound t → object_numbered t o.number ≡ Some o.object
    → find (λ g. same_name g.name name) (map (place_of q o.number) (enumerate_from 0 o.object.fields)) ≡ Some r → column_named o.object name ≡ Some c → c.content ≡ of_type r.kind
column_is q t o name r c sound there found named =
    let it = custom_found q o.number name r 0 1 o.object.fields found in
    let its_name = (of_each (IsSoundField (length t.objects)) o.object.fields it.field.1 (sound_object t o.number o.object sound there).fields it.there).name in
    let same = (found_has (λ (g : FieldPlace). same_name g.name name) (map (place_of q o.number) (enumerate_from 0 o.object.fields)) r found).1 in
    let low : has_underscore (lower name) ≡ true = ap has_underscore (sym (lower_is r.name name same) ∙ ap lower it.name_is) ∙ custom_so it.field.1.name its_name in
    let is : c ≡ custom it.field = some_is c (custom it.field) (sym named ∙ custom_alone name low o.object ∙ it.found) in
    ap (λ (d : Column). d.content) is ∙ ap of_type (sym it.kind)
