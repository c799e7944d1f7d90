-- What is found by the layout of an object, as edits of the object are told it.
use Rattle.std.proofs.Common.{◌≡◌, ◌∙◌, ℕ, Bool, true, false, cond, List, [], ◌∷◌, map, Option, Some, None, Result, Ok, Err, refl, sym, ap, subst, bytes_eq}
use Rattle.std.specs.List.{find}
use Rattle.std.specs.Str.{chars}
use Rattle.std.proofs.lemmas.Option.{same_Some as some_is}
use Rattle.record_input.proofs.Searching.{all_pass, found_has}
use Rattle.record_input.specs.Given.{FindNone, Finds, FindsNamed, IsFound, IsKnown, found_named, finds_none}
use Rattle.record_input.specs.declared.found.Found.{Found}
use Rattle.base_value.specs.Texts.{lower}
use Rattle.base_value.specs.declared.value.FieldType.{FieldType}
use Rattle.model.specs.declared.record_bodies.Assignment.{Assignment}
use Rattle.model.specs.declared.record_bodies.Given.{Given}
use Rattle.model.specs.declared.record_bodies.Given.TheVariants as gives
use Rattle.model.specs.Cases.{in_case}
use Rattle.model.specs.Fields.{Column, column_named, columns, of_type, same_name}
use Rattle.model.specs.Given.{target_of_kind}
use Rattle.model.specs.Objects.{Numbered, object_named, object_numbered}
use Rattle.model.specs.Relationships.{target_of}
use Rattle.model.specs.Sound.{IsSound}
use Rattle.model.specs.Tenant.{Object, Tenant}
use Rattle.store_rows.specs.declared.fail.StoreFail.{StoreFail}
use Rattle.record_target.proofs.Objects.{Named}
use Rattle.store_abstraction.specs.Layouts.{layout_of}
use Rattle.store_abstraction.specs.Plan.{OrgPlan}
use Rattle.store_abstraction.specs.declared.layout.FieldPlace.{FieldPlace}
use Rattle.store_abstraction.specs.declared.layout.Layout.{Layout}
use Rattle.cmd_load_row.specs.declared.parents.Parent.{Parent}
use Rattle.cmd_load_row.specs.inner.Finding.{IsParentOf, place_named, target_named}
use Rattle.cmd_load_row.specs.inner.Parents.{AllFound, AllKnown, AreTold, FindsAll, FindsParents, IsFoundBy, IsKnownBy, parent_named, told, told_of}
use Rattle.cmd_load_row.proofs.Naming.{column_is, lower_is}

-- ---- what finds none

nothing_known : (t : Tenant) (parents : List Parent) (c : Column) (x : Given) → finds_none x ≡ true → IsKnownBy t parents c x
nothing_known t parents c (gives.Find place text) none = absurd cc
nothing_known t parents c (gives.Json j) none = tt
nothing_known t parents c (gives.Read v) none = tt

-- nothing that is given finds a record
none_known : (t : Tenant) (o : Object) (parents : List Parent) (given : List Assignment) → FindNone given → AllKnown t o parents given
none_known t o parents given none x c has named = nothing_known t parents c x.given (all_pass (λ x. finds_none x.given) given x none has)

-- ---- a column

-- the reference with a name
record IsReference (l : Layout) (name : List ℕ) (object : ℕ) : Type 0 where
  field : FieldPlace
  named : place_named l name ≡ Some field
  target : target_of field.kind ≡ Some object

reference_of : (l : Layout) (name : List ℕ) (object : ℕ) → target_named l name ≡ Some object → IsReference l name object
reference_of l name object e = by (place_named l name) refl e
  where
    by : (r : Option FieldPlace) → place_named l name ≡ r → in_case r None (λ f. target_of f.kind) ≡ Some object → IsReference l name object
    by None is e = absurd cc
    by (Some f) is e = record { field = f; named = is; target = e }

module _ (org : ℕ) (q : OrgPlan) (t : Tenant) (o : Numbered) (sound : IsSound t) (there : object_numbered t o.number ≡ Some o.object) where
  abbrev its : Layout
  its = layout_of org q t o

  -- what was found for the name of a column is told of the column
  known_by : (name : List ℕ) (c : Column) (place : ℕ) (text : List ℕ) (p : Parent) → column_named o.object name ≡ Some c → IsParentOf t its name place text p
      → (x : Found) → told x ≡ told_of p → IsFound t c place text x
  known_by name c place text p named is x same =
      let reference = reference_of its name is.object is.target in
      let content : c.content ≡ of_type reference.field.kind = column_is q t o name reference.field c sound there reference.named named in
      let one = is.parent in
      record {
        object = is.object;
        unique = one.unique;
        target = ap target_of_kind content ∙ reference.target;
        there = one.there;
        kind = ap (λ (y : List ℕ × FieldType × Option (List ℕ)). y.1) same ∙ one.kind;
        types = one.types;
        id = λ v read some. ap (λ (y : List ℕ × FieldType × Option (List ℕ)). y.2) same ∙ one.id v read some;
      }

  -- so it is of all that is given
  pub all_known : (parents : List Parent) (given : List Assignment) → AllFound t its parents given → AllKnown t o.object parents given
  unfolding column_named
  all_known parents given found x c has named = by x.given (found x has)
    where
      low : lower x.field ≡ lower c.name
      low = sym (lower_is c.name x.field (found_has (λ (d : Column). same_name d.name x.field) (columns o.object) c named).1)

      by : (g : Given) → IsFoundBy t its parents x.field g → IsKnownBy t parents c g
      by (gives.Find place text) is = (
        is.0,
        ap (λ (name : List ℕ). find (λ (p : Parent). bytes_eq (lower p.name) name) parents) (sym low) ∙ is.1,
        known_by x.field c place text is.0 named is.2,
      )
      by (gives.Json j) is = tt
      by (gives.Read v) is = tt

-- by the layout of the object with a name
pub parents_known : (org : ℕ) (q : OrgPlan) (t : Tenant) (name : List ℕ) (given : List Assignment) (l : Layout) → Named → IsSound t → (o : Numbered) → object_named t name ≡ Some o → l ≡ layout_of org q t o
    → (r : Result (List Parent) StoreFail) → FindsAll t l given r → FindsParents t name given r
parents_known org q t name given l law sound o named is (Ok parents) found =
    λ x other.
    let same : o ≡ x = some_is o x (sym named ∙ other) in
    subst (λ (y : Numbered). AllKnown t y.object parents given) same
    (all_known org q t o sound (law t name o named) parents given (subst (λ (k : Layout). AllFound t k parents given) is found))
parents_known org q t name given l law sound o named is (Err e) found = found

-- there is no object with the name
pub none_named : (t : Tenant) (name : List ℕ) (given : List Assignment) (parents : List Parent) → object_named t name ≡ None → FindsParents t name given (Ok parents)
none_named t name given parents none o named = absurd (apart o (sym none ∙ named))
  where
    apart : (o : Numbered) → ◌≡◌ {A = Option Numbered} None (Some o) → ⊥
    apart o e = cc

-- nothing finds a record
pub none_sought : (t : Tenant) (name : List ℕ) (given : List Assignment) (parents : List Parent) → FindNone given → FindsParents t name given (Ok parents)
none_sought t name given parents none o named = none_known t o.object parents given none

-- ---- what is told

abbrev Told : Type 0
Told = List ℕ × FieldType × Option (List ℕ)

head_is : (x y : Told) (xs ys : List Told) → x ∷ xs ≡ y ∷ ys → x ≡ y
head_is x y xs ys e = cc

tail_is : (x y : Told) (xs ys : List Told) → x ∷ xs ≡ y ∷ ys → xs ≡ ys
tail_is x y xs ys e = cc

-- the first for a name is told first
record IsTold (found : List Found) (name : List ℕ) (p : Parent) : Type 0 where
  it : Found
  named : found_named found name ≡ Some it
  same : told it ≡ told_of p

told_so : (found : List Found) (parents : List Parent) (name : List ℕ) (p : Parent) → AreTold found parents → parent_named parents name ≡ Some p → IsTold found name p
told_so [] [] name p are e = absurd cc
told_so [] (y ∷ parents) name p are e = absurd cc
told_so (x ∷ found) [] name p are e = absurd cc
told_so (x ∷ found) (y ∷ parents) name p are e =
    by (same_name y.name name) refl e (told_so found parents name p (tail_is (told x) (told_of y) (map told found) (map told_of parents) are))
  where
    first : told x ≡ told_of y
    first = head_is (told x) (told_of y) (map told found) (map told_of parents) are

    test : same_name (chars x.name.now) name ≡ same_name y.name name
    test = ap (λ (z : Told). same_name z.0 name) first

    by : (b : Bool) → same_name y.name name ≡ b → cond b (Some y) (parent_named parents name) ≡ Some p → (parent_named parents name ≡ Some p → IsTold found name p) → IsTold (x ∷ found) name p
    by true is e rest = record {
      it = x;
      named = ap (λ (b : Bool). cond b (Some x) (found_named found name)) (test ∙ is);
      same = first ∙ ap told_of (some_is y p e);
    }
    by false is e rest =
        let it = rest e in
        record { it = it.it; named = ap (λ (b : Bool). cond b (Some x) (found_named found name)) (test ∙ is) ∙ it.named; same = it.same }

-- what is told finds what is given
finds_named : (t : Tenant) (o : Object) (parents : List Parent) (found : List Found) (given : List Assignment) → AllKnown t o parents given → AreTold found parents → FindsNamed t o found given
finds_named t o parents found given known are x c has named = by x.given (known x c has named)
  where
    by : (g : Given) → IsKnownBy t parents c g → IsKnown t found c g
    by (gives.Find place text) is =
        let it = told_so found parents c.name is.0 are is.1 in
        (it.it, it.named, is.2 it.it it.same)
    by (gives.Json j) is = tt
    by (gives.Read v) is = tt

-- in the object with a name, as the laws of `record_input` have it
pub finds_told : ((t : Tenant) (o : Numbered) (found : List Found) (body : List Assignment) → IsSound t → object_numbered t o.number ≡ Some o.object → FindsNamed t o.object found body → Finds t o.object None found body)
    → Named → (t : Tenant) (name : List ℕ) (parents : List Parent) (found : List Found) (given : List Assignment) → IsSound t → FindsParents t name given (Ok parents) → AreTold found parents
    → (o : Numbered) → object_named t name ≡ Some o → Finds t o.object None found given
finds_told law named t name parents found given sound known are o is = law t o found given sound (named t name o is) (finds_named t o.object parents found given (known o is) are)
