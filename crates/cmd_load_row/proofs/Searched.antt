-- What a text finds by a unique field of an object.
use Rattle.std.proofs.Common.{◌≡◌, ◌∙◌, ◌⊎◌, ℕ, zero, suc, ◌+◌, ◌<◌, length, true, false, ◌&&◌, IsTrue, List, [], ◌∷◌, map, Option, Some, None, Result, Ok, Err, refl, sym, ap, subst, add-one, inl, inr}
use Rattle.std.specs.Prelude.{slice_get}
use Rattle.std.specs.List.{enumerate_from}
use Rattle.std.specs.Option.{option_and_then, option_map}
use Rattle.base_lemmas.proofs.Bools.{and_first as and_left, and_second as and_right}
use Rattle.std.proofs.lemmas.Option.{same_Some as some_is, slice_get_within as get_below}
use Rattle.std.proofs.lemmas.Bool.{and_from as both}
use Rattle.store_kv.specs.Draft.{Held}
use Rattle.store_kv.specs.State.{KeeperState}
use Rattle.store_kv.specs.Tables.{Tables}
use Rattle.store_rows.specs.declared.fail.StoreFail.{StoreFail}
use Rattle.store_rows.specs.declared.fail.StoreFail.TheVariants.{Damaged, Keeper, Memory}
use Rattle.model.specs.Cases.{in_case}
use Rattle.model.specs.Given.{record_by_value}
use Rattle.model.specs.Objects.{Numbered, object_named}
use Rattle.model.specs.Tenant.{Field, Object, Tenant}
use Rattle.record_constraints.specs.Uniques.{HasUnique, is_unique_value}
use Rattle.schema_rules.specs.Objects.{field_of_place}
use Rattle.store_abstraction.specs.Calls.{Calls, Ending, done, ended, fell, stopped}
use Rattle.store_abstraction.specs.Layouts.{FindsOf, IsLayout, layout_of, own_layout, own_layout_named, place_of}
use Rattle.store_abstraction.specs.Local.{StandsIn}
use Rattle.store_abstraction.specs.Plan.{OrgPlan}
use Rattle.store_abstraction.specs.declared.layout.FieldPlace.{FieldPlace}
use Rattle.store_abstraction.specs.declared.layout.Layout.{Layout}
use Rattle.base_value.specs.Reading.{read_value}
use Rattle.base_value.specs.Types.{is_type}
use Rattle.base_value.specs.Values.{valid}
use Rattle.base_value.specs.declared.fail.ValueFail.{ValueFail}
use Rattle.base_value.specs.declared.fail.ValueFail.TheVariants as fail
use Rattle.base_value.specs.declared.value.Value.{Value}
use Rattle.query_plan.proofs.ByLayout.{layout_is, read_is}
use Rattle.cmd_load_row.specs.declared.parents.Parent.{Parent}
use Rattle.cmd_load_row.specs.inner.Finding.{FindsAt, FindsId, FindsOf as FindsParentOf, IsParent, is_unique_at, is_unique_place, target_named, unread}

-- ---- the value

-- there is a field with the number
pub within : (l : Layout) (number : ℕ) → IsTrue (is_unique_at l number) → number < length l.fields
within l number is = by (slice_get l.fields number) refl is
  where
    by : (f : Option FieldPlace) → slice_get l.fields number ≡ f → in_case f false is_unique_place ≡ true → number < length l.fields
    by None at is = absurd cc
    by (Some f) at is = get_below l.fields number f at

module _ (l : Layout) (number : ℕ) (f : FieldPlace) (at : slice_get l.fields number ≡ Some f) where
  unique_place : IsTrue (is_unique_at l number) → is_unique_place f ≡ true
  unique_place is = sym (ap (λ (x : Option FieldPlace). in_case x false is_unique_place) at) ∙ is

  pub typed_place : IsTrue (is_unique_at l number) → IsTrue (is_type f.kind)
  typed_place is = and_right f.unique (is_type f.kind) (unique_place is)

  pub has_unique : (v : Value) → IsTrue (is_unique_at l number) → valid f.kind v ≡ true → HasUnique l number v
  has_unique v is valued =
      ap (λ (x : Option FieldPlace). in_case x false (is_unique_value v)) at
      ∙ both f.unique (is_type f.kind && valid f.kind v) (and_left f.unique (is_type f.kind) (unique_place is)) (both (is_type f.kind) (valid f.kind v) (typed_place is) valued)

  -- the record that has it
  pub id_found : (text : List ℕ) (w : Value) (m : Tables) (r : Result (Option (List ℕ)) StoreFail) → read_value f.kind text ≡ Ok w
      → FindsOf l (λ t. option_map (λ r. r.id) (record_by_value t l.object (number + 1) w)) m r
      → (q : OrgPlan) (t : Tenant) → StandsIn l.org q m (Some t) → IsLayout q t l → FindsId t l number text r
  id_found text w m (Ok id) read finds q t stands laid = λ g v there reads some.
      let same : f ≡ g = some_is f g (sym at ∙ there) in
      let value : w ≡ v = value_is (sym read ∙ ap (λ (x : FieldPlace). read_value x.kind text) same ∙ reads) in
      finds q t stands laid ∙ ap (λ (n : ℕ). option_map (λ r. r.id) (record_by_value t l.object n w)) (add-one number)
      ∙ ap (λ (x : Value). option_map (λ r. r.id) (record_by_value t l.object (suc number) x)) value
    where
      value_is : {v : Value} → ◌≡◌ {A = Result Value ValueFail} (Ok w) (Ok v) → w ≡ v
      value_is e = cc
  id_found text w m (Err Damaged) read finds q t stands laid = λ e. finds q t stands laid
  id_found text w m (Err Keeper) read finds q t stands laid = λ e. absurd cc
  id_found text w m (Err Memory) read finds q t stands laid = λ e. absurd cc

  -- a text that isn't read
  pub none_read : (t : Tenant) (text : List ℕ) (why : ValueFail) → (why ≡ fail.Memory) ⊎ (read_value f.kind text ≡ Err why) → FindsId t l number text (unread why)
  none_read t text fail.Memory h = λ e. absurd cc
  none_read t text _ (inl e) = absurd cc
  none_read t text why (inr e) = λ g v there reads some.
      absurd (apart (sym e ∙ ap (λ (x : FieldPlace). read_value x.kind text) (some_is f g (sym at ∙ there)) ∙ reads))
    where
      apart : {v : Value} → ◌≡◌ {A = Result Value ValueFail} (Err why) (Ok v) → ⊥
      apart e = cc

pub unread_calls : {K : Type 0} (state : K → KeeperState) → ((shown : ℕ) (e : Ending) (a b : Held K) → (e ≡ fell → ⊥) → Calls state shown done a b → Calls state shown e a b)
    → ((e : Ending) (a : Held K) → e ≡ done → Calls state 0 e a a) → (why : ValueFail) (a : Held K) → Calls state 0 (ended (unread why)) a a
unread_calls state weaker none fail.Memory a = weaker 0 stopped a a (λ e. cc) (none done a refl)
unread_calls state weaker none _ a = none done a refl

-- ---- what is told of it

place_is : (q : OrgPlan) (n k i : ℕ) (fs : List Field) (f : FieldPlace) → slice_get (map (place_of q n) (enumerate_from k fs)) i ≡ Some f → slice_get fs i ≡ Some (field_of_place f)
place_is q n k i [] f e = absurd cc
place_is q n k zero (g ∷ fs) f e = ap (λ (x : FieldPlace). Some (field_of_place x)) (some_is (place_of q n (k, g)) f e)
place_is q n k (suc i) (g ∷ fs) f e = place_is q n (k + 1) i fs f e

pub parent_found : (q : OrgPlan) (t : Tenant) (l : Layout) (number : ℕ) (name text : List ℕ) (f : FieldPlace) (id : Option (List ℕ)) (p : Parent)
    → slice_get l.fields number ≡ Some f → IsTrue (is_unique_at l number) → IsLayout q t l → FindsId t l number text (Ok id)
    → p ≡ record { name = name; kind = f.kind; id = id } → FindsAt t l number name text (Ok p)
parent_found q t l number name text f id p at unique laid finds is =
    let one = layout_is q t l laid in
    let there : slice_get one.object.fields number ≡ Some (field_of_place f) =
    place_is q l.object 0 number one.object.fields f (ap (λ (k : Layout). slice_get k.fields number) one.made ∙ at) in (
      ap (λ (x : Parent). x.name) is,
      record {
        unique = field_of_place f;
        there = ap (λ (o : Option Object). option_and_then (λ (x : Object). slice_get x.fields number) o) one.there ∙ there;
        kind = ap (λ (x : Parent). x.kind) is;
        types = typed_place l number f at unique;
        id = λ v read some. ap (λ (x : Parent). x.id) is ∙ finds f v at read some;
      },
    )

-- ---- of the object to which a reference refers

pub parent_by : (t : Tenant) (l target : Layout) (name : List ℕ) (place : ℕ) (text : List ℕ) (object : ℕ) (r : Result Parent StoreFail) → target_named l name ≡ Some object → target.object ≡ object
    → FindsAt t target place name text r → FindsParentOf t l name place text r
parent_by t l target name place text object (Ok p) named number finds = record {
  name_is = finds.0;
  object = object;
  target = named;
  parent = subst (λ (n : ℕ). IsParent t n place text p) number finds.1;
}
parent_by t l target name place text object (Err e) named number finds = finds

-- the layout that was read is of that object and of that organisation
pub target_read : (org n : ℕ) (q : OrgPlan) (t : Tenant) (l : Layout) → Some l ≡ own_layout org n q (Some t) → (l.org ≡ org) × (l.object ≡ n) × IsLayout q t l
target_read org n q t l e = let it = read_is org n q t l (sym e) in (it.organisation, it.number, it.layout)

-- ---- the object with a name

pub none_so : (org : ℕ) (name : List ℕ) (q : OrgPlan) (t : Tenant) → None ≡ own_layout_named org name q (Some t) → object_named t name ≡ None
unfolding own_layout_named
none_so org name q t e = by (object_named t name) refl e
  where
    by : (o : Option Numbered) → object_named t name ≡ o → None ≡ option_map (layout_of org q t) o → object_named t name ≡ None
    by None is e = is
    by (Some o) is e = absurd cc

-- the object, and its layout
pub named_so : (org : ℕ) (name : List ℕ) (q : OrgPlan) (t : Tenant) (l : Layout) → Some l ≡ own_layout_named org name q (Some t)
    → (o : Numbered) × (object_named t name ≡ Some o) × (l ≡ layout_of org q t o)
unfolding own_layout_named
named_so org name q t l e = by (object_named t name) refl e
  where
    by : (o : Option Numbered) → object_named t name ≡ o → Some l ≡ option_map (layout_of org q t) o → (o : Numbered) × (object_named t name ≡ Some o) × (l ≡ layout_of org q t o)
    by None is e = absurd cc
    by (Some o) is e = (o, is, some_is l (layout_of org q t o) e)
