-- What a page of an object's validation rules gives is the rules that its tenant has there.
use Rattle.std.proofs.Common.{◌≡◌, ℕ, ◌≤◌, ◌<◌, ◌^◌, true, cond, IsTrue, List, [], ◌∷◌, ◌++◌, inl, inr, length, map, take, Option, Some, None, refl, sym, ap, subst, ◌∙◌, arith, nat_le}
use Rattle.std.specs.Prelude.{◌-◌, IsSome, Result, Ok, Err, Vec}
use Rattle.std.specs.List.{AllByRecursion}
use Rattle.std.specs.Option.{option_map}
use Rattle.std.proofs.lemmas.Bool.Decides.{nat_tests}
use Rattle.std.proofs.lemmas.List.{length-map, take_all}
use Rattle.base_lemmas.proofs.Options.{some_from_IsSome as some_of}
use Rattle.base_lemmas.proofs.Bools.{by_answer as pick}
use Rattle.std.proofs.lemmas.Option.{same_Some as some_is}
use Rattle.store_kv.specs.declared.keeper.KeptRow.{KeptRow}
use Rattle.store_kv.specs.Draft.{Held}
use Rattle.store_kv.specs.Prefixes.{raised}
use Rattle.store_kv.specs.State.{KeeperState}
use Rattle.store_kv.specs.Tables.{Tables, is_between, rows_between}
use Rattle.store_rows.specs.declared.fail.StoreFail.{StoreFail}
use Rattle.store_rows.specs.declared.fail.StoreFail.TheVariants.{Keeper, Memory, Damaged}
use Rattle.store_rows.specs.declared.validation.ValidationRow.{ValidationRow}
use Rattle.store_rows.specs.Listings.{rows_to}
use Rattle.store_rows.specs.Reads.{ListsAs}
use Rattle.store_rows.specs.Rows.{validation_form}
use Rattle.model.specs.Cases.{in_case}
use Rattle.model.specs.Membership.{Has}
use Rattle.model.specs.Names.{is_stem}
use Rattle.model.specs.Objects.{object_numbered}
use Rattle.model.specs.SoundMetadata.{IsSoundObject, IsSoundValidation}
use Rattle.model.specs.Tenant as model
use Rattle.model.specs.Tenant.{Tenant, ValidationRule}
use Rattle.store_codec.specs.Plain.{number16, number32, number8}
use Rattle.schema_rules.specs.Rows.{rule_rows}
use Rattle.schema_rules.specs.inner.Pages.{at_most}
use Rattle.store_abstraction.specs.Calls.{Calls, Ending, done, ended, fell, stopped}
use Rattle.store_abstraction.specs.Layouts.{FindsOf, IsLayout, layout_of, own_layout}
use Rattle.store_abstraction.specs.Local.{StandsIn, is_place_of, is_under, part_of, rows_alone}
use Rattle.store_abstraction.specs.Metadata.{validation_of}
use Rattle.store_abstraction.specs.Plan.{OrgPlan}
use Rattle.store_abstraction.specs.declared.layout.Layout.{Layout}
use Rattle.store_abstraction.proofs.MetadataRows.{sound_object}
use Rattle.store_abstraction.proofs.Pages.{GivesRows, PageLaws, page_gives}
use Rattle.schema_rules.proofs.Listed.{KeyLaws, prefix_of, rules_listed}

-- ---- a layout's object

pub record IsOf (q : OrgPlan) (t : Tenant) (l : Layout) : Type 0 where
  pub object : model.Object
  pub there : object_numbered t l.object ≡ Some object
  pub made : layout_of l.org q t (record { number = l.object; object = object }) ≡ l

pub layout_is : (q : OrgPlan) (t : Tenant) (l : Layout) → IsLayout q t l → IsOf q t l
unfolding own_layout
layout_is q t l h = by (object_numbered t l.object) refl h
  where
    by : (o : Option model.Object) → object_numbered t l.object ≡ o
        → option_map (layout_of l.org q t) (option_map (λ x. record { number = l.object; object = x }) o) ≡ Some l → IsOf q t l
    by None there h = absurd cc
    by (Some o) there h = record {
      object = o;
      there = there;
      made = some_is (layout_of l.org q t (record { number = l.object; object = o })) l h;
    }

-- ---- laws of rows, as `store_rows` and `store_abstraction` say

abbrev pub UnderOrg : Type 0
UnderOrg = (n : ℕ) (rest above key : List ℕ) → raised (number32 n ++ rest) ≡ Some above
    → IsTrue (is_between (number32 n ++ rest) above key) → is_under (number32 n) key ≡ true

abbrev pub ListedIn : Type 0
ListedIn = (m : Tables) (n table : ℕ) (from below : List ℕ) → ((key : List ℕ) → IsTrue (is_between from below key) → is_place_of n (table, key) ≡ true)
    → rows_between m table from below ≡ rows_between (part_of n m) table from below

abbrev pub PrefixEnds : Type 0
PrefixEnds = (org : ℕ) (rest : List ℕ) → org < 2 ^ 32 - 1 → IsSome (raised (number32 org ++ rest))

pub record ReadLaws : Type 0 where
  pub keys : KeyLaws
  pub pages : PageLaws validation_form
  pub ends : PrefixEnds
  pub under : UnderOrg
  pub listed : ListedIn

-- ---- what is read

stems_of : (rules : List ValidationRule) → AllByRecursion IsSoundValidation rules → (r : ValidationRule) → Has rules r → IsTrue (is_stem r.name)
stems_of [] h r has = absurd has
stems_of (x ∷ rules) h r (inl e) = subst (λ (y : ValidationRule). IsTrue (is_stem y.name)) (sym e) h.0.name
stems_of (x ∷ rules) h r (inr has) = stems_of rules h.1 r has

module _ {A : Type 0} (laws : ReadLaws) (m : Tables) (l : Layout) (lo : l.org < 2 ^ 32) (small : l.object < 2 ^ 16) where
  module _ (r : Result (Vec ValidationRow A) StoreFail) (e : ListsAs validation_form (take 51 (rows_to m 6 (prefix_of l.org l.object) (raised (prefix_of l.org l.object)))) r) where
    record Given (t : Tenant) : Type 0 where
      rules : List ValidationRow
      is : rule_rows l.org l.object t ≡ rules
      few : length rules ≤ 50
      gives : GivesRows rules r

    given : (q : OrgPlan) (t : Tenant) → StandsIn l.org q m (Some t) → IsLayout q t l → Given t
    given q t s h =
        let one = layout_is q t l h in
        let o = one.object in
        let its : IsSoundObject t.objects (record { number = l.object; object = o }) = sound_object t l.object o s.sound one.there in
        let (above, rises) = some_of (raised (prefix_of l.org l.object)) (laws.ends l.org (number8 0 ++ number16 l.object) s.number) in
        let lists = rules_listed laws.keys q t l.org l.object lo small s.sound o one.there above rises (stems_of o.validation_rules its.rules) its.rules_rise in
        let part : rows_between m 6 (prefix_of l.org l.object) above ≡ rows_between (part_of l.org m) 6 (prefix_of l.org l.object) above =
        laws.listed m l.org 6 (prefix_of l.org l.object) above (λ key inside. laws.under l.org (number8 0 ++ number16 l.object) above key rises inside) in
        let found = subst (λ (o : Option (List ℕ)). ListsAs validation_form (take 51 (rows_to m 6 (prefix_of l.org l.object) o)) r) rises e in
        let page = subst (λ (kept : List KeptRow). ListsAs validation_form (take 51 kept) r) part found in
        let all = map (validation_of l.org l.object) o.validation_rules in
        let short : length all ≤ 50 = omega (arith, length-map o.validation_rules (validation_of l.org l.object), its.few_rules) in
        record {
          rules = all;
          is = ap (λ (x : Option model.Object). in_case x [] (λ o. map (validation_of l.org l.object) o.validation_rules)) one.there;
          few = short;
          gives = subst (λ (us : List ValidationRow). GivesRows us r) (take_all 51 all (omega (arith, short)))
              (page_gives validation_form laws.pages (part_of l.org m) (rows_alone l.org q (Some t)) s.rows (prefix_of l.org l.object) (Some above) all 51 lists r page);
        }

  pub rules_found : (r : Result (Vec ValidationRow A) StoreFail) → ListsAs validation_form (take 51 (rows_to m 6 (prefix_of l.org l.object) (raised (prefix_of l.org l.object)))) r → FindsOf l (rule_rows l.org l.object) m (at_most 50 r)
  rules_found (Err Keeper) e = tt
  rules_found (Err Memory) e = tt
  rules_found (Err Damaged) e = λ q t s h. (given (Err Damaged) e q t s h).gives
  rules_found (Ok rows) e =
      pick (nat_le (length rows.items) 50) (λ b. nat_le (length rows.items) 50 ≡ b → FindsOf l (rule_rows l.org l.object) m (cond b (Ok rows.items) (Err Damaged)))
      (λ _ _. λ q t s h. let g = given (Ok rows) e q t s h in g.gives ∙ sym g.is)
      (λ _ many. λ q t s h.
      let g = given (Ok rows) e q t s h in
      let few : length rows.items ≤ 50 = subst (λ (us : List ValidationRow). length us ≤ 50) (sym g.gives) g.few in
      grind (arith, nat_tests))
      refl

-- ---- how it ended

abbrev pub Weaker : {K : Type 0} → (K → KeeperState) → Type 0
Weaker {K} state = (shown : ℕ) (e : Ending) (a b : Held K) → (e ≡ fell → ⊥) → Calls state shown done a b → Calls state shown e a b

pub at_most_calls : {K U A : Type 0} (state : K → KeeperState) → Weaker state → (a b : Held K) (most : ℕ) (r : Result (Vec U A) StoreFail) → Calls state 0 (ended r) a b → Calls state 0 (ended (at_most most r)) a b
at_most_calls state weaker a b most (Err e) h = h
at_most_calls {U = U} state weaker a b most (Ok rows) h =
    pick (nat_le (length rows.items) most) (λ c. Calls state 0 (ended {X = List U} (cond c (Ok rows.items) (Err Damaged))) a b)
    (λ _. h)
    (λ _. weaker 0 stopped a b (λ e. cc) h)
