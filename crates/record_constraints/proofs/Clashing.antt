-- The rules of unique fields: what is found in each of them tells whether another record has the value.
use Rattle.std.proofs.Common.{◌≡◌, inl, inr, ℕ, suc, ◌+◌, ◌<◌, ◌≤◌, Bool, true, false, not, ◌&&◌, cond, List, [], ◌∷◌, map, filter, drop, length, add-one, drop-cons, Option, Some, None, refl, sym, ap, subst, ◌∙◌, bytes_eq}
use Rattle.std.specs.Prelude.{Result, Ok, Err, slice_get}
use Rattle.std.specs.List.{enumerate_from, find}
use Rattle.std.specs.Option.{option_and_then, option_map}
use Rattle.std.proofs.lemmas.List.{drop_all}
use Rattle.std.proofs.lemmas.Option.{get_or_from_slice_get, slice_get_within}
use Rattle.std.proofs.lemmas.Slice.Eq.{bytes_eq-Decides}
use Rattle.base_lemmas.proofs.Bools.{and_first as and_left, and_second as and_right, by_answer as pick}
use Rattle.std.proofs.lemmas.Bool.{true≢false as differ}
use Rattle.base_lemmas.proofs.Lists.{slice_get_below as get_there}
use Rattle.formula.specs.Meaning.{value_at}
use Rattle.store_kv.specs.Draft.{Held}
use Rattle.store_kv.specs.State.{KeeperState}
use Rattle.store_kv.specs.Tables.{Tables}
use Rattle.store_rows.specs.declared.fail.StoreFail.{StoreFail}
use Rattle.store_rows.specs.declared.fail.StoreFail.TheVariants.{Keeper, Memory, Damaged}
use Rattle.model.specs.declared.record.Record.{Record}
use Rattle.model.specs.declared.refusal.Refusal.{Refusal}
use Rattle.model.specs.Cases.{in_case}
use Rattle.model.specs.Edits.{clash, duplicate_of}
use Rattle.model.specs.Fields.{is_null}
use Rattle.model.specs.Given.{has_value, record_by_value}
use Rattle.model.specs.Levels.{can_read}
use Rattle.model.specs.Membership.{Has}
use Rattle.model.specs.Objects.{is_of, records_of}
use Rattle.model.specs.Paths.{Asked}
use Rattle.model.specs.Rules.{Rule, first_refusal}
use Rattle.model.specs.Sound.{IsSound}
use Rattle.model.specs.SoundRecords.{all_valid}
use Rattle.model.specs.Tenant.{Tenant, User}
use Rattle.access_traits.specs.Rights.{FindsFor, Whose}
use Rattle.schema_rules.specs.Objects.{field_of_place}
use Rattle.store_abstraction.specs.Calls.{Calls, ended}
use Rattle.store_abstraction.specs.Layouts.{FindsOf, IsLayout}
use Rattle.store_abstraction.specs.Local.{StandsIn}
use Rattle.store_abstraction.specs.Plan.{OrgPlan}
use Rattle.store_abstraction.specs.declared.layout.FieldPlace.{FieldPlace}
use Rattle.store_abstraction.specs.declared.layout.Layout.{Layout}
use Rattle.record_read.specs.Decoding.{has_types, kinds_in}
use Rattle.record_read.proofs.Ended.{IsMadeOf}
use Rattle.record_read.proofs.Loading.{err_is, no_ok, ok_is}
use Rattle.record_read.proofs.Rising.{found_itself, has_filter}
use Rattle.record_read.proofs.RowFits.{typed_at, valid_at}
use Rattle.record_read.proofs.Standing.{layout_is, of_object}
use Rattle.base_value.specs.Causes.{GivesOr}
use Rattle.base_value.specs.OrderKeys.{Fits}
use Rattle.base_value.specs.Types.{is_type}
use Rattle.base_value.specs.Values.{equal, valid}
use Rattle.base_value.specs.declared.value.FieldType.TheVariants as type
use Rattle.base_value.specs.declared.value.Value.{Value}
use Rattle.record_constraints.specs.Judged.{FindsRule}
use Rattle.record_constraints.specs.Uniques.{HasUnique, is_unique_value}
use Rattle.record_constraints.specs.inner.Clashes.{clash_at, clash_told, clash_with, clashes_from, clashing_id, other_than, others_of, told_clash, unique_value, unless_own}
use Rattle.record_constraints.specs.inner.Reading.{readable_there}
use Rattle.record_constraints.proofs.Searching.{find_has, find_none, none_has, none_passes, still_found}
use Rattle.record_constraints.proofs.UniqueRows.{ValueLaws, fits_part, its, its_fits, its_unique, values_equal}

-- ---- the value of a field

pub value_there : (f : FieldPlace) (v w : Value) → Some w ≡ unique_value f v → (w ≡ v) × (f.unique ≡ true) × (is_null v ≡ false)
value_there f v w h = by f.unique (is_null v) refl refl h
  where
    by : (a b : Bool) → f.unique ≡ a → is_null v ≡ b → Some w ≡ cond (a && not b) (Some v) None → (w ≡ v) × (f.unique ≡ true) × (is_null v ≡ false)
    by true true u n h = absurd cc
    by true false u n h = (cc, u, n)
    by false b u n h = absurd cc

-- a record of the object with this layout has valid values in its unique fields
pub has_unique : (l : Layout) (values : List Value) (number : ℕ) (f : FieldPlace) → has_types l ≡ true → all_valid (kinds_in l.fields) values ≡ true → slice_get l.fields number ≡ Some f → f.unique ≡ true
    → is_unique_value (value_at values (number + 1)) f ≡ true
has_unique l [] number f types valids at unique = absurd cc
has_unique l (v ∷ vs) number f types valids at unique =
    let typed = typed_at (λ (x : FieldPlace). x.kind) l.fields number f types at in
    let valued = valid_at (λ (x : FieldPlace). x.kind) l.fields vs number f (and_right (valid (type.Text 80) v) (all_valid (map (λ f. f.kind) l.fields) vs) valids) at in
    rw (unique, typed, add-one number, valued) refl

pub sought_is_unique : (l : Layout) (values : List Value) (number : ℕ) (f : FieldPlace) → has_types l ≡ true → all_valid (kinds_in l.fields) values ≡ true → slice_get l.fields number ≡ Some f
    → (w : Value) → Some w ≡ unique_value f (value_at values (number + 1)) → HasUnique l number w
sought_is_unique l values number f types valids at w sought =
    let there = value_there f (value_at values (number + 1)) w sought in
    ap (λ (x : Option FieldPlace). in_case x false (is_unique_value w)) at
    ∙ subst (λ (x : Value). is_unique_value x f ≡ true) (sym there.0) (has_unique l values number f types valids at there.1)

-- ---- another record that has the value of a field

module _ (laws : ValueLaws) (l : Layout) (new : Record) (number : ℕ) (f : FieldPlace) (at : slice_get l.fields number ≡ Some f) where
  abbrev v : Value
  v = value_at new.values (number + 1)

  -- the records of the object, and those of them that have the value
  abbrev records : Tenant → List Record
  records t = records_of t l.object

  abbrev test : Record → Bool
  test = has_value (number + 1) v

  abbrev other : Record → Bool
  other r = not (bytes_eq r.id new.id)

  abbrev its_id : Record → List ℕ
  its_id r = r.id

  -- the field is there
  clashing_at : (t : Tenant) → cond f.unique (option_map its_id (find test (filter other (records t)))) None ≡ clashing_id l new number t
  clashing_at t = sym (ap (λ (x : Option FieldPlace). in_case x None (λ f. cond f.unique (option_map its_id (find test (filter other (records t)))) None)) at)

  -- a field that isn't unique, or whose value is null, has no value of another
  pub nothing_sought : unique_value f v ≡ None → (t : Tenant) → None ≡ clashing_id l new number t
  nothing_sought none t = sym (by f.unique (is_null v) refl none) ∙ clashing_at t
    where
      by : (b n : Bool) → is_null v ≡ n → cond (b && not n) (Some v) None ≡ None → cond b (option_map its_id (find test (filter other (records t)))) None ≡ None
      by true true null h = ap (option_map its_id) (find_none test (filter other (records t)) (λ r. ap (λ b. not b && equal (value_at r.values (number + 1)) v) null))
      by true false null h = absurd cc
      by false n null h = refl

  module _ (is : is_unique_value v f ≡ true) (there : is_null v ≡ false) (fits : Fits v) (m : Tables) (q : OrgPlan) (t : Tenant) (s : StandsIn l.org q m (Some t)) (h : IsLayout q t l) where
    -- no two records have the value
    same_id : (x r : Record) → Has (records t) x → Has (records t) r → test x ≡ true → test r ≡ true → x.id ≡ r.id
    same_id x r has_x has_r of_x of_r =
        let one = layout_is q t l h in
        let g = its laws q t l one s.sound s.plan number f at in
        let unique = its_unique laws q t l one s.sound s.plan number f at ∙ and_left f.unique (is_type f.kind && valid f.kind v) is in
        let fits_x = its_fits laws q t l one s.sound s.plan number f at x has_x in
        let fits_r = its_fits laws q t l one s.sound s.plan number f at r has_r in
        let equals = values_equal laws.same number v there fits x r fits_x fits_r of_x of_r in
        s.sound.records.unique l.object number one.object g.0 one.there g.1 unique x r has_x has_r equals.0 equals.1

    found_so : (x : Option Record) → find test (records t) ≡ x → option_and_then (unless_own new.id) (option_map its_id x) ≡ option_map its_id (find test (filter other (records t)))
    found_so None e = sym (ap (option_map its_id) (none_passes test other (records t) (λ r has of. absurd (differ (sym of ∙ none_has test (records t) e r has)))))
    found_so (Some r) e =
        let (has, of) = find_has test (records t) r e in
        pick (bytes_eq r.id new.id) (λ b. bytes_eq r.id new.id ≡ b → cond b None (Some r.id) ≡ option_map its_id (find test (filter other (records t))))
        (λ _ own.
        sym (ap (option_map its_id) (none_passes test other (records t) (λ x has_x of_x.
        ap not ((bytes_eq-Decides x.id new.id).1 (same_id x r has_x has of_x of ∙ (bytes_eq-Decides r.id new.id).0 own))))))
        (λ _ apart. sym (ap (option_map its_id) (still_found test other (records t) r e (ap not apart))))
        refl

    pub clash_is : option_and_then (unless_own new.id) (option_map its_id (record_by_value t l.object (number + 1) v)) ≡ clashing_id l new number t
    unfolding record_by_value
    clash_is =
        found_so (find test (records t)) refl
        ∙ sym (ap (λ b. cond b (option_map its_id (find test (filter other (records t)))) None) (and_left f.unique (is_type f.kind && valid f.kind v) is))
        ∙ clashing_at t

  module _ (is : is_unique_value v f ≡ true) (there : is_null v ≡ false) (fits : Fits v) (m : Tables) where
    abbrev Found : Result (Option (List ℕ)) StoreFail → Type 0
    Found found = FindsOf l (λ (t : Tenant). option_map its_id (record_by_value t l.object (number + 1) v)) m found

    pub clash_finds : (found : Result (Option (List ℕ)) StoreFail) → Found found → FindsOf l (clashing_id l new number) m (other_than new.id found)
    clash_finds (Ok x) h = λ q t s is_l. ap (option_and_then (unless_own new.id)) (h q t s is_l) ∙ clash_is is there fits m q t s is_l
    clash_finds (Err Damaged) h = h
    clash_finds (Err Keeper) h = tt
    clash_finds (Err Memory) h = tt

  pub sought_finds : has_types l ≡ true → all_valid (kinds_in l.fields) new.values ≡ true → (w : Value) → Some w ≡ unique_value f v → (m : Tables) (found : Result (Option (List ℕ)) StoreFail)
      → FindsOf l (λ (t : Tenant). option_map its_id (record_by_value t l.object (number + 1) w)) m found → FindsOf l (clashing_id l new number) m (other_than new.id found)
  sought_finds types valids w sought m found h =
      let there = value_there f v w sought in
      let is = has_unique l new.values number f types valids at there.1 in
      clash_finds is there.2 (fits_part laws.fits v f is) m found
      (subst (λ (x : Value). FindsOf l (λ (t : Tenant). option_map its_id (record_by_value t l.object (number + 1) x)) m found) there.0 h)

-- what was read of another's isn't the keeper's failure
module _ {K : Type 0} (state : K → KeeperState) (a b : Held K) where
  pub other_calls : (own : List ℕ) (found : Result (Option (List ℕ)) StoreFail) → Calls state 0 (ended found) a b → Calls state 0 (ended (other_than own found)) a b
  other_calls own (Ok x) h = h
  other_calls own (Err e) h = h

-- ---- what is told of it

-- the object's records are those that their ids name
readable_is : (t : Tenant) (u : User) (n : ℕ) (r : Record) → IsSound t → Has (records_of t n) r → readable_there t u n r.id ≡ can_read t u r
readable_is t u n r sound has =
    let (among, of) = has_filter (is_of n) t.records r has in
    ap (λ (x : Option Record). in_case (of_object n x) false (can_read t u)) (found_itself t.records r sound.records.rise among)
    ∙ ap (λ (b : Bool). in_case (cond b (Some r) None) false (can_read t u)) of

module _ (l : Layout) (new : Record) (number : ℕ) (f : FieldPlace) (at : slice_get l.fields number ≡ Some f) (a : Asked) (sound : IsSound a.tenant) where
  abbrev tells : List ℕ → Refusal
  tells id = clash_with f.name id (readable_there a.tenant a.user l.object id)

  abbrev found_there : Option Record
  found_there = find (has_value (number + 1) (value_at new.values (number + 1))) (others_of l new a)

  -- the rule of the field is what is told of the other record that has its value
  pub told_is : option_map tells (clashing_id l new number a.tenant) ≡ clash_at l new number a
  told_is =
      ap (λ (x : Option FieldPlace). option_map tells (in_case x None (λ f. cond f.unique (option_map (λ r. r.id) found_there) None))) at
      ∙ by f.unique
      ∙ sym (ap (λ (x : Option FieldPlace). in_case x None (λ f. clash a (others_of l new a) new (number + 1, field_of_place f))) at)
    where
      one : (x : Option Record) → found_there ≡ x → option_map tells (option_map (λ r. r.id) x) ≡ option_map (duplicate_of a (field_of_place f)) x
      one None e = refl
      one (Some r) e =
          let has = (has_filter (λ r. not (bytes_eq r.id new.id)) (records_of a.tenant l.object) r (find_has (has_value (number + 1) (value_at new.values (number + 1))) (others_of l new a) r e).0).0 in
          ap (λ (b : Bool). Some (clash_with f.name r.id b)) (readable_is a.tenant a.user l.object r sound has)

      by : (b : Bool) → option_map tells (cond b (option_map (λ r. r.id) found_there) None) ≡ cond b (option_map (duplicate_of a (field_of_place f)) found_there) None
      by true = one found_there refl
      by false = refl

module _ (l : Layout) (whose : Whose) (m : Tables) where
  -- what is told once it was asked of the other record
  pub told_found : (name id : List ℕ) (readable : Result Bool StoreFail) → FindsFor l.org whose (λ t u. readable_there t u l.object id) m readable
      → (result : Result Rule StoreFail) → GivesOr Memory (clash_told name id readable) result → FindsRule l whose (told_clash l.object name id) m result
  told_found name id (Ok b) h (Ok rule) g = λ q a s its who. sym (ok_is (Some (clash_with name id b)) rule g) ∙ ap (λ (b : Bool). Some (clash_with name id b)) (h q a.tenant a.user s who)
  told_found name id (Err e) h (Ok rule) g = absurd (no_ok rule e g)
  told_found name id readable h (Err Keeper) g = tt
  told_found name id readable h (Err Memory) g = tt
  told_found name id readable h (Err Damaged) (inl e) = absurd cc
  told_found name id (Ok b) h (Err Damaged) (inr e) = absurd (no_ok (Some (clash_with name id b)) Damaged (sym e))
  told_found name id (Err e) h (Err Damaged) (inr g) =
      λ q a s its who. subst (λ (x : StoreFail). FindsFor l.org whose (λ t u. readable_there t u l.object id) m (Err x)) (err_is e Damaged g) h q a.tenant a.user s who

  module _ (new : Record) (number : ℕ) (within : number < length l.fields) where
    -- no other record has the value
    pub none_clashes : FindsOf l (clashing_id l new number) m (Ok None) → FindsRule l whose (clash_at l new number) m (Ok None)
    none_clashes h =
        let (f, at) = get_there l.fields number within in
        λ q a s its who. ap (option_map (tells l new number f at a s.sound)) (h q a.tenant s its) ∙ told_is l new number f at a s.sound

    -- another has it, and this is told
    pub one_clashes : (f : FieldPlace) → slice_get l.fields number ≡ Some f → (id : List ℕ) → FindsOf l (clashing_id l new number) m (Ok (Some id))
        → (result : Result Rule StoreFail) → FindsRule l whose (told_clash l.object f.name id) m result → FindsRule l whose (clash_at l new number) m result
    one_clashes f at id h (Ok rule) told = λ q a s its who. told q a s its who ∙ ap (option_map (tells l new number f at a s.sound)) (h q a.tenant s its) ∙ told_is l new number f at a s.sound
    one_clashes f at id h (Err Damaged) told = told
    one_clashes f at id h (Err Keeper) told = tt
    one_clashes f at id h (Err Memory) told = tt

  -- what failed before anything was told
  pub clash_fails : (new : Record) (number : ℕ) (e : StoreFail) → FindsOf l (clashing_id l new number) m (Err e) → FindsRule l whose (clash_at l new number) m (Err e)
  clash_fails new number Damaged h = λ q a s its who. h q a.tenant s its
  clash_fails new number Keeper h = tt
  clash_fails new number Memory h = tt

-- what is told is no failure of the keeper
pub told_is_made : (field id : List ℕ) (readable : Result Bool StoreFail) → IsMadeOf readable (clash_told field id readable)
told_is_made field id (Ok b) = λ e. absurd cc
told_is_made field id (Err e) = tt

-- ---- one field after another

module _ (l : Layout) (new : Record) (number : ℕ) where
  abbrev rules_of : Asked → ℕ → List FieldPlace → List Rule
  rules_of a position fields = map (clash a (others_of l new a) new) (enumerate_from position (map field_of_place fields))

  pub past_all : length l.fields ≤ number → (a : Asked) → clashes_from l new number a ≡ None
  past_all le a = ap (λ (fs : List FieldPlace). first_refusal (rules_of a (number + 1) fs)) (drop_all number l.fields le)

  module _ (f : FieldPlace) (at : slice_get l.fields number ≡ Some f) where
    front : drop number l.fields ≡ f ∷ drop (number + 1) l.fields
    front =
        drop-cons l.fields number f (slice_get_within l.fields number f at)
        ∙ ap (λ (x : FieldPlace). x ∷ drop (suc number) l.fields) (get_or_from_slice_get l.fields number f f at)
        ∙ ap (λ (n : ℕ). f ∷ drop n l.fields) (sym (add-one number))

    first_is : (a : Asked) → clashes_from l new number a ≡ first_refusal (clash_at l new number a ∷ rules_of a (number + 1 + 1) (drop (number + 1) l.fields))
    first_is a =
        ap (λ (fs : List FieldPlace). first_refusal (rules_of a (number + 1) fs)) front
        ∙ sym (ap (λ (x : Option FieldPlace). first_refusal (in_case x None (λ f. clash a (others_of l new a) new (number + 1, field_of_place f)) ∷ rules_of a (number + 1 + 1) (drop (number + 1) l.fields))) at)

    next_is : (a : Asked) → None ≡ clash_at l new number a → clashes_from l new (number + 1) a ≡ clashes_from l new number a
    next_is a none = sym (first_is a ∙ sym (ap (λ (r : Rule). first_refusal (r ∷ rules_of a (number + 1 + 1) (drop (number + 1) l.fields))) none))

    stop_is : (a : Asked) (x : Refusal) → Some x ≡ clash_at l new number a → Some x ≡ clashes_from l new number a
    stop_is a x some = sym (first_is a ∙ sym (ap (λ (r : Rule). first_refusal (r ∷ rules_of a (number + 1 + 1) (drop (number + 1) l.fields))) some))

  module _ (within : number < length l.fields) (whose : Whose) (m : Tables) where
    pub finds_next : FindsRule l whose (clash_at l new number) m (Ok None) → (r : Result Rule StoreFail) → FindsRule l whose (clashes_from l new (number + 1)) m r → FindsRule l whose (clashes_from l new number) m r
    finds_next none (Ok x) rest = let (f, at) = get_there l.fields number within in λ q a s h who. rest q a s h who ∙ next_is f at a (none q a s h who)
    finds_next none (Err Damaged) rest = rest
    finds_next none (Err Keeper) rest = tt
    finds_next none (Err Memory) rest = tt

    pub finds_stop : (x : Refusal) → FindsRule l whose (clash_at l new number) m (Ok (Some x)) → FindsRule l whose (clashes_from l new number) m (Ok (Some x))
    finds_stop x some = let (f, at) = get_there l.fields number within in λ q a s h who. stop_is f at a x (some q a s h who)

-- what failed before there was any rule
pub rule_fails : (l : Layout) (whose : Whose) (v u : Asked → Rule) (m : Tables) (e : StoreFail) → FindsRule l whose v m (Err e) → FindsRule l whose u m (Err e)
rule_fails l whose v u m Damaged h = h
rule_fails l whose v u m Keeper h = tt
rule_fails l whose v u m Memory h = tt
