-- What is looked for and found is what the rule on references says.
use Rattle.std.proofs.Common.{◌≡◌, ℕ, ◌+◌, ◌≤◌, Bool, true, false, not, ◌&&◌, cond, List, [], ◌∷◌, ◌++◌, map, is_none, is_some, Option, Some, None, refl, sym, ap, subst, ◌∙◌, inl, inr}
use Rattle.std.specs.Prelude.{Result, Ok, Err, bytes_eq, codes}
use Rattle.std.specs.List.{enumerate_from, flat_map}
use Rattle.std.specs.Option.{option_and_then, option_eq}
use Rattle.std.specs.Str.{chars}
use Rattle.base_value.specs.Causes.{GivesOr}
use Rattle.base_value.specs.Values.{ref_of, same_value}
use Rattle.base_value.specs.declared.value.Value.{Value}
use Rattle.base_value.specs.declared.value.Value.TheVariants as value
use Rattle.formula.specs.Meaning.{value_at}
use Rattle.store_kv.specs.Draft.{DraftReads, DraftTells, Held, tables_of}
use Rattle.store_kv.specs.State.{KeeperState}
use Rattle.store_kv.specs.Tables.{Tables}
use Rattle.store_rows.specs.declared.fail.StoreFail.{StoreFail}
use Rattle.store_rows.specs.declared.fail.StoreFail.TheVariants.{Damaged, Keeper, Memory}
use Rattle.model.specs.declared.record.Record.{Record}
use Rattle.model.specs.declared.refusal.Refusal.{Refusal}
use Rattle.model.specs.declared.refusal.Refusal.TheVariants.{InvalidReference}
use Rattle.model.specs.Cases.{in_case}
use Rattle.model.specs.Edits.{bad_owner, bad_reference, is_target, same_owner}
use Rattle.model.specs.Paths.{Asked}
use Rattle.model.specs.Relationships.{reference_at, target_of}
use Rattle.model.specs.Rules.{Rule, first_of, first_refusal, refuse_if}
use Rattle.model.specs.Tenant.{Tenant, User}
use Rattle.model.specs.World.{user_at, users_in}
use Rattle.access_traits.specs.Rights.{FindsFor, Whose}
use Rattle.schema_rules.specs.Objects.{field_of_place}
use Rattle.store_abstraction.specs.declared.layout.FieldPlace.{FieldPlace}
use Rattle.store_abstraction.specs.declared.layout.Layout.{Layout}
use Rattle.store_abstraction.specs.Calls.{Calls, Ending, done, ended}
use Rattle.store_abstraction.specs.Layouts.{FindsOf}
use Rattle.store_abstraction.specs.Local.{FindsIn}
use Rattle.record_read.proofs.Ended.{IsMadeOf}
use Rattle.record_constraints.specs.Judged.{FindsRule}
use Rattle.record_constraints.specs.inner.Reading.{readable_there}
use Rattle.record_constraints.specs.inner.Targets.{bad_at, bad_from, changed_id, looked_for, refused_unless}

-- ---- a rule, and the next

alone : (r : Rule) → r ≡ first_refusal (r ∷ [])
alone None = refl
alone (Some refusal) = refl

both_of : {X : Type 0} (rule : X → Rule) (xs ys : List X) → first_refusal (first_of rule xs ∷ first_of rule ys ∷ []) ≡ first_of rule (xs ++ ys)
both_of rule [] ys = sym (alone (first_of rule ys))
both_of rule (x ∷ xs) ys = by (both_of rule xs ys) (rule x)
  where
    by : first_refusal (first_of rule xs ∷ first_of rule ys ∷ []) ≡ first_of rule (xs ++ ys)
        → (r : Rule) → first_refusal (first_refusal (r ∷ map rule xs) ∷ first_of rule ys ∷ []) ≡ first_refusal (r ∷ map rule (xs ++ ys))
    by rest None = rest
    by rest (Some refusal) = refl

module _ (l : Layout) (whose : Whose) (m : Tables) where
  -- a rule that is the same whoever asks
  pub found_by_all : (rule : Tenant → Rule) (r : Result Rule StoreFail) → FindsOf l rule m r → FindsRule l whose (λ a. rule a.tenant) m r
  found_by_all rule (Ok found) h = λ q a s its who. h q a.tenant s its
  found_by_all rule (Err Damaged) h = λ q a s its who. h q a.tenant s its
  found_by_all rule (Err Keeper) h = tt
  found_by_all rule (Err Memory) h = tt

  -- the same rule in other words
  pub found_as : (one two : Asked → Rule) → ((a : Asked) → one a ≡ two a) → (r : Result Rule StoreFail) → FindsRule l whose one m r → FindsRule l whose two m r
  found_as one two same (Ok found) h = λ q a s its who. h q a s its who ∙ same a
  found_as one two same (Err Damaged) h = h
  found_as one two same (Err Keeper) h = tt
  found_as one two same (Err Memory) h = tt

  -- the first refuses nothing, and so it is the second
  pub found_then : (one two : Asked → Rule) (r : Result Rule StoreFail) → FindsRule l whose one m (Ok None) → FindsRule l whose two m r → FindsRule l whose (λ a. first_refusal (one a ∷ two a ∷ [])) m r
  found_then one two (Ok found) none h =
      λ q a s its who. h q a s its who ∙ alone (two a) ∙ ap (λ (x : Rule). first_refusal (x ∷ two a ∷ [])) (none q a s its who)
  found_then one two (Err Damaged) none h = h
  found_then one two (Err Keeper) none h = tt
  found_then one two (Err Memory) none h = tt

  -- the first refuses
  pub found_first : (one two : Asked → Rule) (refusal : Refusal) → FindsRule l whose one m (Ok (Some refusal)) → FindsRule l whose (λ a. first_refusal (one a ∷ two a ∷ [])) m (Ok (Some refusal))
  found_first one two refusal h = λ q a s its who. ap (λ (x : Rule). first_refusal (x ∷ two a ∷ [])) (h q a s its who)

  -- what failed before it came to the other
  pub failed_first : (one two : Asked → Rule) (e : StoreFail) → FindsRule l whose one m (Err e) → FindsRule l whose two m (Err e)
  failed_first one two Damaged h = h
  failed_first one two Keeper h = tt
  failed_first one two Memory h = tt

-- ---- the same over a draft

module _ {K : Type 0} (state : K → KeeperState) where
  -- what `store_kv` says of calls that read
  abbrev pub TellsBoth : Type 0
  TellsBoth = (shown later : ℕ) (a b c : Held K) → DraftReads state shown a b → DraftReads state later b c → DraftTells state a c
      → DraftTells state a b × DraftTells state b c × (tables_of state b ≡ tables_of state a)

  abbrev pub ReadsMost : Type 0
  ReadsMost = (shown most : ℕ) (a b : Held K) → (DraftTells state a b → shown ≤ most) → DraftReads state shown a b → DraftReads state most a b

  -- what `store_abstraction` says of one call after another
  abbrev pub CallsThen : Type 0
  CallsThen = (shown later : ℕ) (e : Ending) (a b c : Held K) → Calls state shown done a b → Calls state later e b c → Calls state (shown + later) e a c

  pub wider : ReadsMost → (shown most : ℕ) → shown ≤ most → (e : Ending) (a b : Held K) → Calls state shown e a b → Calls state most e a b
  wider most_of shown most few e a b h = record { reads = most_of shown most a b (λ told. few) h.reads; stays = h.stays; cause = h.cause; quiet = h.quiet }

  -- a call whose rule refuses nothing, and then another
  module _ (l : Layout) (whose : Whose) (one two : Asked → Rule) (shown later : ℕ) (a b c : Held K) (first r : Result Rule StoreFail) (was : first ≡ Ok None) (calls : Calls state shown (ended first) a b) (then : Calls state later (ended r) b c) where
    pub both_found : TellsBoth → DraftTells state a c → (DraftTells state a b → FindsRule l whose one (tables_of state a) first) → (DraftTells state b c → FindsRule l whose two (tables_of state b) r)
        → FindsRule l whose (λ x. first_refusal (one x ∷ two x ∷ [])) (tables_of state a) r
    both_found tells told none found =
        let tell = tells shown later a b c calls.reads then.reads told in
        found_then l whose (tables_of state a) one two r (subst (λ (x : Result Rule StoreFail). FindsRule l whose one (tables_of state a) x) was (none tell.0))
        (subst (λ (m : Tables). FindsRule l whose two m r) tell.2 (found tell.1))

    pub both_called : CallsThen → ReadsMost → (most : ℕ) → shown + later ≤ most → Calls state most (ended r) a c
    both_called calls_then most_of most few =
        wider most_of (shown + later) most few (ended r) a c
        (calls_then shown later (ended r) a b c (subst (λ (x : Result Rule StoreFail). Calls state shown (ended x) a b) was calls) then)

-- ---- what was looked for

pub refused_is_made : (name : List ℕ) (there : Result Bool StoreFail) → IsMadeOf there (refused_unless name there)
refused_is_made name (Ok there) = λ e. absurd cc
refused_is_made name (Err fail) = tt

-- what isn't damaged, and isn't made of what is
undamaged : (there : Result Bool StoreFail) (name : List ℕ) → refused_unless name there ≡ Err Damaged → there ≡ Err Damaged
undamaged (Ok there) name e = absurd cc
undamaged (Err fail) name e = let same : fail ≡ Damaged = cc in ap (λ (f : StoreFail). Err f) same

module _ (l : Layout) (whose : Whose) (m : Tables) (name : List ℕ) (test : Tenant → User → Bool) where
  -- the rule that refuses what isn't there
  pub refused_found : (there : Result Bool StoreFail) → FindsFor l.org whose test m there → (r : Result Rule StoreFail) → GivesOr Memory (refused_unless name there) r
      → FindsRule l whose (λ a. refuse_if (not (test a.tenant a.user)) (InvalidReference name)) m r
  refused_found (Ok there) h (Ok found) is =
      let made : refuse_if (not there) (InvalidReference name) ≡ found = cc in
      λ q a s its who. sym made ∙ ap (λ (b : Bool). refuse_if (not b) (InvalidReference name)) (h q a.tenant a.user s who)
  refused_found (Err fail) h (Ok found) is = absurd cc
  refused_found there h (Err Damaged) (inl e) = absurd cc
  refused_found there h (Err Damaged) (inr e) =
      λ q a s its who. (subst (λ (x : Result Bool StoreFail). FindsFor l.org whose test m x) (undamaged there name e) h) q a.tenant a.user s who
  refused_found there h (Err Keeper) is = tt
  refused_found there h (Err Memory) is = tt

-- ---- references

same_reference : (v : Value) (id : List ℕ) → option_eq bytes_eq (ref_of v) (Some id) ≡ same_value v (value.Ref id)
same_reference (value.Ref i) id = refl
same_reference v id = refl

module _ (a : Asked) (n position : ℕ) (f : FieldPlace) (old new : Record) where
  abbrev rule_on : ℕ × List ℕ → Rule
  rule_on x = refuse_if (not (is_target a x.0 x.1)) (InvalidReference f.name)

  judged : (object : ℕ) (id : List ℕ) (before : Value)
      → in_case (in_case (cond (option_eq bytes_eq (ref_of before) (Some id)) None (Some id)) None (λ i. Some (object, i))) None rule_on
      ≡ first_refusal (refuse_if (not (same_value before (value.Ref id)) && not (is_target a object id)) (InvalidReference f.name) ∷ [])
  judged object id before = by (option_eq bytes_eq (ref_of before) (Some id)) (same_value before (value.Ref id)) (same_reference before id)
    where
      by : (b c : Bool) → b ≡ c
          → in_case (in_case (cond b None (Some id)) None (λ i. Some (object, i))) None rule_on
          ≡ first_refusal (refuse_if (not c && not (is_target a object id)) (InvalidReference f.name) ∷ [])
      by true true e = refl
      by false false e = alone (refuse_if (not (is_target a object id)) (InvalidReference f.name))
      by true false e = absurd cc
      by false true e = absurd cc

  -- a reference is judged by what is looked for
  pub looked_for_is : in_case (looked_for f.kind position old new) None rule_on ≡ bad_at n f position old new a
  looked_for_is = by (target_of f.kind)
    where
      of_id : (object : ℕ) (id : Option (List ℕ))
          → in_case (in_case (in_case id None (λ i. cond (option_eq bytes_eq (ref_of (value_at old.values position)) (Some i)) None (Some i))) None (λ i. Some (object, i))) None rule_on
          ≡ first_refusal (in_case id None (λ i. refuse_if (not (same_value (value_at old.values position) (value.Ref i)) && not (is_target a object i)) (InvalidReference f.name)) ∷ [])
      of_id object None = refl
      of_id object (Some id) = judged object id (value_at old.values position)

      by : (target : Option ℕ) → in_case (in_case target None (λ object. in_case (changed_id position old new) None (λ i. Some (object, i)))) None rule_on
          ≡ first_of (bad_reference a old new) (in_case target [] (λ object. record { object = n; position = position; field = field_of_place f; target = object } ∷ []))
      by None = refl
      by (Some object) = of_id object (ref_of (value_at new.values position))

module _ (l : Layout) (whose : Whose) (m : Tables) (position : ℕ) (f : FieldPlace) (old new : Record) (looked : Option (ℕ × List ℕ)) (it : looked ≡ looked_for f.kind position old new) where
  judged_so : (x : Option (ℕ × List ℕ)) → looked ≡ x → (a : Asked) → in_case x None (rule_on a l.object position f old new) ≡ bad_at l.object f position old new a
  judged_so x is a = ap (λ (y : Option (ℕ × List ℕ)). in_case y None (rule_on a l.object position f old new)) (sym is ∙ it) ∙ looked_for_is a l.object position f old new

  -- nothing is looked for
  pub nothing_found : looked ≡ None → FindsRule l whose (bad_at l.object f position old new) m (Ok None)
  nothing_found none = λ q a s its who. judged_so None none a

  -- a record was looked for
  pub reference_found : (object : ℕ) (id : List ℕ) → looked ≡ Some (object, id)
      → (there : Result Bool StoreFail) → FindsFor l.org whose (λ t u. readable_there t u object id) m there
      → (r : Result Rule StoreFail) → GivesOr Memory (refused_unless f.name there) r → FindsRule l whose (bad_at l.object f position old new) m r
  reference_found object id is there h r given =
      found_as l whose m (λ a. refuse_if (not (is_target a object id)) (InvalidReference f.name)) (bad_at l.object f position old new) (judged_so (Some (object, id)) is) r
      (refused_found l whose m f.name (λ t u. readable_there t u object id) there h r given)

-- one field more
pub more_fields : (a : Asked) (n position : ℕ) (f : FieldPlace) (fs : List FieldPlace) (old new : Record)
    → first_refusal (bad_at n f position old new a ∷ bad_from n fs (position + 1) old new a ∷ []) ≡ bad_from n (f ∷ fs) position old new a
more_fields a n position f fs old new =
    both_of (bad_reference a old new) (reference_at n (position, field_of_place f)) (flat_map (reference_at n) (enumerate_from (position + 1) (map field_of_place fs)))

pub next_found : (l : Layout) (whose : Whose) (m : Tables) (position : ℕ) (fields : List FieldPlace) (f : FieldPlace) (fs : List FieldPlace) (old new : Record) (r : Result Rule StoreFail) → fields ≡ f ∷ fs
    → FindsRule l whose (λ a. first_refusal (bad_at l.object f position old new a ∷ bad_from l.object fs (position + 1) old new a ∷ [])) m r
    → FindsRule l whose (bad_from l.object fields position old new) m r
next_found l whose m position fields f fs old new r are h =
    subst (λ (gs : List FieldPlace). FindsRule l whose (bad_from l.object gs position old new) m r) (sym are)
    (found_as l whose m (λ a. first_refusal (bad_at l.object f position old new a ∷ bad_from l.object fs (position + 1) old new a ∷ [])) (bad_from l.object (f ∷ fs) position old new)
    (λ a. more_fields a l.object position f fs old new) r h)

-- ---- owners

pub owner_text : chars (codes "OwnerId") ≡ codes "OwnerId"
unfolding chars
owner_text = refl

module _ (l : Layout) (m : Tables) (old new : Record) where
  -- the owner stays
  pub owner_stays : same_owner old new ≡ true → FindsOf l (λ t. bad_owner t old new) m (Ok None)
  owner_stays same =
      λ q t s its. ap (λ (b : Bool). refuse_if (not b && is_none (option_and_then (user_at t.users) new.owner)) (InvalidReference (codes "OwnerId"))) (sym same)

  -- a user was looked for
  pub owner_found : same_owner old new ≡ false
      → (there : Result Bool StoreFail) → FindsIn l.org (λ q t. is_some (option_and_then (user_at (users_in t)) new.owner)) m there
      → (r : Result Rule StoreFail) → GivesOr Memory (refused_unless (chars (codes "OwnerId")) there) r → FindsOf l (λ t. bad_owner t old new) m r
  owner_found other there h r given = by there h r (subst (λ (name : List ℕ). GivesOr Memory (refused_unless name there) r) owner_text given)
    where
      judged_as : (t : Tenant) → refuse_if (not (is_some (option_and_then (user_at t.users) new.owner))) (InvalidReference (codes "OwnerId")) ≡ bad_owner t old new
      judged_as t = ap (λ (b : Bool). refuse_if (not b && is_none (option_and_then (user_at t.users) new.owner)) (InvalidReference (codes "OwnerId"))) (sym other)

      by : (there : Result Bool StoreFail) → FindsIn l.org (λ q t. is_some (option_and_then (user_at (users_in t)) new.owner)) m there
          → (r : Result Rule StoreFail) → GivesOr Memory (refused_unless (codes "OwnerId") there) r → FindsOf l (λ t. bad_owner t old new) m r
      by (Ok there) h (Ok found) is =
          let made : refuse_if (not there) (InvalidReference (codes "OwnerId")) ≡ found = cc in
          λ q t s its. sym made ∙ ap (λ (b : Bool). refuse_if (not b) (InvalidReference (codes "OwnerId"))) (h q (Some t) s) ∙ judged_as t
      by (Err fail) h (Ok found) is = absurd cc
      by there h (Err Damaged) (inl e) = absurd cc
      by there h (Err Damaged) (inr e) =
          λ q t s its. (subst (λ (x : Result Bool StoreFail). FindsIn l.org (λ q t. is_some (option_and_then (user_at (users_in t)) new.owner)) m x) (undamaged there (codes "OwnerId") e) h) q (Some t) s
      by there h (Err Keeper) is = tt
      by there h (Err Memory) is = tt
