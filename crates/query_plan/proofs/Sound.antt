-- What a sound tenant's references name.
use Rattle.std.proofs.Common.{◌≡◌, ℕ, ◌+◌, Bool, true, bytes_eq, not, ◌&&◌, cond, eqb, List, [], ◌∷◌, ◌++◌, length, Option, Some, None, is_some, refl, sym, ap, subst, ◌∙◌, inl, inr, arith}
use Rattle.std.specs.Prelude.{◌==◌, nat_lt}
use Rattle.std.specs.List.{AllByRecursion, enumerate_from, flat_map, list_all}
use Rattle.std.specs.Option.{option_and_then}
use Rattle.std.proofs.lemmas.Bool.{eqb-true}
use Rattle.std.proofs.lemmas.Bool.Decides.{nat_tests}
use Rattle.base_lemmas.proofs.Bools.{and_first as first, and_second as second, by_answer as pick}
use Rattle.base_lemmas.proofs.Lists.{slice_get_not_none as there_below}
use Rattle.base_lemmas.proofs.Numbers.{eqb-self as eqb_same}
use Rattle.std.proofs.lemmas.Option.{same_Some as some_is}
use Rattle.formula.specs.Meaning.{value_at}
use Rattle.model.specs.declared.record.Record.{Record}
use Rattle.model.specs.Cases.{in_case}
use Rattle.model.specs.Fields.{is_master, ref_of}
use Rattle.model.specs.Known.{item_of, known}
use Rattle.model.specs.Membership.{Has}
use Rattle.model.specs.Objects.{is_of, object_number, object_numbered, object_of_record, record_at}
use Rattle.model.specs.Relationships.{Reference, named_record, reference_at, references_of, target_of}
use Rattle.model.specs.Rights.{record_of_object}
use Rattle.model.specs.Sound.{IsSound}
use Rattle.model.specs.SoundMetadata.{IsSoundField}
use Rattle.model.specs.SoundRecords.{IsSoundRecord, is_sound_reference}
use Rattle.model.specs.Tenant.{Field, Object, Tenant}
use Rattle.model.specs.World.{having_id}
use Rattle.store_abstraction.proofs.Found.{found_with_id}
use Rattle.store_abstraction.proofs.MetadataRows.{sound_object}
use Rattle.query_plan.specs.paths.Ways.{parent_step, record_to}
use Rattle.query_plan.proofs.Owned.{numbered_as}

-- ---- lists

all_has : {X : Type 0} (P : X → Type 0) (xs : List X) (x : X) → AllByRecursion P xs → Has xs x → P x
all_has P [] x all m = absurd m
all_has P (y ∷ xs) x all (inl e) = subst P (sym e) all.0
all_has P (y ∷ xs) x all (inr m) = all_has P xs x all.1 m

each_passes : {X : Type 0} (p : X → Bool) (xs : List X) (x : X) → list_all p xs ≡ true → Has xs x → p x ≡ true
each_passes p [] x all m = absurd m
each_passes p (y ∷ xs) x all (inl e) = subst (λ z. p z ≡ true) (sym e) (first (p y) (list_all p xs) all)
each_passes p (y ∷ xs) x all (inr m) = each_passes p xs x (second (p y) (list_all p xs) all) m

pub having_has : {X : Type 0} (id : X → List ℕ) (xs : List X) (i : List ℕ) (x : X) → having_id id xs i ≡ Some x → Has xs x
having_has id [] i x e = absurd cc
having_has id (y ∷ xs) i x e =
    pick (bytes_eq i (id y)) (λ b. cond b (Some y) (having_id id xs i) ≡ Some x → Has (y ∷ xs) x)
    (λ _ some. inl (sym (some_is y x some)))
    (λ _ more. inr (having_has id xs i x more))
    e

-- ---- objects

-- an object's reference is one of its fields
field_of : (n k : ℕ) (fs : List Field) (f : Reference) → Has (flat_map (reference_at n) (enumerate_from k fs)) f → (g : Field) × Has fs g × (target_of g.kind ≡ Some f.target)
field_of n k [] f h = absurd h
field_of n k (g ∷ fs) f h = by (target_of g.kind) refl h (field_of n (k + 1) fs f)
  where
    more : ((x : Field) × Has fs x × (target_of x.kind ≡ Some f.target)) → (x : Field) × Has (g ∷ fs) x × (target_of x.kind ≡ Some f.target)
    more it = (it.0, inr it.1, it.2)

    by : (target : Option ℕ) → target_of g.kind ≡ target
        → Has (in_case target [] (λ target. record { object = n; position = k; field = g; target = target } ∷ []) ++ flat_map (reference_at n) (enumerate_from (k + 1) fs)) f
        → (Has (flat_map (reference_at n) (enumerate_from (k + 1) fs)) f → (x : Field) × Has fs x × (target_of x.kind ≡ Some f.target))
        → (x : Field) × Has (g ∷ fs) x × (target_of x.kind ≡ Some f.target)
    by None is h rest = more (rest h)
    by (Some target) is (inl e) rest = (g, inl refl, is ∙ ap (λ (r : Reference). Some r.target) (sym e))
    by (Some target) is (inr h) rest = more (rest h)

-- the object that it refers to is there
pub target_there : (t : Tenant) → IsSound t → (n : ℕ) (o : Object) (f : Reference) → object_numbered t n ≡ Some o → Has (references_of (numbered_as n o)) f → object_numbered t f.target ≡ None → ⊥
target_there t sound n o f at has none =
    let it = field_of n 1 o.fields f has in
    let field = all_has (IsSoundField (length t.objects)) o.fields it.0 (sound_object t n o sound at).fields it.1 in
    let below : nat_lt f.target (length t.objects) ≡ true = subst (λ (o : Option ℕ). in_case o true (λ n. nat_lt n (length t.objects)) ≡ true) it.2 field.target in
    there_below t.objects f.target (grind (arith, nat_tests)) none

-- ---- records

-- a record of a tenant is of one of its objects
pub object_there : (t : Tenant) → IsSound t → (r : Record) → Has t.records r → (o : Object) × (object_of_record t r ≡ Some o)
object_there t sound r has =
    let it = all_has (IsSoundRecord (known t) t.objects) t.records r sound.records.each has in
    (it.object, it.there)

-- what a record's reference names is one of the target's records
pub record Names (t : Tenant) (r : Record) (f : Reference) : Type 0 where
  pub same : named_record t f r ≡ record_to t (parent_step f) r
  pub there : (x : Record) → named_record t f r ≡ Some x → Has t.records x × (object_number x.id ≡ f.target)

pub reference_names : (t : Tenant) → IsSound t → (r : Record) (o : Object) (f : Reference) → Has t.records r → object_of_record t r ≡ Some o → Has (references_of (numbered_as (object_number r.id) o)) f → Names t r f
reference_names t sound r o f has at member = by_id (ref_of (value_at r.values f.position)) refl passes
  where
    it : IsSoundRecord (known t) t.objects r
    it = all_has (IsSoundRecord (known t) t.objects) t.records r sound.records.each has

    its_own : it.object ≡ o
    its_own = some_is it.object o (sym it.there ∙ at)

    passes : is_sound_reference (known t) r.values f ≡ true
    passes =
        each_passes (is_sound_reference (known t) r.values) (references_of (numbered_as (object_number r.id) o)) f
        (subst (λ (x : Object). list_all (is_sound_reference (known t) r.values) (references_of (numbered_as (object_number r.id) x)) ≡ true) its_own it.references) member

    by_record : (id : List ℕ) (found : Option Record) → record_at t id ≡ found → ref_of (value_at r.values f.position) ≡ Some id → (is_some found && (object_number id == f.target)) ≡ true → Names t r f
    by_record id None found named h = absurd cc
    by_record id (Some x) found named h =
        let own = found_with_id (λ (r : Record). r.id) (IsSoundRecord (known t) t.objects) t.records id x sound.records.each found in
        let number : object_number x.id ≡ f.target = ap object_number own.0 ∙ eqb-true _ _ h in
        let there : named_record t f r ≡ Some x = ap (option_and_then (record_at t)) named ∙ found in
        record {
          same = there
              ∙ sym (ap (λ (i : Option (List ℕ)). option_and_then (record_of_object t f.target) i) named
              ∙ ap (λ (o : Option Record). option_and_then (λ (y : Record). cond (is_of f.target y) (Some y) None) o) found
              ∙ ap (λ (b : Bool). cond b (Some x) None) (ap (λ (n : ℕ). eqb n f.target) number ∙ eqb_same f.target));
          there = λ y e.
              let one : x ≡ y = some_is x y (sym there ∙ e) in
              subst (λ (z : Record). Has t.records z × (object_number z.id ≡ f.target)) one (having_has (λ (r : Record). r.id) t.records id x found, number);
        }

    by_id : (i : Option (List ℕ)) → ref_of (value_at r.values f.position) ≡ i → in_case i (not (is_master f.field.kind)) (item_of (known t) f.target) ≡ true → Names t r f
    by_id None named h =
        let none : named_record t f r ≡ None = ap (option_and_then (record_at t)) named in
        record {
          same = none ∙ sym (ap (option_and_then (record_of_object t f.target)) named);
          there = λ y e. absurd (clash y (sym none ∙ e));
        }
      where
        clash : (y : Record) → ◌≡◌ {A = Option Record} None (Some y) → ⊥
        clash y e = cc
    by_id (Some id) named h = by_record id (record_at t id) refl named h
