-- The layout of an object of a sound tenant can be used.
use Rattle.std.proofs.Common.{◌≡◌, ℕ, suc, zero, ◌+◌, ◌≤◌, Bool, true, false, ◌&&◌, IsTrue, List, [], ◌∷◌, length, map, Some, refl, sym, ap, subst, arith, nat_le}
use Rattle.std.specs.Prelude.{slice_get}
use Rattle.std.specs.List.{AllByRecursion, enumerate_from}
use Rattle.std.proofs.lemmas.Bool.Decides.{nat_tests}
use Rattle.base_lemmas.proofs.Bools.{and_first as and_left, and_second as and_right}
use Rattle.std.proofs.lemmas.Option.{same_Some as some_is}
use Rattle.record_read.specs.Decoding.{has_types}
use Rattle.model.specs.Objects.{Numbered, object_numbered}
use Rattle.model.specs.Sound.{IsSound}
use Rattle.model.specs.SoundMetadata.{IsSoundObject}
use Rattle.model.specs.Tenant.{Field, Object, Tenant}
use Rattle.record_target.proofs.Objects.{IsOn, Named}
use Rattle.record_target.specs.Usable.{IsReady, IsUsable}
use Rattle.record_index.specs.Turned.{converts}
use Rattle.store_abstraction.specs.declared.layout.Layout.{Layout}
use Rattle.store_abstraction.specs.Layouts.{layout_of, place_of}
use Rattle.store_abstraction.specs.Plan.{OrgPlan}

-- ---- an object of a sound tenant

abbrev pair : ℕ × Object → Numbered
pair o = record { number = o.0; object = o.1 }

numbered_all : (P : Numbered → Type 0) (k : ℕ) (os : List Object) (i : ℕ) (o : Object) → AllByRecursion P (map pair (enumerate_from k os)) → slice_get os i ≡ Some o → P (record { number = k + i; object = o })
numbered_all P k [] i o h e = absurd cc
numbered_all P k (x ∷ os) zero o h e =
    subst (λ (n : ℕ). P (record { number = n; object = o })) (omega arith) (subst (λ (y : Object). P (record { number = k; object = y })) (some_is x o e) h.0)
numbered_all P k (x ∷ os) (suc i) o h e =
    subst (λ (n : ℕ). P (record { number = n; object = o })) (omega arith) (numbered_all P (k + 1) os i o h.1 e)

sound_object : (t : Tenant) (n : ℕ) (o : Object) → IsSound t → object_numbered t n ≡ Some o → IsSoundObject t.objects (record { number = n; object = o })
sound_object t n o s e =
    subst (λ (k : ℕ). IsSoundObject t.objects (record { number = k; object = o })) (omega arith) (numbered_all (IsSoundObject t.objects) 0 t.objects n o s.metadata.objects e)

as_many : (p : OrgPlan) (n k : ℕ) (fs : List Field) → length (map (place_of p n) (enumerate_from k fs)) ≡ length fs
as_many p n k [] = refl
as_many p n k (f ∷ fs) = ap suc (as_many p n (k + 1) fs)

-- ---- what other crates say of its layout

-- what `record_read` says of an object's types
abbrev pub Typed : Type 0
Typed = (org n : ℕ) (p : OrgPlan) (t : Tenant) (o : Object) → IsSound t → object_numbered t n ≡ Some o → IsTrue (has_types (layout_of org p t (record { number = n; object = o })))

-- what `record_index` says of a sound object's layout
abbrev pub ConvertsThere : Type 0
ConvertsThere = (org n : ℕ) (p : OrgPlan) (t : Tenant) (o : Object) → IsSound t → object_numbered t n ≡ Some o → IsTrue (converts (layout_of org p t (record { number = n; object = o })))

-- ---- its layout

pub usable : Typed → (org : ℕ) (q : OrgPlan) (t : Tenant) (o : Numbered) (l : Layout) → IsSound t → object_numbered t o.number ≡ Some o.object → l ≡ layout_of org q t o → IsUsable l
usable typed org q t o l sound there is =
    subst IsUsable (sym is) (record {
      few = omega (arith, as_many q o.number 0 o.object.fields, (sound_object t o.number o.object sound there).few_fields);
      types = typed org o.number q t o.object sound there;
    })

-- what passes the test is ready
pub ready_so : (org : ℕ) (l : Layout) → l.org ≡ org → ((nat_le (length l.fields) 40 && has_types l) && converts l) ≡ true → IsReady org l
ready_so org l own h =
    let can = and_left (nat_le (length l.fields) 40 && has_types l) (converts l) h in
    record {
      own = own;
      usable = record { few = few (length l.fields) (and_left (nat_le (length l.fields) 40) (has_types l) can); types = and_right (nat_le (length l.fields) 40) (has_types l) can };
      converting = and_right (nat_le (length l.fields) 40 && has_types l) (converts l) h;
    }
  where
    few : (n : ℕ) → nat_le n 40 ≡ true → n ≤ 40
    few n h = grind (arith, nat_tests)

pub ready_there : Typed → ConvertsThere → Named → (org : ℕ) (q : OrgPlan) (t : Tenant) (name : List ℕ) (l : Layout) → IsSound t → IsOn org q t name l
    → ((nat_le (length l.fields) 40 && has_types l) && converts l) ≡ false → ⊥
ready_there typed converting named org q t name l sound on h =
    let there = named t name on.0 on.1 in
    let can : IsUsable l = usable typed org q t on.0 l sound there on.2 in
    let conv : converts l ≡ true = subst (λ (k : Layout). converts k ≡ true) (sym on.2) (converting org on.0.number q t on.0.object sound there) in
    all_true (nat_le (length l.fields) 40) (has_types l) (converts l) (few (length l.fields) can.few) can.types conv h
  where
    few : (n : ℕ) → n ≤ 40 → nat_le n 40 ≡ true
    few n h = grind (arith, nat_tests)

    all_true : (a b d : Bool) → a ≡ true → b ≡ true → d ≡ true → ((a && b) && d) ≡ false → ⊥
    all_true true true true x y z h = absurd cc
    all_true true true false x y z h = absurd cc
    all_true true false d x y z h = absurd cc
    all_true false b d x y z h = absurd cc
