-- Edits of one organisation by their verdicts: done, refused or failed.
use Rattle.std.proofs.Common.{◌≡◌, ◌∙◌, ℕ, suc, ◌+◌, Bool, true, false, ◌&&◌, cond, eqb, List, [], ◌∷◌, map, Some, None, refl, sym, ap, arith}
use Rattle.std.specs.Prelude.{Result, Ok, Err, bytes_eq, slice_get}
use Rattle.std.specs.List.{enumerate_from, find}
use Rattle.std.proofs.lemmas.Bool.{or_parts as or_false}
use Rattle.std.proofs.lemmas.Option.{same_Some as some_is}
use Rattle.base_lemmas.proofs.Bools.{and_second_false as both_false}
use Rattle.base_lemmas.proofs.Options.{eqb-same_Some as own_number}
use Rattle.store_rows.specs.Keys as key
use Rattle.store_rows.specs.Keys.{Key, key_eq}
use Rattle.model.specs.declared.refusal.Refusal.{Refusal}
use Rattle.model.specs.Fields.{same_name}
use Rattle.model.specs.Objects.{Numbered, object_named, object_numbered}
use Rattle.model.specs.Rules.{Rule}
use Rattle.model.specs.Tenant.{Object, Tenant}
use Rattle.model.specs.Verdict.{Done, Verdict, accept, done, unless}
use Rattle.store_abstraction.specs.Changes.{Change, is_changed}
use Rattle.store_abstraction.specs.Records.{is_field_key, is_object_key, is_org_key, is_rule_key}
use Rattle.store_abstraction.specs.Stands.{org_of_key}
use Rattle.schema_edit.specs.Judging.{rule_of_answer, verdict_refusal}

-- ---- verdicts

-- a verdict whose rules don't refuse
pub unless_none : (rule : Rule) (t : Tenant) (v : Verdict) → None ≡ rule → unless rule t v ≡ v
unless_none rule t v e = ap (λ (r : Rule). unless r t v) (sym e)

pub unrefused : (rule : Rule) (t u : Tenant) → None ≡ verdict_refusal (unless rule t (accept done u)) → unless rule t (accept done u) ≡ accept done u
unrefused None t u e = refl
unrefused (Some r) t u e = absurd cc

-- ---- refused

pub refused_so : (v : Verdict) (r : Refusal) → Some r ≡ verdict_refusal v → v.answer ≡ Err r
refused_so v r e = by v.answer e
  where
    by : (x : Result Done Refusal) → Some r ≡ rule_of_answer x → x ≡ Err r
    by (Ok d) e = absurd cc
    by (Err q) e = ap Err (some_is q r (sym e))

-- ---- keys of the organisation beside those of the changes

-- a key that isn't changed is none of the first change, and isn't changed by the others
pub beside : (c : Change) (changes : List Change) (k : Key) → is_changed (c ∷ changes) k ≡ false → (key_eq k c.0 ≡ false) × (is_changed changes k ≡ false)
beside c changes k e = or_false (key_eq k c.0) (is_changed changes k) e

pub other_org : (org : ℕ) (k : Key) → org_of_key k ≡ Some org → key_eq k (key.Org org) ≡ false → is_org_key k ≡ false
other_org org (key.Org m) of e = absurd (true_false (sym (own_number m org of) ∙ e))
  where
    true_false : true ≡ false → ⊥
    true_false e = cc
other_org org key.Version of e = refl
other_org org (key.Object m i) of e = refl
other_org org (key.Field m i f) of e = refl
other_org org (key.Job m) of e = refl
other_org org (key.User m i) of e = refl
other_org org (key.Role m i) of e = refl
other_org org (key.Group m i) of e = refl
other_org org (key.Validation m i name) of e = refl
other_org org (key.Sharing m name) of e = refl
other_org org (key.Data m i id) of e = refl
other_org org (key.Index m i s v id) of e = refl
other_org org (key.Unique m i s v) of e = refl
other_org org (key.Relation m i s v id) of e = refl
other_org org (key.Owner m i o id) of e = refl
other_org org (key.Share m id to) of e = refl
other_org org (key.Grant m to i id cause) of e = refl

pub other_object : (org n : ℕ) (k : Key) → org_of_key k ≡ Some org → key_eq k (key.Object org n) ≡ false → is_object_key n k ≡ false
other_object org n (key.Object m i) of e = both_false (eqb m org) (eqb i n) (own_number m org of) e
other_object org n key.Version of e = refl
other_object org n (key.Org m) of e = refl
other_object org n (key.Field m i f) of e = refl
other_object org n (key.Job m) of e = refl
other_object org n (key.User m i) of e = refl
other_object org n (key.Role m i) of e = refl
other_object org n (key.Group m i) of e = refl
other_object org n (key.Validation m i name) of e = refl
other_object org n (key.Sharing m name) of e = refl
other_object org n (key.Data m i id) of e = refl
other_object org n (key.Index m i s v id) of e = refl
other_object org n (key.Unique m i s v) of e = refl
other_object org n (key.Relation m i s v id) of e = refl
other_object org n (key.Owner m i o id) of e = refl
other_object org n (key.Share m id to) of e = refl
other_object org n (key.Grant m to i id cause) of e = refl

pub other_field : (org n f : ℕ) (k : Key) → org_of_key k ≡ Some org → key_eq k (key.Field org n f) ≡ false → is_field_key n f k ≡ false
other_field org n f (key.Field m i g) of e = both_false (eqb m org) (eqb i n && eqb g f) (own_number m org of) e
other_field org n f key.Version of e = refl
other_field org n f (key.Org m) of e = refl
other_field org n f (key.Object m i) of e = refl
other_field org n f (key.Job m) of e = refl
other_field org n f (key.User m i) of e = refl
other_field org n f (key.Role m i) of e = refl
other_field org n f (key.Group m i) of e = refl
other_field org n f (key.Validation m i name) of e = refl
other_field org n f (key.Sharing m name) of e = refl
other_field org n f (key.Data m i id) of e = refl
other_field org n f (key.Index m i s v id) of e = refl
other_field org n f (key.Unique m i s v) of e = refl
other_field org n f (key.Relation m i s v id) of e = refl
other_field org n f (key.Owner m i o id) of e = refl
other_field org n f (key.Share m id to) of e = refl
other_field org n f (key.Grant m to i id cause) of e = refl

pub other_rule : (org n : ℕ) (name : List ℕ) (k : Key) → org_of_key k ≡ Some org → key_eq k (key.Validation org n name) ≡ false → is_rule_key n name k ≡ false
other_rule org n name (key.Validation m i other) of e = both_false (eqb m org) (eqb i n && bytes_eq other name) (own_number m org of) e
other_rule org n name key.Version of e = refl
other_rule org n name (key.Org m) of e = refl
other_rule org n name (key.Object m i) of e = refl
other_rule org n name (key.Field m i g) of e = refl
other_rule org n name (key.Job m) of e = refl
other_rule org n name (key.User m i) of e = refl
other_rule org n name (key.Role m i) of e = refl
other_rule org n name (key.Group m i) of e = refl
other_rule org n name (key.Sharing m other) of e = refl
other_rule org n name (key.Data m i id) of e = refl
other_rule org n name (key.Index m i s v id) of e = refl
other_rule org n name (key.Unique m i s v) of e = refl
other_rule org n name (key.Relation m i s v id) of e = refl
other_rule org n name (key.Owner m i o id) of e = refl
other_rule org n name (key.Share m id to) of e = refl
other_rule org n name (key.Grant m to i id cause) of e = refl

-- ---- an object with a name has its number

abbrev pair : ℕ × Object → Numbered
pair o = record { number = o.0; object = o.1 }

found_at : (q : Numbered → Bool) (k : ℕ) (os : List Object) (o : Numbered) → find q (map pair (enumerate_from k os)) ≡ Some o
    → (i : ℕ) × (o.number ≡ k + i) × (slice_get os i ≡ Some o.object)
found_at q k [] o e = absurd cc
found_at q k (x ∷ os) o e = by (found_at q (k + 1) os o) (q (pair (k, x))) refl
  where
    by : (find q (map pair (enumerate_from (k + 1) os)) ≡ Some o → (i : ℕ) × (o.number ≡ (k + 1) + i) × (slice_get os i ≡ Some o.object))
        → (b : Bool) → q (pair (k, x)) ≡ b → (i : ℕ) × (o.number ≡ k + i) × (slice_get (x ∷ os) i ≡ Some o.object)
    by more true h =
        let is : pair (k, x) ≡ o = some_is (pair (k, x)) o (sym (ap (λ (b : Bool). cond b (Some (pair (k, x))) (find q (map pair (enumerate_from (k + 1) os)))) h) ∙ e) in
        let number : k ≡ o.number = ap (λ (n : Numbered). n.number) is in
        (0, omega (arith, number), ap (λ (n : Numbered). Some n.object) is)
    by more false h =
        let (i, number, there) = more (sym (ap (λ (b : Bool). cond b (Some (pair (k, x))) (find q (map pair (enumerate_from (k + 1) os)))) h) ∙ e) in
        (suc i, omega (arith, number), there)

pub named_at : (t : Tenant) (name : List ℕ) (o : Numbered) → object_named t name ≡ Some o → object_numbered t o.number ≡ Some o.object
unfolding object_named
named_at t name o e =
    let (i, number, there) = found_at (λ (o : Numbered). same_name o.object.name name) 0 t.objects o e in
    let is : o.number ≡ i = omega (arith, number) in
    ap (slice_get t.objects) is ∙ there
