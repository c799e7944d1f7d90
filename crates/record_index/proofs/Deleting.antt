-- A delete takes no unique value from another record, since it only clears values.
use Rattle.std.proofs.Common.{◌≡◌, ◌⊎◌, inl, inr, ℕ, zero, suc, ◌+◌, Bool, true, false, not, ◌&&◌, cond, eqb, List, [], ◌∷◌, map, filter, Option, Some, None, refl, sym, ap, subst, ◌∙◌, bytes_eq, ℤ}
use Rattle.std.specs.List.{enumerate_from, list_any}
use Rattle.std.proofs.lemmas.Bool.{true≢false as clash}
use Rattle.base_lemmas.proofs.Bools.{by_answer as pick}
use Rattle.formula.specs.Meaning.{value_at}
use Rattle.model.specs.declared.record.Record.{Record}
use Rattle.model.specs.Cases.{in_case}
use Rattle.model.specs.Deletes.{cleared, cleared_lookups, has_id, loses_lookup, without}
use Rattle.model.specs.Fields.{is_null}
use Rattle.model.specs.Membership.{Has}
use Rattle.model.specs.Objects.{is_of, object_number, object_numbered}
use Rattle.model.specs.Sound.{IsSound}
use Rattle.model.specs.Tenant.{Field, Object, Tenant}
use Rattle.record_index.specs.Changed.{kept_entry}
use Rattle.store_abstraction.specs.Entries.{field_entry, is_unique, other_entry, slot_entry, slot_field}
use Rattle.store_abstraction.specs.Plan.{FitsPlan, OrgPlan}
use Rattle.store_abstraction.specs.Stands.{kept_at}
use Rattle.record_index.proofs.Keeping.{FitValues, SameKeys, kept, other_not_unique}
use Rattle.record_index.proofs.Records.{entry_of_kept, kept_has, kept_is, no_kept}
use Rattle.record_index.specs.diff.Touched.{HasSoundRows, NoneTakes, touched_by}
use Rattle.base_value.specs.OrderKeys.{order_key}
use Rattle.base_value.specs.declared.value.Value.{Value}
use Rattle.base_value.specs.declared.value.Value.TheVariants as value

-- a value at a place is null, or it is the one that was there
null_or_same : (ps : List ℕ) (k : ℕ) (vs : List Value) (i : ℕ)
    → (is_null (value_at (map (λ v. cond (list_any (λ p. eqb p v.0) ps) value.Null v.1) (enumerate_from k vs)) i) ≡ true)
    ⊎ (value_at (map (λ v. cond (list_any (λ p. eqb p v.0) ps) value.Null v.1) (enumerate_from k vs)) i ≡ value_at vs i)
null_or_same ps k [] i = inr refl
null_or_same ps k (v ∷ vs) zero =
    pick (list_any (λ p. eqb p k) ps) (λ b. (is_null (cond b value.Null v) ≡ true) ⊎ (cond b value.Null v ≡ v)) (λ _. inl refl) (λ _. inr refl)
null_or_same ps k (v ∷ vs) (suc i) = null_or_same ps (k + 1) vs i

-- what a list is made of
from_map : {X Y : Type 0} (f : X → Y) (xs : List X) (y : Y) → Has (map f xs) y → (x : X) × Has xs x × (y ≡ f x)
from_map f [] y h = absurd h
from_map f (x ∷ xs) y (inl e) = (x, inl refl, e)
from_map f (x ∷ xs) y (inr h) = let more = from_map f xs y h in (more.0, inr more.1, more.2)

module _ (now : ℤ) (t : Tenant) (gone : List Record) where
  same_id : (r : Record) → (cleared now t gone r).id ≡ r.id
  same_id r = pick (loses_lookup t gone r) (λ b. (cleared now t gone r).id ≡ r.id) (λ e. rw e refl) (λ e. rw e refl)

  -- a value of a cleared record is null, or it is the one that the record had
  cleared_value : (r : Record) (i : ℕ) → (is_null (value_at (cleared now t gone r).values i) ≡ true) ⊎ (value_at (cleared now t gone r).values i ≡ value_at r.values i)
  cleared_value r i =
      pick (loses_lookup t gone r)
      (λ b. (is_null (value_at (cleared now t gone r).values i) ≡ true) ⊎ (value_at (cleared now t gone r).values i ≡ value_at r.values i))
      (λ e. rw e (null_or_same (map (λ f. f.position) (cleared_lookups t gone r)) 0 r.values i))
      (λ e. rw e (inr refl))

  -- so it has no key that the record didn't have
  had_key : (r : Record) (f : ℕ × Field) (key : List ℕ) → is_unique key (Some (field_entry (cleared now t gone r) f)) ≡ true → is_unique key (Some (field_entry r f)) ≡ true
  had_key r f key h = elim (cleared_value r (suc f.0)) [
    | inl null ↦ absurd (clash (sym h ∙ ap (λ b. f.1.unique && (not b && bytes_eq (order_key (value_at (cleared now t gone r).values (suc f.0))) key)) null ∙ nothing f.1.unique))
    | inr same ↦ sym (ap (λ (v : Value). f.1.unique && (not (is_null v) && bytes_eq (order_key v) key)) same) ∙ h
  ]
    where
      nothing : (b : Bool) → (b && false) ≡ false
      nothing true = refl
      nothing false = refl

module _ (fit_values : FitValues) (same_keys : SameKeys) (p : OrgPlan) (now : ℤ) (t : Tenant) (gone : List Record) (sound : IsSound t) (fits : FitsPlan p t) where
  abbrev u : Tenant
  u = without now gone t

  is : HasSoundRows p t
  is = kept fit_values same_keys p t sound fits

  module _ (n : ℕ) (o : Object) (here : object_numbered t n ≡ Some o) (s : ℕ) (key : List ℕ) where
    had_entry : (r : Record) → is_unique key (slot_entry p t.job n o (cleared now t gone r) s) ≡ true → is_unique key (slot_entry p t.job n o r s) ≡ true
    unfolding slot_entry
    had_entry r h = by (slot_field p n o.fields s) h
      where
        by : (x : Option (ℕ × Field)) → is_unique key (in_case x (other_entry p t.job n o (cleared now t gone r) s) (λ f. Some (field_entry (cleared now t gone r) f))) ≡ true
            → is_unique key (in_case x (other_entry p t.job n o r s) (λ f. Some (field_entry r f))) ≡ true
        by None h = absurd (clash (sym h ∙ other_not_unique fit_values same_keys p t sound n o here s key (cleared now t gone r) t.job refl))
        by (Some f) h = had_key now t gone r f key h

    -- who has a key afterwards had it before
    had : (j : List ℕ) → is_unique key (kept_entry (kept_at p u n j) s) ≡ true → is_unique key (kept_entry (kept_at p t n j) s) ≡ true
    had j h =
        let y = entry_of_kept p u n o j s key here h in
        let x = from_map (cleared now t gone) (filter (λ r. not (has_id gone r.id)) t.records) y.0 y.1 in
        let has = (kept_has (λ r. not (has_id gone r.id)) t.records x.0 x.1).0 in
        let id : y.0.id ≡ x.0.id = ap (λ (r : Record). r.id) x.2 ∙ same_id now t gone x.0 in
        let of : is_of n x.0 ≡ true = ap (λ (i : List ℕ). eqb (object_number i) n) (sym id) ∙ y.3 in
        let key_x = had_entry x.0 (subst (λ (r : Record). is_unique key (slot_entry p t.job n o r s) ≡ true) x.2 y.4) in
        subst (λ (i : List ℕ). is_unique key (kept_entry (kept_at p t n i) s) ≡ true) (sym id ∙ y.2)
        (ap (λ k. is_unique key (kept_entry k s)) (kept_is p t n o x.0 here (is.each x.0 has) of) ∙ key_x)

    one : (i j : List ℕ) → is_unique key (kept_entry (kept_at p t n i) s) ≡ true → is_unique key (kept_entry (kept_at p t n j) s) ≡ true → i ≡ j
    one i j h g =
        let y = entry_of_kept p t n o i s key here h in
        let z = entry_of_kept p t n o j s key here g in
        sym y.2 ∙ is.one n o s key y.0 z.0 here y.1 z.1 y.3 z.3 y.4 z.4 ∙ z.2

  pub deleted : NoneTakes p p t u (touched_by t gone)
  deleted n s key i j touched had_it lost = by (object_numbered t n) refl (is_unique key (kept_entry (kept_at p u n j) s)) refl
    where
      by : (x : Option Object) → object_numbered t n ≡ x → (b : Bool) → is_unique key (kept_entry (kept_at p u n j) s) ≡ b → is_unique key (kept_entry (kept_at p u n j) s) ≡ false
      by x here false e = e
      by None none true e = absurd (no_kept p u n s j key none e)
      by (Some o) here true e =
          absurd (clash (sym e ∙ subst (λ (k : List ℕ). is_unique key (kept_entry (kept_at p u n k) s) ≡ false) (one n o here s key i j had_it (had n o here s key j e)) lost))
