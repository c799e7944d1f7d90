-- An administrator has all rights on each record: on those of objects without a master, and so on the details below them.
use Rattle.std.proofs.Common.{◌≡◌, ℕ, zero, suc, ◌≤◌, true, not, ◌&&◌, ◌||◌, ◌==◌, cond, List, ◌∷◌, map, Option, Some, None, is_some, refl, sym, ap, subst, ◌∙◌, arith}
use Rattle.std.specs.Option.{option_and_then}
use Rattle.std.proofs.lemmas.Bool.{eqb-true, true≢false as clash}
use Rattle.std.proofs.lemmas.Slice.Eq.{bytes_eq-Decides}
use Rattle.base_lemmas.proofs.Bools.{and_first as left, and_second as right}
use Rattle.base_value.specs.declared.sharing.Level.{Level}
use Rattle.base_value.specs.declared.sharing.Level.TheVariants.{Nothing, Read, Edit, Full}
use Rattle.model.specs.declared.record.Record.{Record}
use Rattle.model.specs.Cases.{in_case}
use Rattle.model.specs.Fields.{is_master}
use Rattle.model.specs.Known.{item_of, known}
use Rattle.model.specs.Levels.{at_least, by_access, by_grant, can_read, full_for_edit, grants, greatest, has_hierarchy, level, level_within, own_level, owns, readable}
use Rattle.model.specs.Membership.{Has}
use Rattle.model.specs.Metadata.{masters_above}
use Rattle.model.specs.Objects.{is_of, numbered, object_number, object_of_record, record_at, records_of}
use Rattle.model.specs.Relationships.{Reference, master_of_object, named_id, named_record, references, references_of}
use Rattle.model.specs.Sound.{IsSound}
use Rattle.model.specs.SoundMetadata.{IsSoundObject}
use Rattle.model.specs.SoundRecords.{IsSoundRecord, is_sound_reference}
use Rattle.model.specs.Tenant.{Tenant, User}
use Rattle.model.proofs.Elements.{all_at, all_stay, each_holds, found_in, kept_from}
use Rattle.model.proofs.Places.{at_number, own_reference, with_its_id}

-- nothing is more than all
most : (ls : List Level) → greatest (Full ∷ ls) ≡ Full
most ls = by (greatest ls)
  where
    by : (l : Level) → cond (at_least Full l) l Full ≡ Full
    by Nothing = refl
    by Read = refl
    by Edit = refl
    by Full = refl

not_below : (m : ℕ) → suc m ≤ 0 → ⊥
not_below m h = omega (arith, h)

one_less : (m n : ℕ) → suc m ≤ suc n → m ≤ n
one_less m n h = omega (arith, h)

module _ (t : Tenant) (u : User) (s : IsSound t) where
  sound_at : (r : Record) → Has t.records r → IsSoundRecord (known t) t.objects r
  sound_at r m = all_at (IsSoundRecord (known t) t.objects) t.records s.records.each r m

  -- the master of a detail's record
  record Master (r : Record) (f : Reference) : Type 0 where
    it : Record
    named : named_record t f r ≡ Some it
    there : Has t.records it
    number : object_number it.id ≡ f.target

  master_of : (r : Record) (f : Reference) → Has t.records r → master_of_object t.objects (object_number r.id) ≡ Some f → Master r f
  master_of r f m e = by_id (named_id f r) refl sound_reference
    where
      w : IsSoundRecord (known t) t.objects r
      w = sound_at r m

      found : Has (references t.objects) f × (((f.object == object_number r.id) && is_master f.field.kind) ≡ true)
      found = found_in (λ (g : Reference). (g.object == object_number r.id) && is_master g.field.kind) (references t.objects) f e

      number : f.object ≡ object_number r.id
      number = eqb-true _ _ (left (f.object == object_number r.id) (is_master f.field.kind) found.1)

      master : is_master f.field.kind ≡ true
      master = right (f.object == object_number r.id) (is_master f.field.kind) found.1

      sound_reference : is_sound_reference (known t) r.values f ≡ true
      sound_reference =
          each_holds (is_sound_reference (known t) r.values) (references_of (record { number = object_number r.id; object = w.object })) w.references f
          (own_reference t.objects (object_number r.id) w.object f w.there number found.0)

      by_record : (id : List ℕ) (o : Option Record) → record_at t id ≡ o → named_id f r ≡ Some id → (is_some o && (object_number id == f.target)) ≡ true → Master r f
      by_record id None at named h = absurd cc
      by_record id (Some x) at named h =
          let its = with_its_id (λ (r : Record). r.id) t.records id x at in
          record {
            it = x;
            named = ap (λ i. option_and_then (record_at t) i) named ∙ at;
            there = its.0;
            number = ap object_number (sym ((bytes_eq-Decides id x.id).0 its.1)) ∙ eqb-true _ _ h;
          }

      by_id : (i : Option (List ℕ)) → named_id f r ≡ i → in_case i (not (is_master f.field.kind)) (item_of (known t) f.target) ≡ true → Master r f
      by_id None named h = absurd (clash (sym h ∙ ap not master))
      by_id (Some id) named h = by_record id (record_at t id) refl named h

  module _ (admin : u.admin ≡ true) where
    own_full : (r : Record) → own_level t u r ≡ Full
    unfolding own_level
    own_full r =
        let others = in_case (object_of_record t r) Nothing (λ o. by_access o.access) ∷ map (by_grant (has_hierarchy t r) t u) (grants t r) in
        ap (λ b. greatest (cond (b || owns t u r) Full Nothing ∷ others)) admin ∙ most others

    step : (k : ℕ) (r : Record) → Has t.records r
        → ((f : Reference) → suc (masters_above k t.objects f.target) ≤ k → (x : Record) → Has t.records x → object_number x.id ≡ f.target → level_within k t u x ≡ Full)
        → (o : Option Reference) → master_of_object t.objects (object_number r.id) ≡ o → in_case o 0 (λ f. suc (masters_above k t.objects f.target)) ≤ k
        → in_case o (own_level t u r) (λ f. in_case (named_record t f r) Nothing (λ m. full_for_edit (level_within k t u m))) ≡ Full
    step k r m deeper None e few = own_full r
    step k r m deeper (Some f) e few =
        let x = master_of r f m e in
        ap (λ o. in_case o Nothing (λ m. full_for_edit (level_within k t u m))) x.named ∙ ap full_for_edit (deeper f few x.it x.there x.number)

    full_within : (k : ℕ) (r : Record) → Has t.records r → masters_above (suc k) t.objects (object_number r.id) ≤ k → level_within (suc k) t u r ≡ Full
    full_within zero r m few = step zero r m (λ f h x n same. absurd (not_below (masters_above 0 t.objects f.target) h)) (master_of_object t.objects (object_number r.id)) refl few
    full_within (suc j) r m few =
        step (suc j) r m
        (λ f h x n same. full_within j x n (subst (λ (i : ℕ). masters_above (suc j) t.objects i ≤ j) (sym same) (one_less (masters_above (suc j) t.objects f.target) j h)))
        (master_of_object t.objects (object_number r.id)) refl few

    deep : (r : Record) → Has t.records r → masters_above 4 t.objects (object_number r.id) ≤ 3
    deep r m =
        let w = sound_at r m in
        (all_at (IsSoundObject t.objects) (numbered t.objects) s.metadata.objects (record { number = object_number r.id; object = w.object })
        (at_number (object_number r.id) t.objects w.object w.there)).level

    pub all_full : (r : Record) → Has t.records r → level t u r ≡ Full
    unfolding level
    all_full r m = full_within 3 r m (deep r m)

    pub reads_all : (n : ℕ) → readable t u n ≡ records_of t n
    unfolding readable
    reads_all n =
        all_stay (can_read t u) (records_of t n) (λ r m.
        ap (at_least Read) (all_full r (kept_from (is_of n) t.records r m).0))
