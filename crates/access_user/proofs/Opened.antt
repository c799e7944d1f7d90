-- Records that may be read whatever grants there are: those of an object that all may read, and those that the user owns.
use Rattle.std.proofs.Common.{◌≡◌, ℕ, ◌+◌, Bool, true, false, bytes_eq, not, ◌&&◌, ◌||◌, cond, List, [], ◌∷◌, ◌++◌, length, filter, Option, Some, None, refl, sym, ap, subst, ◌∙◌, arith}
use Rattle.std.specs.Prelude.{IfSome, slice_get}
use Rattle.std.specs.List.{enumerate_from, find, flat_map, list_any}
use Rattle.std.specs.Option.{option_and_then, option_map}
use Rattle.std.proofs.lemmas.Bool.{or_parts as or_false}
use Rattle.base_lemmas.proofs.Numbers.{eqb-self as eqb_same}
use Rattle.std.proofs.lemmas.Option.{same_Some as some_is}
use Rattle.record_read.specs.Decoding.{all_from, has_types, record_from}
use Rattle.store_kv.specs.declared.keeper.KeptRow.{KeptRow}
use Rattle.store_rows.specs.declared.data.DataRow.{DataRow}
use Rattle.store_rows.specs.Forms.{read_row}
use Rattle.store_rows.specs.Rows.{data_form}
use Rattle.access_closure.specs.declared.membership.Membership.{Membership}
use Rattle.access_closure.specs.declared.people.People.{People}
use Rattle.access_user.specs.Sights.{OwnAt, topmost}
use Rattle.access_user.specs.declared.level.knowing.OwnLevels.{OwnLevels}
use Rattle.access_user.specs.level.Own.{MembersFor, is_open}
use Rattle.model.specs.declared.record.Record.{Record}
use Rattle.model.specs.Cases.{in_case}
use Rattle.model.specs.Fields.{by_parent, is_detail, is_master}
use Rattle.model.specs.Known.{known}
use Rattle.model.specs.Levels.{at_least, can_read, has_hierarchy, level, own_level, owns}
use Rattle.model.specs.Membership.{Has, is_above}
use Rattle.model.specs.Objects.{object_number, object_numbered, object_of_record, records_of}
use Rattle.model.specs.Relationships.{Reference, master_of_object, reference_at, target_of}
use Rattle.model.specs.Sound.{IsSound}
use Rattle.model.specs.SoundMetadata.{masters}
use Rattle.model.specs.SoundRecords.{IsSoundRecord, is_sound_owner}
use Rattle.model.specs.Tenant.{Field, Object, Tenant, User}
use Rattle.model.specs.World.{user_at}
use Rattle.store_codec.specs.Plain.{◌>>=◌}
use Rattle.access_traits.specs.Rights.{kept_record}
use Rattle.store_abstraction.specs.declared.layout.Layout.{Layout}
use Rattle.store_abstraction.specs.Layouts.{IsLayout}
use Rattle.store_abstraction.specs.Plan.{OrgPlan}
use Rattle.store_abstraction.proofs.MetadataRows.{sound_object}
use Rattle.base_value.specs.declared.sharing.Access.{Access}
use Rattle.base_value.specs.declared.sharing.Access.TheVariants.{Private, Read as ReadAll, ReadWrite, ControlledByParent}
use Rattle.base_value.specs.declared.sharing.Level.TheVariants.{Full, Read}
use Rattle.base_value.specs.declared.value.Value.{Value}
use Rattle.access_user.proofs.Climbed.{no_up}
use Rattle.access_user.proofs.Judged.{object_is, of_layout}
use Rattle.access_user.proofs.Layouts.{layout_is}
use Rattle.access_user.proofs.Masters.{of_object, test}
use Rattle.access_user.proofs.Whole.{members_are}
use Rattle.people_rows.proofs.SharingFits.{all_has}

-- ---- it has no masters

not_by_parent : (a : Access) → is_open a ≡ true → by_parent a ≡ false
not_by_parent Private e = absurd cc
not_by_parent ReadAll e = refl
not_by_parent ReadWrite e = refl
not_by_parent ControlledByParent e = absurd cc

abbrev of_master : Field → Bool
of_master f = is_master f.kind

none_counted : (fs : List Field) → length (filter of_master fs) ≡ 0 → list_any of_master fs ≡ false
none_counted [] e = refl
none_counted (f ∷ fs) e = by (is_master f.kind) (none_counted fs) e
  where
    by : (b : Bool) → (length (filter of_master fs) ≡ 0 → list_any of_master fs ≡ false) → length (cond b (f ∷ filter of_master fs) (filter of_master fs)) ≡ 0 → (b || list_any of_master fs) ≡ false
    by true rest e = absurd (omega (arith, e))
    by false rest e = rest e

none_refers : (n k : ℕ) (fs : List Field) → list_any of_master fs ≡ false → find (test n) (flat_map (reference_at n) (enumerate_from k fs)) ≡ None
none_refers n k [] e = refl
none_refers n k (f ∷ fs) e =
    let both = or_false (is_master f.kind) (list_any of_master fs) e in
    by (target_of f.kind) refl (none_refers n (k + 1) fs both.1) both.0
  where
    by : (target : Option ℕ) → target_of f.kind ≡ target → find (test n) (flat_map (reference_at n) (enumerate_from (k + 1) fs)) ≡ None → is_master f.kind ≡ false
        → find (test n) (reference_at n (k, f) ++ flat_map (reference_at n) (enumerate_from (k + 1) fs)) ≡ None
    by None at rest other = rw at rest
    by (Some target) at rest other = rw (at, eqb_same n, other) rest

-- an object without a Master field has no masters
none_named : (os : List Object) (n : ℕ) (o : Object) → slice_get os n ≡ Some o → is_detail o ≡ false → master_of_object os n ≡ None
none_named os n o there flat = of_object n os o there ∙ none_refers n 1 o.fields flat

module _ (q : OrgPlan) (t : Tenant) (l : Layout) (sound : IsSound t) (at : IsLayout q t l) (all : is_open l.access ≡ true) where
  none_above : master_of_object t.objects l.object ≡ None
  none_above =
      let one = layout_is q t l at in
      let access : one.object.access ≡ l.access = ap (λ (k : Layout). k.access) one.made in
      let few : masters one.object ≡ 0 =
      (sound_object t l.object one.object sound one.there).master ∙ ap (λ (b : Bool). cond b 1 0) (ap by_parent access ∙ not_by_parent l.access all) in
      none_named t.objects l.object one.object one.there (none_counted one.object.fields few)

-- what has an owner is no detail
owner_apart : (t : Tenant) (r : Record) (i : List ℕ) → IsSound t → Has t.records r → r.owner ≡ Some i → master_of_object t.objects (object_number r.id) ≡ None
owner_apart t r i sound has e =
    let w : IsSoundRecord (known t) t.objects r = all_has (IsSoundRecord (known t) t.objects) t.records r sound.records.each has in
    let owner : is_sound_owner (known t) w.object (Some i) ≡ true = subst (λ (o : Option (List ℕ)). is_sound_owner (known t) w.object o ≡ true) e w.owner in
    none_named t.objects (object_number r.id) w.object w.there (negated (is_detail w.object) ((known t).user i) owner)
  where
    negated : (a b : Bool) → (not a && b) ≡ true → a ≡ false
    negated true b e = absurd cc
    negated false b e = refl

-- ---- they may be read

module _ (t : Tenant) (u : User) (l : Layout) (r : Record) where
  flat : master_of_object t.objects (object_number r.id) ≡ None → level t u r ≡ own_level t u r
  unfolding level
  flat none = no_up t u r 3 none

  pub open_seen : (q : OrgPlan) → ((o : Object) → object_of_record t r ≡ Some o → o.access ≡ l.access → at_least Read (own_level t u r) ≡ true)
      → IsSound t → IsLayout q t l → is_open l.access ≡ true → Has (records_of t l.object) r → true ≡ can_read t u r
  open_seen q by_all sound at all among =
      let it = of_layout t l r among in
      let one = layout_is q t l at in
      let o = object_is t r sound it.has in
      let same : o.object ≡ one.object = some_is o.object one.object (sym o.there ∙ ap (object_numbered t) it.number ∙ one.there) in
      let access : o.object.access ≡ l.access = ap (λ (x : Object). x.access) same ∙ ap (λ (k : Layout). k.access) one.made in
      sym (ap (at_least Read) (flat (ap (master_of_object t.objects) it.number ∙ none_above q t l sound at all)) ∙ by_all o.object o.there access)

  pub owned_seen : IsSound t → Has (records_of t l.object) r → owns t u r ≡ true → own_level t u r ≡ Full → true ≡ can_read t u r
  owned_seen sound among owned full =
      let it = of_layout t l r among in
      let owner = owner_is r.owner owned in
      sym (ap (at_least Read) (flat (owner_apart t r owner.0 sound it.has owner.1) ∙ full))
    where
      owner_is : (o : Option (List ℕ)) → in_case (option_and_then (user_at t.users) o) false (λ x. bytes_eq x.id u.id || (has_hierarchy t r && is_above t u x)) ≡ true → (i : List ℕ) × (o ≡ Some i)
      owner_is None e = absurd cc
      owner_is (Some i) e = (i, refl)

  -- what is known of the object of the topmost masters is known of the object of a record that has an owner, since it is no detail
  pub owner_known : (people : People) (own : OwnLevels) → IsSound t → Has (records_of t l.object) r → OwnAt people t u (topmost 3 t.objects l.object) own
      → (members : Option Membership) → members ≡ own.members → (owner : Option (List ℕ)) → r.owner ≡ owner → IfSome owner (λ _. MembersFor (has_hierarchy t r) people u.id members)
  owner_known people own sound among known members same None e = tt
  owner_known people own sound among known members same (Some i) e =
      let it = of_layout t l r among in
      let none = owner_apart t r i sound it.has e in
      let top : topmost 3 t.objects l.object ≡ object_number r.id =
      ap (topmost 3 t.objects) (sym it.number) ∙ ap (λ (o : Option Reference). in_case o (object_number r.id) (λ f. topmost 2 t.objects f.target)) none in
      let o = object_is t r sound it.has in
      subst (MembersFor (has_hierarchy t r) people u.id) (sym same)
      (members_are t u r o.object o.there people own (subst (λ (n : ℕ). OwnAt people t u n own) top known o.object o.there))

-- ---- the owner in a row

module _ (l : Layout) (row : KeptRow) (r : Record) where
  pub spelled_none : read_row data_form row.key row.row ≡ None → kept_record l row ≡ Some r → ⊥
  spelled_none none is = clash (sym (ap (λ (d : Option DataRow). d >>= record_from l) none) ∙ is)
    where
      clash : ◌≡◌ {A = Option Record} None (Some r) → ⊥
      clash e = cc

  pub owner_there : (d : DataRow) → read_row data_form row.key row.row ≡ Some d → kept_record l row ≡ Some r → r.owner ≡ d.owner
  owner_there d some is = by (has_types l) (all_from d l.fields) (sym (ap (λ (d : Option DataRow). d >>= record_from l) some) ∙ is)
    where
      by : (b : Bool) (vs : Option (List Value)) → cond b (option_map (λ vs. record { id = d.id; owner = d.owner; created = d.created; modified = d.modified; values = vs }) vs) None ≡ Some r → r.owner ≡ d.owner
      by true (Some vs) e = ap (λ (x : Record). x.owner) (sym (some_is (record { id = d.id; owner = d.owner; created = d.created; modified = d.modified; values = vs }) r e))
      by true None e = absurd cc
      by false vs e = absurd cc
