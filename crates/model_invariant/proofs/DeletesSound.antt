-- What a delete leaves is sound.
use Rattle.std.proofs.Common.{◌≡◌, ℕ, zero, suc, ◌+◌, ◌≤◌, Bool, true, false, not, ◌&&◌, ◌||◌, ◌==◌, cond, List, [], ◌∷◌, ◌++◌, map, length, filter, Option, Some, None, is_some, refl, ap, sym, subst, ◌∙◌, eq-eqb, arith, ◌⊎◌, inl, inr, bytes_eq, nat_cmp, slice_get, ℤ}
use Rattle.std.specs.List.{enumerate_from, find, flat_map, list_all, list_any}
use Rattle.std.specs.Option.{option_and_then, unwrap_or}
use Rattle.std.specs.Cmp.Lexicographic.{slice_cmp}
use Rattle.std.proofs.lemmas.Bool.{eqb-true, and_from as both, true≢false as clash, or_left, or_right}
use Rattle.std.proofs.lemmas.List.{length-map}
use Rattle.base_lemmas.proofs.Bools.{and_first as both_left, and_second as both_right, by_answer as pick}
use Rattle.base_lemmas.proofs.Lists.{length-filter_most as length_kept}
use Rattle.base_lemmas.proofs.Texts.{same_from_bytes_eq as same_exact, bytes_eq-self as same_itself}
use Rattle.base_value.specs.Conversion.{convert}
use Rattle.base_value.specs.Dates.{is_moment}
use Rattle.base_value.specs.Types.{is_reference}
use Rattle.base_value.specs.Values.{equal, valid}
use Rattle.base_value.specs.declared.sharing.Level.TheVariants.{Full}
use Rattle.base_value.specs.declared.sharing.Principal.{Principal}
use Rattle.base_value.specs.declared.sharing.Principal.TheVariants as to
use Rattle.base_value.specs.declared.value.FieldType.{FieldType}
use Rattle.base_value.specs.declared.value.FieldType.TheVariants as type
use Rattle.base_value.specs.declared.value.OnDelete.TheVariants as on_delete
use Rattle.base_value.specs.declared.value.Value.{Value}
use Rattle.base_value.specs.declared.value.Value.TheVariants as value
use Rattle.formula.specs.Meaning.{value_at}
use Rattle.model.specs.declared.record.Record.{Record}
use Rattle.model.specs.declared.refusal.Refusal.TheVariants as refusal
use Rattle.model.specs.Cases.{in_case}
use Rattle.model.specs.Deletes.{cascade, cleared, cleared_lookups, delete, delete_record, details_of, has_id, is_cleared, loses_lookup, name_at, null_at, refers_into, refers_to_one_of, restricted_by, restricts, too_many, without}
use Rattle.model.specs.Fields.{by_parent, is_master, is_null, ref_of}
use Rattle.model.specs.Known.{group_id, item_of, known, knows, role_id}
use Rattle.model.specs.Membership.{Has}
use Rattle.model.specs.Objects.{Numbered, is_of, numbered, object_number}
use Rattle.model.specs.Paths.{Asked}
use Rattle.model.specs.Relationships.{Reference, master_of_object, named_id, references, references_of, target_of}
use Rattle.model.specs.Rights.{on_named}
use Rattle.model.specs.Rules.{refuse_if}
use Rattle.model_invariant.proofs.SoundParts.{HasSoundParts}
use Rattle.model.specs.SoundJob.{HasSoundJob, copies}
use Rattle.model.specs.Updates.{is_copied}
use Rattle.model.specs.Metadata.{masters_above}
use Rattle.model.specs.SoundMetadata.{IsSoundObject, masters}
use Rattle.model.specs.SoundRecords.{IsSoundRecord, UniqueHold, all_valid, is_sound_reference, kinds_of, record_id, those_of}
use Rattle.model.specs.SoundSharing.{IsSoundShare}
use Rattle.model.specs.Tenant.{Field, Group, Job, Object, Role, Tenant, User}
use Rattle.model.specs.Verdict.{accept, done}
use Rattle.model.specs.World.{having_id, user_id}
use Rattle.model_invariant.proofs.Parts.{all_at, all_from, among_any, among_has, among_kept, among_map, any_among, count_same, has_among, has_kept, has_same, kept_among, length_kept_twice, list_all_at, list_all_from, unrefused}
use Rattle.model_invariant.proofs.Orders.{rise_kept, rise_map}
use Rattle.model_invariant.proofs.PeopleSound.{when_judged}
use Rattle.model_invariant.proofs.SharingSound.{numbered_from, shares_kept, when_object}
use Rattle.model_invariant.proofs.ContentSound.{kind_at, none_for_each, reference_place}
use Rattle.model_invariant.proofs.RecordsSound.{not_null}
use Rattle.model_invariant.proofs.UpdatesSound.{records_edited, when_named}

-- ---- the references of an object are among all, at their object
pub among_either : {A : Type 0} (xs ys : List A) (z : A) → Has (xs ++ ys) z → Has xs z ⊎ Has ys z
among_either [] ys z m = inr m
among_either (w ∷ xs) ys z (inl e) = inl (inl e)
among_either (w ∷ xs) ys z (inr m) = elim (among_either xs ys z m) [ inl a ↦ inl (inr a) | inr b ↦ inr b ]

pub among_left : {A : Type 0} (xs ys : List A) (z : A) → Has xs z → Has (xs ++ ys) z
among_left [] ys z m = absurd m
among_left (x ∷ xs) ys z (inl e) = inl e
among_left (x ∷ xs) ys z (inr m) = inr (among_left xs ys z m)

pub among_right : {A : Type 0} (xs ys : List A) (z : A) → Has ys z → Has (xs ++ ys) z
among_right [] ys z m = m
among_right (x ∷ xs) ys z m = inr (among_right xs ys z m)

reference_of_one : (n : ℕ) (os : List Object) (f : Reference) → Has (flat_map references_of (numbered_from n os)) f
    → (i : ℕ) (o : Object) → f.object ≡ n + i → slice_get os i ≡ Some o → Has (references_of (record { number = n + i; object = o })) f
reference_of_one n [] f m i o e g = absurd cc
reference_of_one n (x ∷ os) f m i o e g = by i (among_either (references_of (record { number = n; object = x })) (flat_map references_of (numbered_from (n + 1) os)) f m) e g (reference_of_one (n + 1) os f)
  where
    out : (a b : Object) → Some a ≡ Some b → a ≡ b
    out a b e = ap (λ w. unwrap_or w a) e

    later : (k : ℕ) (os : List Object) → Has (flat_map references_of (numbered_from k os)) f → k ≤ f.object
    later k [] m = absurd m
    later k (y ∷ os) m = its (among_either (references_of (record { number = k; object = y })) (flat_map references_of (numbered_from (k + 1) os)) f m) (later (k + 1) os)
      where
        its : Has (references_of (record { number = k; object = y })) f ⊎ Has (flat_map references_of (numbered_from (k + 1) os)) f → (Has (flat_map references_of (numbered_from (k + 1) os)) f → k + 1 ≤ f.object) → k ≤ f.object
        its (inl a) more = let w = (reference_place (record { number = k; object = y }) f a).object in omega (arith, w)
        its (inr b) more = let w = more b in omega (arith, w)

    by : (i : ℕ) → Has (references_of (record { number = n; object = x })) f ⊎ Has (flat_map references_of (numbered_from (n + 1) os)) f → f.object ≡ n + i → slice_get (x ∷ os) i ≡ Some o
        → (Has (flat_map references_of (numbered_from (n + 1) os)) f → (i : ℕ) (o : Object) → f.object ≡ n + 1 + i → slice_get os i ≡ Some o → Has (references_of (record { number = n + 1 + i; object = o })) f)
        → Has (references_of (record { number = n + i; object = o })) f
    by zero (inl a) e g more =
        let none : n ≡ n + zero = omega arith in
        subst (λ (z : ℕ). Has (references_of (record { number = z; object = o })) f) none (subst (λ (z : Object). Has (references_of (record { number = n; object = z })) f) (out x o g) a)
    by zero (inr b) e g more = let w = later (n + 1) os b in absurd (omega (arith, w, e))
    by (suc i) (inl a) e g more = let w = (reference_place (record { number = n; object = x }) f a).object in absurd (omega (arith, w, e))
    by (suc i) (inr b) e g more =
        let same : n + 1 + i ≡ n + suc i = omega arith in
        subst (λ (z : ℕ). Has (references_of (record { number = z; object = o })) f) same (more b i o (e ∙ sym same) g)

pub own_reference : (t : Tenant) (f : Reference) → Has (references t.objects) f → (n : ℕ) (o : Object) → f.object ≡ n → slice_get t.objects n ≡ Some o → Has (references_of (record { number = n; object = o })) f
own_reference t f m n o e g =
    let none : 0 + n ≡ n = omega arith in
    subst (λ (z : ℕ). Has (references_of (record { number = z; object = o })) f) none (reference_of_one 0 t.objects f m n o (e ∙ sym none) g)

reference_among : (n : ℕ) (os : List Object) (i : ℕ) (o : Object) → slice_get os i ≡ Some o → (f : Reference) → Has (references_of (record { number = n + i; object = o })) f → Has (flat_map references_of (numbered_from n os)) f
reference_among n [] i o g f m = absurd cc
reference_among n (x ∷ os) zero o g f m =
    let none : n + zero ≡ n = omega arith in
    let same : x ≡ o = ap (λ w. unwrap_or w x) g in
    among_left (references_of (record { number = n; object = x })) (flat_map references_of (numbered_from (n + 1) os)) f
    (subst (λ (z : Object). Has (references_of (record { number = n; object = z })) f) (sym same) (subst (λ (z : ℕ). Has (references_of (record { number = z; object = o })) f) none m))
reference_among n (x ∷ os) (suc i) o g f m =
    let same : n + suc i ≡ n + 1 + i = omega arith in
    among_right (references_of (record { number = n; object = x })) (flat_map references_of (numbered_from (n + 1) os)) f
    (reference_among (n + 1) os i o g f (subst (λ (z : ℕ). Has (references_of (record { number = z; object = o })) f) same m))

pub all_references : (t : Tenant) (n : ℕ) (o : Object) → slice_get t.objects n ≡ Some o → (f : Reference) → Has (references_of (record { number = n; object = o })) f → Has (references t.objects) f
all_references t n o g f m =
    let none : n ≡ 0 + n = omega arith in
    reference_among 0 t.objects n o g f (subst (λ (z : ℕ). Has (references_of (record { number = z; object = o })) f) none m)

-- ---- null at some positions
abbrev null_from : ℕ → List ℕ → List Value → List Value
null_from m places vs = map (λ v. cond (list_any (λ p. p == v.0) places) value.Null v.1) (enumerate_from m vs)

null_from_is : (m : ℕ) (places : List ℕ) (vs : List Value) (i : ℕ) → value_at (null_from m places vs) i ≡ cond (list_any (λ p. p == m + i) places) value.Null (value_at vs i)
null_from_is m places [] i = pick (list_any (λ p. p == m + i) places) (λ b. value.Null ≡ cond b value.Null value.Null) (λ _. refl) (λ _. refl)
null_from_is m places (v ∷ vs) zero = let none : m ≡ m + 0 = omega arith in ap (λ z. cond (list_any (λ p. p == z) places) value.Null v) none
null_from_is m places (v ∷ vs) (suc i) = let same : m + 1 + i ≡ m + suc i = omega arith in null_from_is (m + 1) places vs i ∙ ap (λ z. cond (list_any (λ p. p == z) places) value.Null (value_at vs i)) same

null_fits : (m : ℕ) (places : List ℕ) (ks : List FieldType) (vs : List Value) → all_valid ks vs ≡ true
    → ((i : ℕ) (k : FieldType) → slice_get ks i ≡ Some k → list_any (λ p. p == m + i) places ≡ true → valid k value.Null ≡ true) → all_valid ks (null_from m places vs) ≡ true
null_fits m places [] [] h f = refl
null_fits m places [] (v ∷ vs) h f = absurd cc
null_fits m places (k ∷ ks) [] h f = absurd cc
null_fits m places (k ∷ ks) (v ∷ vs) h f =
    both (valid k (cond (list_any (λ p. p == m) places) value.Null v)) (all_valid ks (null_from (m + 1) places vs))
    (pick (list_any (λ p. p == m) places) (λ b. list_any (λ p. p == m) places ≡ b → valid k (cond b value.Null v) ≡ true)
    (λ _ e. let none : m ≡ m + 0 = omega arith in f 0 k refl (ap (λ z. list_any (λ p. p == z) places) (sym none) ∙ e))
    (λ _ e. both_left (valid k v) (all_valid ks vs) h) refl)
    (null_fits (m + 1) places ks vs (both_right (valid k v) (all_valid ks vs) h) (λ i l g e. let same : m + 1 + i ≡ m + suc i = omega arith in f (suc i) l g (ap (λ z. list_any (λ p. p == z) places) (sym same) ∙ e)))

-- ---- kinds of references
kinds : (k : FieldType) (n : ℕ) → target_of k ≡ Some n → (is_cleared k ≡ true) ⊎ ((restricts k ≡ true) ⊎ (is_master k ≡ true))
kinds (type.Lookup o on_delete.Clear) n e = inl refl
kinds (type.Lookup o on_delete.Restrict) n e = inr (inl refl)
kinds (type.Master o) n e = inr (inr refl)
kinds k n e = absurd cc

cleared_null : (k : FieldType) → is_cleared k ≡ true → valid k value.Null ≡ true
cleared_null (type.Lookup o on_delete.Clear) e = refl
cleared_null k e = absurd cc

not_both : (k : FieldType) → is_cleared k ≡ true → is_master k ≡ true → ⊥
not_both (type.Master o) e m = cc
not_both k e m = cc

not_plain : (k : FieldType) → is_cleared k ≡ true → is_reference k ≡ false → ⊥
not_plain (type.Lookup o d) e m = cc
not_plain k e m = cc

named_same : (t u : Tenant) (p : Principal) → u.users ≡ t.users → u.roles ≡ t.roles → u.groups ≡ t.groups → knows (known t) p ≡ true → knows (known u) p ≡ true
named_same t u (to.User i) a b c h = ap (λ (z : List User). is_some (having_id user_id z i)) a ∙ h
named_same t u (to.Role i) a b c h = ap (λ (z : List Role). is_some (having_id role_id z i)) b ∙ h
named_same t u (to.Subordinates i) a b c h = ap (λ (z : List Role). is_some (having_id role_id z i)) b ∙ h
named_same t u (to.Group i) a b c h = ap (λ (z : List Group). is_some (having_id group_id z i)) c ∙ h

-- ---- what stays
module _ (t : Tenant) (s : HasSoundParts t) (now : ℤ) (day : is_moment now ≡ true) (gone : List Record) (free : restricted_by t gone ≡ None)
    (closed : (r : Record) → Has t.records r → has_id gone r.id ≡ false → (f : Reference) → Has (references t.objects) f → is_of f.object r ≡ true → is_master f.field.kind ≡ true
    → (id : List ℕ) → named_id f r ≡ Some id → has_id gone id ≡ true → ⊥) where
  abbrev lost_places : Record → List ℕ
  lost_places r = map (λ (f : Reference). f.position) (cleared_lookups t gone r)

  abbrev after : Record → Record
  after r = cleared now t gone r

  abbrev rest : List Record
  rest = filter (λ r. not (has_id gone r.id)) t.records

  abbrev u : Tenant
  u = without now gone t

  same_id : (r : Record) → (after r).id ≡ r.id
  same_id r = pick (loses_lookup t gone r) (λ b. (cond b (record r { modified = now; values = null_at (lost_places r) r.values }) r).id ≡ r.id) (λ _. refl) (λ _. refl)

  -- a record that stays refers to one that goes by lookups that are cleared alone
  loses_it : (r : Record) → Has t.records r → has_id gone r.id ≡ false → (f : Reference) → Has (references t.objects) f → is_of f.object r ≡ true → (n : ℕ) → target_of f.field.kind ≡ Some n
      → (id : List ℕ) → named_id f r ≡ Some id → has_id gone id ≡ true → is_cleared f.field.kind ≡ true
  loses_it r m stays f among of n target id named goes = by (kinds f.field.kind n target)
    where
      refers_so : refers_into gone f r ≡ true
      refers_so = both (not (has_id gone r.id)) (is_of f.object r && refers_to_one_of gone f r) (ap not stays) (both (is_of f.object r) (refers_to_one_of gone f r) of (ap (λ o. in_case o false (has_id gone)) named ∙ goes))

      by : (is_cleared f.field.kind ≡ true) ⊎ ((restricts f.field.kind ≡ true) ⊎ (is_master f.field.kind ≡ true)) → is_cleared f.field.kind ≡ true
      by (inl k) = k
      by (inr (inl k)) =
          let rule = none_for_each (λ (f : Reference). refuse_if (restricts f.field.kind && list_any (refers_into gone f) t.records) (refusal.DeleteFailed (name_at t f.object) f.field.name)) (references t.objects) free f among in
          let no = unrefused (restricts f.field.kind && list_any (refers_into gone f) t.records) (refusal.DeleteFailed (name_at t f.object) f.field.name) rule in
          absurd (clash (sym (both (restricts f.field.kind) (list_any (refers_into gone f) t.records) k (any_among (refers_into gone f) r t.records m refers_so)) ∙ no))
      by (inr (inr k)) = absurd (closed r m stays f among of k id named goes)

  abbrev is_lost : Record → Reference → Bool
  is_lost r f = is_cleared f.field.kind && refers_into gone f r

  -- it is then among the positions that are lost
  lost_there : (r : Record) → has_id gone r.id ≡ false → (f : Reference) → Has (references t.objects) f → is_of f.object r ≡ true → is_cleared f.field.kind ≡ true
      → (id : List ℕ) → named_id f r ≡ Some id → has_id gone id ≡ true → (loses_lookup t gone r ≡ true) × (list_any (λ p. p == f.position) (lost_places r) ≡ true)
  lost_there r stays f among of k id named goes =
      let refers_so : refers_into gone f r ≡ true = both (not (has_id gone r.id)) (is_of f.object r && refers_to_one_of gone f r) (ap not stays)
      (both (is_of f.object r) (refers_to_one_of gone f r) of (ap (λ o. in_case o false (has_id gone)) named ∙ goes)) in
      let lost_so : is_lost r f ≡ true = both (is_cleared f.field.kind) (refers_into gone f r) k refers_so in (
        any_among (is_lost r) f (references t.objects) among lost_so,
        any_place f (cleared_lookups t gone r) (kept_among (is_lost r) (references t.objects) f among lost_so),
      )
    where
      any_place : (f : Reference) (fs : List Reference) → Has fs f → list_any (λ p. p == f.position) (map (λ (f : Reference). f.position) fs) ≡ true
      any_place f [] m = absurd m
      any_place f (g ∷ fs) (inl e) = or_left (g.position == f.position) (list_any (λ p. p == f.position) (map (λ (f : Reference). f.position) fs)) (eq-eqb g.position f.position (ap (λ (z : Reference). z.position) (sym e)))
      any_place f (g ∷ fs) (inr m) = or_right (g.position == f.position) (list_any (λ p. p == f.position) (map (λ (f : Reference). f.position) fs)) (any_place f fs m)

  -- a position that is lost is that of a lookup of the record's object, which is cleared
  lost_by : (r : Record) (n : ℕ) → list_any (λ p. p == n) (lost_places r) ≡ true → (f : Reference) × Has (references t.objects) f × (f.position ≡ n) × (is_of f.object r ≡ true) × (is_cleared f.field.kind ≡ true)
  lost_by r n h =
      let p = among_any (λ p. p == n) (lost_places r) h in
      let f = among_map (λ (f : Reference). f.position) (cleared_lookups t gone r) p.0 p.1 in
      let m = among_kept (is_lost r) (references t.objects) f.0 f.1 in
      let w = both_right (is_cleared f.0.field.kind) (refers_into gone f.0 r) m.1 in
      (f.0, m.0, sym f.2 ∙ eqb-true p.0 n p.2, both_left (is_of f.0.object r) (refers_to_one_of gone f.0 r) (both_right (not (has_id gone r.id)) (is_of f.0.object r && refers_to_one_of gone f.0 r) w), both_left (is_cleared f.0.field.kind) (refers_into gone f.0 r) m.1)

  -- a value afterwards: null where it was lost, and else the same
  value_after : (r : Record) (n : ℕ) → (value_at (after r).values n ≡ value_at r.values n) ⊎ ((value_at (after r).values n ≡ value.Null) × (list_any (λ p. p == n) (lost_places r) ≡ true))
  value_after r n =
      pick (loses_lookup t gone r) (λ b. let x = cond b (record r { modified = now; values = null_at (lost_places r) r.values }) r in
      (value_at x.values n ≡ value_at r.values n) ⊎ ((value_at x.values n ≡ value.Null) × (list_any (λ p. p == n) (lost_places r) ≡ true)))
      (λ _.
      let none : 0 + n ≡ n = omega arith in
      let is = null_from_is 0 (lost_places r) r.values n ∙ ap (λ z. cond (list_any (λ p. p == z) (lost_places r)) value.Null (value_at r.values n)) none in
      pick (list_any (λ p. p == n) (lost_places r)) (λ b. list_any (λ p. p == n) (lost_places r) ≡ b → value_at (null_at (lost_places r) r.values) n ≡ cond b value.Null (value_at r.values n)
      → (value_at (null_at (lost_places r) r.values) n ≡ value_at r.values n) ⊎ ((value_at (null_at (lost_places r) r.values) n ≡ value.Null) × (list_any (λ p. p == n) (lost_places r) ≡ true)))
      (λ _ e h. inr (h, e)) (λ _ e h. inl h) refl is)
      (λ _. inl refl)

  null_or_same : (r : Record) (n : ℕ) → is_null (value_at (after r).values n) ≡ false → value_at (after r).values n ≡ value_at r.values n
  null_or_same r n h = elim (value_after r n) [ inl e ↦ e | inr e ↦ absurd (clash (sym (ap is_null e.0) ∙ h)) ]

  -- what was inr and doesn't go is there
  there_still : (i : List ℕ) → (known t).item i ≡ true → has_id gone i ≡ false → (known u).item i ≡ true
  there_still i h stays =
      let r = has_among record_id t.records i h in
      let m = kept_among (λ r. not (has_id gone r.id)) t.records r.0 r.1 (ap (λ (z : List ℕ). not (has_id gone z)) (sym r.2) ∙ ap not stays) in
      has_same record_id after same_id rest i ∙ subst (λ (z : List ℕ). is_some (having_id record_id rest z) ≡ true) (sym r.2) (among_has record_id rest r.0 m)

  there_before : (i : List ℕ) → (known u).item i ≡ true → (known t).item i ≡ true
  there_before i h = has_kept record_id (λ r. not (has_id gone r.id)) t.records i (sym (has_same record_id after same_id rest i) ∙ h)

  stays_not : (r : Record) → not (has_id gone r.id) ≡ true → has_id gone r.id ≡ false
  stays_not r h = by (has_id gone r.id) h
    where
      by : (b : Bool) → not b ≡ true → b ≡ false
      by true e = absurd cc
      by false e = refl

  -- each record that stays
  record_stays : (r : Record) → Has rest r → IsSoundRecord (known u) t.objects (after r)
  record_stays r m =
      pick (loses_lookup t gone r) (λ b. IsSoundRecord (known u) t.objects (cond b (record r { modified = now; values = null_at (lost_places r) r.values }) r))
      (λ loss.
      record {
        object = was.object;
        there = was.there;
        number = was.number;
        drawn = was.drawn;
        id = was.id;
        owner = was.owner;
        created = was.created;
        modified = day;
        values = null_fits 0 (lost_places r) (kinds_of was.object) r.values was.values fits;
        references = subst (λ (vs : List Value). list_all (is_sound_reference (known u) vs) (references_of o) ≡ true) (values_if loss) references_after;
      })
      (λ loss.
      record {
        object = was.object;
        there = was.there;
        number = was.number;
        drawn = was.drawn;
        id = was.id;
        owner = was.owner;
        created = was.created;
        modified = was.modified;
        values = was.values;
        references = subst (λ (vs : List Value). list_all (is_sound_reference (known u) vs) (references_of o) ≡ true) (values_if_not loss) references_after;
      })
    where
      among : Has t.records r × (not (has_id gone r.id) ≡ true)
      among = among_kept (λ r. not (has_id gone r.id)) t.records r m

      was : IsSoundRecord (known t) t.objects r
      was = all_at (IsSoundRecord (known t) t.objects) r t.records s.records.each among.0

      o : Numbered
      o = record { number = object_number r.id; object = was.object }

      values_if : loses_lookup t gone r ≡ true → (after r).values ≡ null_at (lost_places r) r.values
      values_if e = ap (λ b. (cond b (record r { modified = now; values = null_at (lost_places r) r.values }) r).values) e

      values_if_not : loses_lookup t gone r ≡ false → (after r).values ≡ r.values
      values_if_not e = ap (λ b. (cond b (record r { modified = now; values = null_at (lost_places r) r.values }) r).values) e

      -- two references at one place of one object are of one field
      one_field : (f g : Reference) → Has (references_of o) f → Has (references t.objects) g → is_of g.object r ≡ true → g.position ≡ f.position → g.field ≡ f.field
      one_field f g a b of e =
          let x = reference_place o f a in
          let mine = own_reference t g b (object_number r.id) was.object (sym (eqb-true (object_number r.id) g.object of)) was.there in
          let y = reference_place o g mine in
          let place : y.place ≡ x.place = omega (arith, x.is, y.is, e) in
          out g.field f.field (sym y.field ∙ ap (slice_get was.object.fields) place ∙ x.field)
        where
          out : (a b : Field) → Some a ≡ Some b → a ≡ b
          out a b e = ap (λ w. unwrap_or w a) e

      fits : (i : ℕ) (k : FieldType) → slice_get (kinds_of was.object) i ≡ Some k → list_any (λ p. p == 0 + i) (lost_places r) ≡ true → valid k value.Null ≡ true
      fits i k e h =
          let l = lost_by r (0 + i) h in
          let mine = own_reference t l.0 l.1 (object_number r.id) was.object (sym (eqb-true (object_number r.id) l.0.object l.3)) was.there in
          let y = reference_place o l.0 mine in
          let place : suc y.place ≡ i = omega (arith, y.is, l.2) in
          let kind : l.0.field.kind ≡ k = out l.0.field.kind k (sym (kind_at was.object y.place l.0.field y.field) ∙ ap (slice_get (kinds_of was.object)) place ∙ e) in
          ap (λ z. valid z value.Null) (sym kind) ∙ cleared_null l.0.field.kind l.4
        where
          out : (a b : FieldType) → Some a ≡ Some b → a ≡ b
          out a b e = ap (λ w. unwrap_or w a) e

      references_after : list_all (is_sound_reference (known u) (after r).values) (references_of o) ≡ true
      references_after =
          list_all_from (is_sound_reference (known u) (after r).values) (references_of o) (λ f a. each f a (value_after r f.position) (list_all_at (is_sound_reference (known t) r.values) f (references_of o) was.references a))
        where
          each : (f : Reference) → Has (references_of o) f → (value_at (after r).values f.position ≡ value_at r.values f.position) ⊎ ((value_at (after r).values f.position ≡ value.Null) × (list_any (λ p. p == f.position) (lost_places r) ≡ true))
              → is_sound_reference (known t) r.values f ≡ true → is_sound_reference (known u) (after r).values f ≡ true
          each f a (inr null) before =
              let l = lost_by r f.position null.1 in
              let same = one_field f l.0 a l.1 l.3 l.2 in
              ap (λ (v : Value). in_case (ref_of v) (not (is_master f.field.kind)) (item_of (known u) f.target)) null.0
              ∙ no_master (is_master f.field.kind) (λ k. not_both f.field.kind (ap (λ (z : Field). is_cleared z.kind) (sym same) ∙ l.4) k)
            where
              no_master : (b : Bool) → (b ≡ true → ⊥) → not b ≡ true
              no_master true h = absurd (h refl)
              no_master false h = refl
          each f a (inl same) before = by (ref_of (value_at r.values f.position)) refl
            where
              is_it : is_sound_reference (known u) (after r).values f ≡ in_case (ref_of (value_at r.values f.position)) (not (is_master f.field.kind)) (item_of (known u) f.target)
              is_it = ap (λ (v : Value). in_case (ref_of v) (not (is_master f.field.kind)) (item_of (known u) f.target)) same

              by : (w : Option (List ℕ)) → ref_of (value_at r.values f.position) ≡ w → is_sound_reference (known u) (after r).values f ≡ true
              by None e = is_it ∙ ap (λ z. in_case z (not (is_master f.field.kind)) (item_of (known u) f.target)) e ∙ (sym (ap (λ z. in_case z (not (is_master f.field.kind)) (item_of (known t) f.target)) e) ∙ before)
              by (Some id) e =
                  let there_was = sym (ap (λ z. in_case z (not (is_master f.field.kind)) (item_of (known t) f.target)) e) ∙ before in
                  is_it ∙ ap (λ z. in_case z (not (is_master f.field.kind)) (item_of (known u) f.target)) e
                  ∙ both ((known u).item id) (object_number id == f.target)
                  (there_still id (both_left ((known t).item id) (object_number id == f.target) there_was) (stays (has_id gone id) refl))
                  (both_right ((known t).item id) (object_number id == f.target) there_was)
                where
                  stays : (b : Bool) → has_id gone id ≡ b → has_id gone id ≡ false
                  stays false g = g
                  stays true g =
                      let x = reference_place o f a in
                      let anywhere = all_references t (object_number r.id) was.object was.there f a in
                      let mine : is_of f.object r ≡ true = eq-eqb (object_number r.id) f.object (sym x.object) in
                      let not_gone = stays_not r among.1 in
                      let k = loses_it r among.0 not_gone f anywhere mine f.target x.target id e g in
                      let w = lost_there r not_gone f anywhere mine k id e g in
                      let none : 0 + f.position ≡ f.position = omega arith in
                      let null : value_at (after r).values f.position ≡ value.Null
                      = ap (λ (vs : List Value). value_at vs f.position) (values_if w.0) ∙ null_from_is 0 (lost_places r) r.values f.position
                      ∙ ap (λ z. cond (list_any (λ p. p == z) (lost_places r)) value.Null (value_at r.values f.position)) none ∙ ap (λ b. cond b value.Null (value_at r.values f.position)) w.1 in
                      absurd (no_ref id (sym e ∙ ap ref_of (sym same ∙ null)))
                    where
                      no_ref : (id : List ℕ) → Some id ≡ None → ⊥
                      no_ref id e = cc

  pub without_sound : HasSoundParts (without now gone t)
  without_sound =
      records_edited t (map after rest) (filter (λ x. not (has_id gone x.item)) t.shares) s there_before
      (record {
        each = all_from (IsSoundRecord (known u) t.objects) (map after rest) (λ x m. let r = among_map after rest x m in subst (λ (z : Record). IsSoundRecord (known u) t.objects z) (sym r.2) (record_stays r.0 r.1));
        rise = rise_map (slice_cmp nat_cmp) record_id after same_id rest (rise_kept (slice_cmp nat_cmp) record_id (λ r. not (has_id gone r.id)) t.records s.records.rise);
        unique = still_unique;
        few = omega (arith, length-map rest after, length_kept (λ r. not (has_id gone r.id)) t.records, s.records.few);
        few_of = λ n. omega (arith, count_same (is_of n) after (λ r. ap (λ (i : List ℕ). object_number i == n) (same_id r)) rest, length_kept_twice (is_of n) (λ r. not (has_id gone r.id)) t.records, s.records.few_of n);
      })
      (let kept = shares_kept t (λ x. not (has_id gone x.item)) s.shares in
      record {
        each = all_from (IsSoundShare (known u) t.objects) (filter (λ x. not (has_id gone x.item)) t.shares) (λ x m.
            let w = among_kept (λ x. not (has_id gone x.item)) t.shares x m in
            let h = all_at (IsSoundShare (known t) t.objects) x t.shares s.shares.each w.0 in
            record { item = there_still x.item h.item (not_so (has_id gone x.item) w.1); object = h.object; to = named_same t u x.to refl refl refl h.to; level = h.level });
        rise = kept.rise;
        few = kept.few;
      })
      (job_stays t.job s.job)
    where
      not_so : (b : Bool) → not b ≡ true → b ≡ false
      not_so true e = absurd cc
      not_so false e = refl

      still_unique : UniqueHold t.objects (map after rest)
      still_unique n place p g at field unique x y a b null same =
          let m = among_kept (is_of n) (map after rest) x a in
          let w = among_kept (is_of n) (map after rest) y b in
          let x0 = among_map after rest x m.0 in
          let y0 = among_map after rest y w.0 in
          let ex : value_at x.values (suc place) ≡ value_at x0.0.values (suc place) = ap (λ (z : Record). value_at z.values (suc place)) x0.2 ∙ null_or_same x0.0 (suc place) (ap (λ (z : Record). is_null (value_at z.values (suc place))) (sym x0.2) ∙ null) in
          let null_y = not_null (value_at x.values (suc place)) (value_at y.values (suc place)) same null in
          let ey : value_at y.values (suc place) ≡ value_at y0.0.values (suc place) = ap (λ (z : Record). value_at z.values (suc place)) y0.2 ∙ null_or_same y0.0 (suc place) (ap (λ (z : Record). is_null (value_at z.values (suc place))) (sym y0.2) ∙ null_y) in
          let ix : x.id ≡ x0.0.id = ap record_id x0.2 ∙ same_id x0.0 in
          let iy : y.id ≡ y0.0.id = ap record_id y0.2 ∙ same_id y0.0 in
          ix ∙ s.records.unique n place p g at field unique x0.0 y0.0
          (kept_among (is_of n) t.records x0.0 (among_kept (λ r. not (has_id gone r.id)) t.records x0.0 x0.1).0 (ap (λ (i : List ℕ). object_number i == n) (sym ix) ∙ m.1))
          (kept_among (is_of n) t.records y0.0 (among_kept (λ r. not (has_id gone r.id)) t.records y0.0 y0.1).0 (ap (λ (i : List ℕ). object_number i == n) (sym iy) ∙ w.1))
          (ap is_null (sym ex) ∙ null)
          (ap (λ (v : Value). equal v (value_at y0.0.values (suc place))) (sym ex) ∙ ap (λ (v : Value). equal (value_at x.values (suc place)) v) (sym ey) ∙ same)
          ∙ sym iy

      job_stays : (job : Option Job) → HasSoundJob t.counter t.objects t.records job → HasSoundJob t.counter t.objects (map after rest) job
      job_stays None h = tt
      job_stays (Some j) h =
          record {
            field = h.field;
            there = h.there;
            change = h.change;
            cursor = h.cursor;
            failed = h.failed;
            open_in_copy = h.open_in_copy;
            failed_where = h.failed_where;
            copied = list_all_from (copies j) (those_of j.object (map after rest)) (λ y m.
                let w = among_kept (is_of j.object) (map after rest) y m in
                let r = among_map after rest y w.0 in
                subst (λ (z : Record). copies j z ≡ true) (sym r.2)
                (still r.0 (among_kept (λ r. not (has_id gone r.id)) t.records r.0 r.1).0 (ap (λ (i : List ℕ). object_number i == j.object) (sym (same_id r.0)) ∙ (ap (λ (z : Record). is_of j.object z) (sym r.2) ∙ w.1))));
          }
        where
          some_is : {A : Type 0} (a b : A) → Some a ≡ Some b → a ≡ b
          some_is a b e = ap (λ w. unwrap_or w a) e

          still : (r : Record) → Has t.records r → is_of j.object r ≡ true → copies j (after r) ≡ true
          still r m of =
              let was = all_at (IsSoundRecord (known t) t.objects) r t.records s.records.each m in
              let mine : object_number r.id ≡ j.object = eqb-true (object_number r.id) j.object of in
              let old = list_all_at (copies j) r (those_of j.object t.records) h.copied (kept_among (is_of j.object) t.records r m of) in
              let value : value_at (after r).values (suc j.field) ≡ value_at r.values (suc j.field)
              = elim (value_after r (suc j.field)) [
                | inl e ↦ e
                | inr e ↦
                    let l = lost_by r (suc j.field) e.1 in
                    let own = own_reference t l.0 l.1 (object_number r.id) was.object (sym (eqb-true (object_number r.id) l.0.object l.3)) was.there in
                    let y = reference_place (record { number = object_number r.id; object = was.object }) l.0 own in
                    let place : y.place ≡ j.field = omega (arith, y.is, l.2) in
                    let field : slice_get was.object.fields j.field ≡ Some h.field
                    = ap (option_and_then (λ (o : Object). slice_get o.fields j.field)) (sym was.there ∙ ap (slice_get t.objects) mine) ∙ h.there in
                    let same : l.0.field ≡ h.field = some_is l.0.field h.field (sym y.field ∙ ap (slice_get was.object.fields) place ∙ field) in
                    absurd (not_plain l.0.field.kind l.4 (ap (λ (z : Field). is_reference z.kind) same ∙ h.change.reference))
              ] in
              ap (λ (i : List ℕ). not (is_copied j.phase j.cursor i) || is_some (convert j.to (value_at (after r).values (suc j.field)))) (same_id r)
              ∙ ap (λ (v : Value). not (is_copied j.phase j.cursor r.id) || is_some (convert j.to v)) value ∙ old

-- an object is among the numbered ones
pub object_among : (n i : ℕ) (os : List Object) (o : Object) → slice_get os i ≡ Some o → Has (numbered_from n os) (record { number = n + i; object = o })
object_among n i [] o e = absurd cc
object_among n zero (x ∷ os) o e =
    let none : n + zero ≡ n = omega arith in
    let same : o ≡ x = sym (ap (λ w. unwrap_or w x) e) in
    inl (λ i. record { number = none i; object = same i })
object_among n (suc i) (x ∷ os) o e =
    let same : n + 1 + i ≡ n + suc i = omega arith in
    inr (subst (λ (z : ℕ). Has (numbered_from (n + 1) os) (record { number = z; object = o })) same (object_among (n + 1) i os o e))

-- ---- what goes is closed under details: a detail of a detail of a detail has none
module _ (t : Tenant) (s : HasSoundParts t) where
  -- the master of a record is of the object above
  pub record Above (x : Record) (ys : List Record) : Type 0 where
    pub reference : Reference
    pub found : master_of_object t.objects (object_number x.id) ≡ Some reference
    pub master : Record
    pub among : Has ys master
    pub target : object_number master.id ≡ reference.target

  -- the references of an object to masters
  abbrev masters_of : ℕ → Reference → Bool
  masters_of n f = (f.object == n) && is_master f.field.kind

  found_among : (p : Reference → Bool) (xs : List Reference) (x : Reference) → find p xs ≡ Some x → Has xs x × (p x ≡ true)
  found_among p [] x e = absurd cc
  found_among p (y ∷ xs) x e = by (p y) refl e (found_among p xs x)
    where
      by : (b : Bool) → p y ≡ b → cond b (Some y) (find p xs) ≡ Some x → (find p xs ≡ Some x → Has xs x × (p x ≡ true)) → Has (y ∷ xs) x × (p x ≡ true)
      by true w e more = let same : x ≡ y = sym (ap (λ o. unwrap_or o y) e) in (inl same, ap p same ∙ w)
      by false w e more = let m = more e in (inr m.0, m.1)

  -- the target of a sound reference
  target_number : (x : Record) → Has t.records x → (f : Reference) → master_of_object t.objects (object_number x.id) ≡ Some f → (id : List ℕ) → named_id f x ≡ Some id → object_number id ≡ f.target
  target_number x m f e id named =
      let was = all_at (IsSoundRecord (known t) t.objects) x t.records s.records.each m in
      let n = object_number x.id in
      let p = found_among (masters_of n) (references t.objects) f e in
      let mine = eqb-true f.object n (both_left (f.object == n) (is_master f.field.kind) p.1) in
      let own = own_reference t f p.0 n was.object mine was.there in
      let sound = list_all_at (is_sound_reference (known t) x.values) f (references_of (record { number = n; object = was.object })) was.references own in
      let it = sym (ap (λ z. in_case z (not (is_master f.field.kind)) (item_of (known t) f.target)) named) ∙ sound in
      eqb-true (object_number id) f.target (both_right ((known t).item id) (object_number id == f.target) it)

  pub detail_above : (ys : List Record) (x : Record) → Has (details_of t ys) x → Has t.records x × Above x ys
  detail_above ys x m =
      let w = among_kept (λ r. in_case (master_of_object t.objects (object_number r.id)) false (λ f. refers_to_one_of ys f r)) t.records x m in
      (w.0, by (master_of_object t.objects (object_number x.id)) refl w.0 w.1)
    where
      by : (f : Option Reference) → master_of_object t.objects (object_number x.id) ≡ f → Has t.records x → in_case f false (λ f. refers_to_one_of ys f x) ≡ true → Above x ys
      by None e m h = absurd cc
      by (Some f) e m h = named (named_id f x) refl h
        where
          named : (i : Option (List ℕ)) → named_id f x ≡ i → in_case i false (has_id ys) ≡ true → Above x ys
          named None w h = absurd cc
          named (Some id) w h =
              let y = among_any (λ (z : Record). bytes_eq z.id id) ys h in
              record { reference = f; found = e; master = y.0; among = y.1; target = ap object_number (same_exact y.0.id id y.2) ∙ target_number x m f e id w }

  -- n levels down, an object has n masters above
  abbrev pub levels : ℕ → List Record → List Record
  levels zero ys = ys
  levels (suc n) ys = details_of t (levels n ys)

  pub deep : (n : ℕ) (ys : List Record) (x : Record) → Has (levels n ys) x → masters_above n t.objects (object_number x.id) ≡ n
  deep zero ys x m = refl
  deep (suc n) ys x m =
      let d = (detail_above (levels n ys) x m).1 in
      ap (λ z. in_case z 0 (λ (f : Reference). suc (masters_above n t.objects f.target))) d.found
      ∙ ap suc (ap (masters_above n t.objects) (sym d.target) ∙ deep n ys d.master d.among)

  -- ---- one Master field an object
  counted : (p : Field → Bool) (fs : List Field) (j : ℕ) (b : Field) → slice_get fs j ≡ Some b → p b ≡ true → 1 ≤ length (filter p fs)
  counted p [] j b e h = absurd cc
  counted p (x ∷ fs) zero b e h =
      let w : p x ≡ true = ap p (ap (λ o. unwrap_or o x) e) ∙ h in
      subst (λ c. 1 ≤ length (cond c (x ∷ filter p fs) (filter p fs))) (sym w) (omega arith)
  counted p (x ∷ fs) (suc j) b e h = let m = counted p fs j b e h in pick (p x) (λ c. 1 ≤ length (cond c (x ∷ filter p fs) (filter p fs))) (λ _. omega arith) (λ _. m)

  one_place : (p : Field → Bool) (fs : List Field) (i j : ℕ) (a b : Field) → slice_get fs i ≡ Some a → slice_get fs j ≡ Some b → p a ≡ true → p b ≡ true → length (filter p fs) ≤ 1 → i ≡ j
  one_place p [] i j a b e g h k few = absurd cc
  one_place p (x ∷ fs) zero zero a b e g h k few = refl
  one_place p (x ∷ fs) zero (suc j) a b e g h k few =
      let w : p x ≡ true = ap p (ap (λ o. unwrap_or o x) e) ∙ h in
      let m = counted p fs j b g k in
      let n : length (x ∷ filter p fs) ≤ 1 = subst (λ c. length (cond c (x ∷ filter p fs) (filter p fs)) ≤ 1) w few in
      absurd (omega (arith, m, n))
  one_place p (x ∷ fs) (suc i) zero a b e g h k few =
      let w : p x ≡ true = ap p (ap (λ o. unwrap_or o x) g) ∙ k in
      let m = counted p fs i a e h in
      let n : length (x ∷ filter p fs) ≤ 1 = subst (λ c. length (cond c (x ∷ filter p fs) (filter p fs)) ≤ 1) w few in
      absurd (omega (arith, m, n))
  one_place p (x ∷ fs) (suc i) (suc j) a b e g h k few =
      ap suc (one_place p fs i j a b e g h k (pick (p x) (λ c. length (cond c (x ∷ filter p fs) (filter p fs)) ≤ 1 → length (filter p fs) ≤ 1) (λ _ n. omega (arith, n)) (λ _ n. n) few))

  pub sound_object : (n : ℕ) (o : Object) → slice_get t.objects n ≡ Some o → IsSoundObject t.objects (record { number = n; object = o })
  sound_object n o e =
      let none : 0 + n ≡ n = omega arith in
      all_at (IsSoundObject t.objects) (record { number = n; object = o }) (numbered t.objects) s.metadata.objects (subst (λ (z : ℕ). Has (numbered_from 0 t.objects) (record { number = z; object = o })) none (object_among 0 n t.objects o e))

  few_masters : (o : Object) (b : Bool) → masters o ≡ cond b 1 0 → masters o ≤ 1
  few_masters o true e = omega (arith, e)
  few_masters o false e = omega (arith, e)

  find_there : (p : Reference → Bool) (xs : List Reference) (x : Reference) → Has xs x → p x ≡ true → (y : Reference) × (find p xs ≡ Some y)
  find_there p [] x m h = absurd m
  find_there p (z ∷ xs) x m h = by (p z) refl m (find_there p xs x)
    where
      by : (b : Bool) → p z ≡ b → Has (z ∷ xs) x → (Has xs x → p x ≡ true → (y : Reference) × (find p xs ≡ Some y)) → (y : Reference) × (cond b (Some z) (find p xs) ≡ Some y)
      by true w m more = (z, refl)
      by false w (inl e) more = absurd (clash (sym h ∙ ap p e ∙ w))
      by false w (inr m) more = more m h

  -- a record whose master is among these is one of their details
  child : (x : Record) → Has t.records x → (f : Reference) → Has (references t.objects) f → is_of f.object x ≡ true → is_master f.field.kind ≡ true → (id : List ℕ) → named_id f x ≡ Some id
      → (ys : List Record) → has_id ys id ≡ true → Has (details_of t ys) x
  child x m f among of k id named ys h = kept_among (λ r. in_case (master_of_object t.objects (object_number r.id)) false (λ f. refers_to_one_of ys f r)) t.records x m its_master
    where
      was : IsSoundRecord (known t) t.objects x
      was = all_at (IsSoundRecord (known t) t.objects) x t.records s.records.each m

      n : ℕ
      n = object_number x.id

      o : Numbered
      o = record { number = n; object = was.object }

      mine : f.object ≡ n
      mine = sym (eqb-true n f.object of)

      own : Has (references_of o) f
      own = own_reference t f among n was.object mine was.there

      first : (g : Reference) × (master_of_object t.objects n ≡ Some g)
      first = find_there (masters_of n) (references t.objects) f among (both (f.object == n) (is_master f.field.kind) (eq-eqb f.object n mine) k)

      same_place : first.0.position ≡ f.position
      same_place =
          let p = found_among (masters_of n) (references t.objects) first.0 first.1 in
          let its = eqb-true first.0.object n (both_left (first.0.object == n) (is_master first.0.field.kind) p.1) in
          let a = reference_place o first.0 (own_reference t first.0 p.0 n was.object its was.there) in
          let b = reference_place o f own in
          let few = few_masters was.object (by_parent was.object.access) (sound_object n was.object was.there).master in
          let e = one_place (λ (f : Field). is_master f.kind) was.object.fields a.place b.place first.0.field f.field a.field b.field (both_right (first.0.object == n) (is_master first.0.field.kind) p.1) k few in
          omega (arith, a.is, b.is, e)

      its_master : in_case (master_of_object t.objects (object_number x.id)) false (λ f. refers_to_one_of ys f x) ≡ true
      its_master =
          let named_first : named_id first.0 x ≡ Some id = ap (λ (p : ℕ). ref_of (value_at x.values p)) same_place ∙ named in
          ap (λ z. in_case z false (λ (f : Reference). refers_to_one_of ys f x)) first.1 ∙ ap (λ z. in_case z false (has_id ys)) named_first ∙ h

  pub closed_going : (r x : Record) → Has t.records x → has_id (cascade t r) x.id ≡ false → (f : Reference) → Has (references t.objects) f → is_of f.object x ≡ true → is_master f.field.kind ≡ true
      → (id : List ℕ) → named_id f x ≡ Some id → has_id (cascade t r) id ≡ true → ⊥
  unfolding cascade
  closed_going r x m stays f among of k id named goes =
      let one : List Record = r ∷ [] in
      let a = details_of t one in
      let b = details_of t a in
      let c = details_of t b in
      let y = among_any (λ (z : Record). bytes_eq z.id id) (one ++ (a ++ (b ++ c))) goes in
      let down : (ys : List Record) → Has ys y.0 → Has (details_of t ys) x = λ ys w. child x m f among of k id named ys (any_among (λ (z : Record). bytes_eq z.id id) y.0 ys w y.2) in
      let out : Has (one ++ (a ++ (b ++ c))) x → ⊥ = λ w. clash (sym (any_among (λ (z : Record). bytes_eq z.id x.id) x (one ++ (a ++ (b ++ c))) w (same_itself x.id)) ∙ stays) in
      elim (among_either one (a ++ (b ++ c)) y.0 y.1) [
        | inl w ↦ out (among_right one (a ++ (b ++ c)) x (among_left a (b ++ c) x (down one w)))
        | inr w ↦ elim (among_either a (b ++ c) y.0 w) [
          | inl w ↦ out (among_right one (a ++ (b ++ c)) x (among_right a (b ++ c) x (among_left b c x (down a w))))
          | inr w ↦ elim (among_either b c y.0 w) [
            | inl w ↦ out (among_right one (a ++ (b ++ c)) x (among_right a (b ++ c) x (among_right b c x (down b w))))
            | inr w ↦
                let was = all_at (IsSoundRecord (known t) t.objects) x t.records s.records.each m in
                let most = (sound_object (object_number x.id) was.object was.there).level in
                let least = deep 4 one x (down c w) in
                omega (arith, most, least)
          ]
        ]
      ]

-- ---- the request
pub delete_sound : (a : Asked) (object key : List ℕ) → is_moment a.now ≡ true → HasSoundParts a.tenant → HasSoundParts (delete a object key).tenant
delete_sound a object key day s =
    when_object HasSoundParts a.tenant object (λ o. on_named a o key Full (delete_record a)) s (λ o at.
    when_named HasSoundParts a o key Full (delete_record a) s (λ r among of.
    let gone = cascade a.tenant r in
    when_judged HasSoundParts a.tenant (restricted_by a.tenant gone ∷ too_many a.tenant gone ∷ []) (accept done (without a.now gone a.tenant)) s (λ h.
    without_sound a.tenant s a.now day gone h.0 (closed_going a.tenant s r))))
