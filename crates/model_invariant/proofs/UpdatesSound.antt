-- What an update leaves is sound.
use Rattle.std.proofs.Common.{◌≡◌, ℕ, suc, Bool, true, false, not, ◌&&◌, ◌||◌, ◌==◌, cond, List, [], ◌∷◌, map, filter, Option, Some, None, is_some, is_none, refl, ap, sym, subst, ◌∙◌, eq-eqb, arith, ◌⊎◌, inl, inr, bytes_eq, nat_cmp, slice_get}
use Rattle.std.specs.List.{list_all}
use Rattle.std.specs.Option.{option_and_then, unwrap_or}
use Rattle.std.specs.Cmp.Lexicographic.{slice_cmp}
use Rattle.std.proofs.lemmas.Bool.{eqb-true, true≢false as clash}
use Rattle.std.proofs.lemmas.List.{length-map}
use Rattle.base_lemmas.proofs.Bools.{by_answer as pick}
use Rattle.base_lemmas.proofs.Texts.{same_from_bytes_eq as same_exact}
use Rattle.base_value.specs.Conversion.{convert}
use Rattle.base_value.specs.Id.{id_in}
use Rattle.base_value.specs.Values.{equal, same_value}
use Rattle.base_value.specs.declared.sharing.Level.{Level}
use Rattle.base_value.specs.declared.sharing.Level.TheVariants.{Edit}
use Rattle.base_value.specs.declared.value.Value.{Value}
use Rattle.base_value.specs.declared.value.Value.TheVariants as value
use Rattle.formula.specs.Meaning.{value_at}
use Rattle.model.specs.declared.record.Record.{Record}
use Rattle.model.specs.declared.refusal.Refusal.TheVariants as refusal
use Rattle.model.specs.Cases.{in_case}
use Rattle.model.specs.Edits.{bad_owner, bad_reference, same_owner, with_given}
use Rattle.model.specs.Fields.{is_null, ref_of}
use Rattle.model.specs.declared.record_bodies.Assignment.{Assignment}
use Rattle.model.specs.Keys.{Key, with_key}
use Rattle.model.specs.Known.{Grows, KeepsPeople, known}
use Rattle.model.specs.Membership.{Has}
use Rattle.model.specs.Objects.{Numbered, is_of, object_number, record_at}
use Rattle.model.specs.Paths.{Asked}
use Rattle.model.specs.Relationships.{references_of}
use Rattle.model.specs.Rights.{denied, on_named, on_readable, record_of_object}
use Rattle.model.specs.Rules.{first_of, refuse_if}
use Rattle.model_invariant.proofs.SoundParts.{HasSoundParts}
use Rattle.model.specs.SoundJob.{HasSoundJob, IsSoundJob, copies}
use Rattle.model.specs.SoundRecords.{HasSoundRecords, IsSoundRecord, UniqueHold, all_valid, is_sound_owner, is_sound_reference, kinds_of, record_id, those_of}
use Rattle.model.specs.SoundSharing.{HasSoundShares}
use Rattle.model.specs.Tenant.{Field, Job, Object, Share, Tenant}
use Rattle.model.specs.Updates.{conflicts, is_copied, update, update_on, update_rules, with_changed}
use Rattle.model.specs.Verdict.{Verdict, accept, done, judged, refuse, upserted}
use Rattle.model_invariant.specs.Fit.{IsCaller, OfObjects, ReadsWell}
use Rattle.model_invariant.proofs.Parts.{all_at, all_map, among_kept, among_map, count_same, has_same, kept_among, list_all_at, list_all_from, none_refuses, unrefused}
use Rattle.model_invariant.proofs.Orders.{rise_map}
use Rattle.model_invariant.proofs.Growing.{groups_more, numbers_less, record_more, roles_more, rules_more, shares_more, users_more}
use Rattle.model_invariant.proofs.PeopleSound.{when_judged}
use Rattle.model_invariant.proofs.Roles.{found_at}
use Rattle.model_invariant.proofs.SharingSound.{shares_kept, when_object, when_readable}
use Rattle.model_invariant.proofs.ContentSound.{owner_sound, references_sound, unique_sound}
use Rattle.model_invariant.proofs.RecordsSound.{equal_turned, not_null}

-- ---- other records and shares: the rest stays
pub records_edited : (t : Tenant) (rs : List Record) (shares : List Share) → HasSoundParts t → let u = record t { records = rs; shares = shares } in
    ((i : List ℕ) → (known u).item i ≡ true → (known t).item i ≡ true) → HasSoundRecords (known u) t.objects rs → HasSoundShares (known u) t.objects shares → HasSoundJob t.counter t.objects rs t.job → HasSoundParts u
records_edited t rs shares s back records_sound shares_sound job =
    let k = known t in
    let l = known (record t { records = rs; shares = shares }) in
    let g : KeepsPeople k l = record { counter = omega arith; user = λ i h. h; role = λ i h. h; group = λ i h. h } in
    record {
      name = s.name;
      counter = s.counter;
      numbers = numbers_less k l (λ i h. less (k.user i) (k.role i) (k.group i) (l.item i) (k.item i) (back i) h) s.numbers;
      users = users_more k l g t.users s.users;
      roles = roles_more k l g t.roles s.roles;
      groups = groups_more k l g t.groups s.groups;
      metadata = s.metadata;
      records = records_sound;
      rules = rules_more k l g t.objects t.rule_numbers t.sharing_rules s.rules;
      shares = shares_sound;
      job = job;
    }
  where
    less : (a b c d e : Bool) → (d ≡ true → e ≡ true) → (a || (b || (c || d))) ≡ true → (a || (b || (c || e))) ≡ true
    less true b c d e f h = refl
    less false true c d e f h = refl
    less false false true d e f h = refl
    less false false false d e f h = f h

-- ---- one record changed in its place
module _ (t : Tenant) (s : HasSoundParts t) (old : Record) (among : Has t.records old) (new : Record) (same_id : new.id ≡ old.id) where
  abbrev f : Record → Record
  f r = cond (bytes_eq r.id new.id) new r

  kept_id : (r : Record) → (f r).id ≡ r.id
  kept_id r = pick (bytes_eq r.id new.id) (λ b. (cond b new r).id ≡ r.id) (λ e. sym (same_exact r.id new.id e)) (λ _. refl)

  -- a record afterwards is the new one, or was inr under another id
  cases : (x : Record) → Has (map f t.records) x → (x ≡ new) ⊎ (Has t.records x × (bytes_eq x.id new.id ≡ false))
  cases x m =
      let r = among_map f t.records x m in
      pick (bytes_eq r.0.id new.id) (λ b. x ≡ cond b new r.0 → (x ≡ new) ⊎ (Has t.records x × (bytes_eq x.id new.id ≡ false)))
      (λ _ e. inl e)
      (λ w e. inr (subst (λ (z : Record). Has t.records z) (sym e) r.1, ap (λ (z : Record). bytes_eq z.id new.id) e ∙ w))
      r.2

  pub record_changed : (shares : List Share) → HasSoundShares (known t) t.objects shares → IsSoundRecord (known t) t.objects new
      → ((n place : ℕ) (p : Object) (g : Field) → slice_get t.objects n ≡ Some p → slice_get p.fields place ≡ Some g → g.unique ≡ true → object_number new.id ≡ n → is_null (value_at new.values (suc place)) ≡ false
      → (x : Record) → Has (those_of n t.records) x → bytes_eq x.id new.id ≡ false → equal (value_at x.values (suc place)) (value_at new.values (suc place)) ≡ true → ⊥)
      → ((j : Job) → t.job ≡ Some j → is_of j.object new ≡ true → copies j new ≡ true)
      → HasSoundParts (record t { records = map f t.records; shares = shares })
  record_changed shares shares_sound sound unique copied =
      let k = known t in
      let u = record t { records = map f t.records; shares = shares } in
      let l = known u in
      let e : (i : List ℕ) → l.item i ≡ k.item i = has_same record_id f kept_id t.records in
      let g : Grows k l = record { people = record { counter = omega arith; user = λ i h. h; role = λ i h. h; group = λ i h. h }; item = λ i h. e i ∙ h } in
      records_edited t (map f t.records) shares s (λ i h. sym (e i) ∙ h)
      (record {
        each = all_map f (IsSoundRecord k t.objects) (IsSoundRecord l t.objects) (λ r x. record_more k l g t.objects (f r) (pick (bytes_eq r.id new.id) (λ b. IsSoundRecord k t.objects (cond b new r)) (λ _. sound) (λ _. x))) t.records s.records.each;
        rise = rise_map (slice_cmp nat_cmp) record_id f kept_id t.records s.records.rise;
        unique = still;
        few = omega (arith, length-map t.records f, s.records.few);
        few_of = λ n. omega (arith, count_same (is_of n) f (λ r. ap (λ (i : List ℕ). object_number i == n) (kept_id r)) t.records, s.records.few_of n);
      })
      (shares_more k l g t.objects shares shares_sound)
      (job_kept t.job refl s.job)
    where
      still : UniqueHold t.objects (map f t.records)
      still n place p g at field u x y a b null same =
          let m = among_kept (is_of n) (map f t.records) x a in
          let w = among_kept (is_of n) (map f t.records) y b in
          by (cases x m.0) (cases y w.0) m.1 w.1
        where
          by : (x ≡ new) ⊎ (Has t.records x × (bytes_eq x.id new.id ≡ false)) → (y ≡ new) ⊎ (Has t.records y × (bytes_eq y.id new.id ≡ false)) → is_of n x ≡ true → is_of n y ≡ true → x.id ≡ y.id
          by (inr c) (inr d) i j = s.records.unique n place p g at field u x y (kept_among (is_of n) t.records x c.0 i) (kept_among (is_of n) t.records y d.0 j) null same
          by (inl c) (inl d) i j = ap record_id (c ∙ sym d)
          by (inl c) (inr d) i j =
              absurd (unique n place p g at field u (eqb-true (object_number new.id) n (subst (λ (z : Record). is_of n z ≡ true) c i))
              (subst (λ (z : Record). is_null (value_at z.values (suc place)) ≡ false) c null) y (kept_among (is_of n) t.records y d.0 j) d.1
              (subst (λ (z : Record). equal (value_at y.values (suc place)) (value_at z.values (suc place)) ≡ true) c (equal_turned (value_at y.values (suc place)) (value_at x.values (suc place)) ∙ same)))
          by (inr c) (inl d) i j =
              absurd (unique n place p g at field u (eqb-true (object_number new.id) n (subst (λ (z : Record). is_of n z ≡ true) d j))
              (subst (λ (z : Record). is_null (value_at z.values (suc place)) ≡ false) d (not_null (value_at x.values (suc place)) (value_at y.values (suc place)) same null)) x (kept_among (is_of n) t.records x c.0 i) c.1
              (subst (λ (z : Record). equal (value_at x.values (suc place)) (value_at z.values (suc place)) ≡ true) d same))

      job_kept : (job : Option Job) → t.job ≡ job → HasSoundJob t.counter t.objects t.records job → HasSoundJob t.counter t.objects (map f t.records) job
      job_kept None e h = tt
      job_kept (Some j) e h =
          record {
            field = h.field;
            there = h.there;
            change = h.change;
            cursor = h.cursor;
            failed = h.failed;
            open_in_copy = h.open_in_copy;
            failed_where = h.failed_where;
            copied = list_all_from (copies j) (those_of j.object (map f t.records)) (λ y m. let w = among_kept (is_of j.object) (map f t.records) y m in by y w.1 (cases y w.0));
          }
        where
          by : (y : Record) → is_of j.object y ≡ true → (y ≡ new) ⊎ (Has t.records y × (bytes_eq y.id new.id ≡ false)) → copies j y ≡ true
          by y of (inl c) = subst (λ (z : Record). copies j z ≡ true) (sym c) (copied j e (subst (λ (z : Record). is_of j.object z ≡ true) c of))
          by y of (inr d) = list_all_at (copies j) y (those_of j.object t.records) h.copied (kept_among (is_of j.object) t.records y d.0 of)

-- ---- a record that is named in a request
pub when_named : (P : Tenant → Type 0) (a : Asked) (o : Numbered) (text : List ℕ) (least : Level) (verdict : Record → Verdict) → P a.tenant
    → ((r : Record) → Has a.tenant.records r → is_of o.number r ≡ true → P (verdict r).tenant) → P (on_named a o text least verdict).tenant
when_named P a o text least verdict h g = by (id_in text)
  where
    found : (id : List ℕ) (r : Record) (x : Option Record) → record_at a.tenant id ≡ x → option_and_then (λ r. cond (is_of o.number r) (Some r) None) x ≡ Some r → Has a.tenant.records r × (is_of o.number r ≡ true)
    found id r None e w = absurd cc
    found id r (Some x) e w = its (is_of o.number x) refl w
      where
        its : (b : Bool) → is_of o.number x ≡ b → cond b (Some x) None ≡ Some r → Has a.tenant.records r × (is_of o.number r ≡ true)
        its true t w = let same : x ≡ r = ap (λ z. unwrap_or z x) w in (subst (λ (z : Record). Has a.tenant.records z) same (found_at record_id a.tenant.records id x e).0, subst (λ (z : Record). is_of o.number z ≡ true) same t)
        its false t w = absurd cc

    by : (id : Option (List ℕ)) → P (in_case id (refuse a.tenant (refusal.MalformedId text)) (λ id. on_readable a (record_of_object a.tenant o.number id) (λ r. judged a.tenant (denied a least r ∷ []) (verdict r)))).tenant
    by None = h
    by (Some id) =
        when_readable P a (record_of_object a.tenant o.number id) (λ r. judged a.tenant (denied a least r ∷ []) (verdict r)) h (λ r e.
        let it = found id r (record_at a.tenant id) refl e in
        when_judged P a.tenant (denied a least r ∷ []) (verdict r) h (λ _. g r it.0 it.1))

same_ref : (v : Value) (id : List ℕ) → same_value v (value.Ref id) ≡ true → ref_of v ≡ Some id
same_ref (value.Ref a) id e = ap (λ (z : List ℕ). Some z) (same_exact a id e)
same_ref v id e = absurd cc

pub update_on_sound : (a : Asked) (o : Numbered) (key : Option Key) (given : List Assignment) (old : Record) → slice_get a.tenant.objects o.number ≡ Some o.object → Has a.tenant.records old → is_of o.number old ≡ true → IsCaller a
    → ReadsWell a o.object (with_key key given) → HasSoundParts a.tenant → HasSoundParts (update_on a o key given old).tenant
update_on_sound a o key given old at among of caller reads s =
    let t = a.tenant in
    let k = known t in
    let new = with_given a o.object (with_key key given) old in
    let was = all_at (IsSoundRecord k t.objects) old t.records s.records.each among in
    let number : object_number old.id ≡ o.number = eqb-true (object_number old.id) o.number of in
    let object : was.object ≡ o.object = out was.object o.object (sym was.there ∙ ap (slice_get t.objects) number ∙ at) in
    let same : record { number = object_number old.id; object = was.object } ≡ o = λ i. record { number = number i; object = object i } in
    when_judged HasSoundParts t (update_rules a o key given old new) (accept (in_case key done (λ k. upserted old.id false)) (with_changed old new t)) s (λ h.
    let fit = reads h.1.0 old (subst (λ (z : Numbered). all_valid (kinds_of z.object) old.values ≡ true) same was.values) in
    let target = h.1.1.1.1.0 in
    let owner = owner_sound t o.object (with_key key given) old new refl (subst (λ (z : Object). is_sound_owner k z old.owner ≡ true) object was.owner)
    (none_refuses (bad_owner t old new ∷ first_of (bad_reference a old new) (references_of o) ∷ []) target).0 in
    let before = subst (λ (z : Numbered). list_all (is_sound_reference k old.values) (references_of z) ≡ true) same was.references in
    let references = references_sound a o old new target h.1.1.1.0 fit (λ f m id e.
    let w = same_ref (value_at old.values f.position) id e in
    let b = list_all_at (is_sound_reference k old.values) f (references_of o) before m in
    rw w at b) in
    let sound : IsSoundRecord k t.objects new =
    record {
      object = o.object;
      there = ap (slice_get t.objects) number ∙ at;
      number = was.number;
      drawn = was.drawn;
      id = was.id;
      owner = owner;
      created = was.created;
      modified = caller.1;
      values = fit;
      references = subst (λ (n : ℕ). list_all (is_sound_reference k new.values) (references_of (record { number = n; object = o.object })) ≡ true) (sym number) references;
    } in
    record_changed t s old among new refl
    (cond (same_owner old new) t.shares (filter (λ s. not (bytes_eq s.item new.id)) t.shares))
    (pick (same_owner old new) (λ b. HasSoundShares k t.objects (cond b t.shares (filter (λ s. not (bytes_eq s.item new.id)) t.shares))) (λ _. s.shares) (λ _. shares_kept t (λ s. not (bytes_eq s.item new.id)) s.shares))
    sound
    (λ n place p g e field u is null x m other equals.
    let here_is : o.number ≡ n = sym number ∙ is in
    let own : o.object ≡ p = out o.object p (sym at ∙ ap (slice_get t.objects) here_is ∙ e) in
    clash (sym equals ∙ unique_sound a o new place g h.1.1.1.1.1.1.1.1.0 (ap (λ (z : Object). slice_get z.fields place) own ∙ field) u null x (subst (λ (z : ℕ). Has (those_of z t.records) x) (sym here_is) m) other))
    (λ j e mine.
    let it : j.object ≡ o.number = sym (eqb-true (object_number old.id) j.object mine) ∙ number in
    convert_still j e it (subst (λ (z : Option Job). in_case z None (λ j. in_case (slice_get o.object.fields j.field) None (λ f. refuse_if (conflicts o new j) (refusal.RetypeConflict f.name))) ≡ None) e h.1.1.1.1.1.1.0)
    (subst (λ (z : Option Job). HasSoundJob t.counter t.objects t.records z) e s.job)))
  where
    out : (a b : Object) → Some a ≡ Some b → a ≡ b
    out a b e = ap (λ w. unwrap_or w a) e

    parts : (a b : Bool) (c : Option Value) → a ≡ true → (a && (b && is_none c)) ≡ false → (not b || is_some c) ≡ true
    parts true true None e h = absurd cc
    parts true true (Some v) e h = refl
    parts true false c e h = refl
    parts false b c e h = absurd cc

    convert_still : (j : Job) → a.tenant.job ≡ Some j → j.object ≡ o.number
        → in_case (slice_get o.object.fields j.field) None (λ f. refuse_if (conflicts o (with_given a o.object (with_key key given) old) j) (refusal.RetypeConflict f.name)) ≡ None
        → IsSoundJob a.tenant.counter a.tenant.objects a.tenant.records j → copies j (with_given a o.object (with_key key given) old) ≡ true
    convert_still j e it rule h =
        let new = with_given a o.object (with_key key given) old in
        let field : slice_get o.object.fields j.field ≡ Some h.field
        = ap (option_and_then (λ (x : Object). slice_get x.fields j.field)) (sym (ap (slice_get a.tenant.objects) it ∙ at)) ∙ h.there in
        let asked : refuse_if (conflicts o new j) (refusal.RetypeConflict h.field.name) ≡ None
        = subst (λ (z : Option Field). in_case z None (λ f. refuse_if (conflicts o new j) (refusal.RetypeConflict f.name)) ≡ None) field rule in
        let no = unrefused (conflicts o new j) (refusal.RetypeConflict h.field.name) asked in
        parts (j.object == o.number) (is_copied j.phase j.cursor old.id) (convert j.to (value_at new.values (suc j.field))) (eq-eqb j.object o.number it) no

pub update_sound : (a : Asked) (object key : List ℕ) (given : List Assignment) → IsCaller a → OfObjects a (λ o. ReadsWell a o given) → HasSoundParts a.tenant → HasSoundParts (update a object key given).tenant
update_sound a object key given caller reads s =
    when_object HasSoundParts a.tenant object (λ o. on_named a o key Edit (update_on a o None given)) s (λ o at.
    when_named HasSoundParts a o key Edit (update_on a o None given) s (λ r among of. update_on_sound a o None given r at among of caller (reads o.number o.object at) s))
