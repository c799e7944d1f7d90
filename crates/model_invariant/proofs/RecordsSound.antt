-- What the edits of records leave is sound.
use Rattle.std.proofs.Common.{◌≡◌, ℕ, suc, ◌+◌, ◌*◌, ◌/◌, ◌%◌, ◌<◌, ◌≤◌, Bool, true, false, not, ◌||◌, List, length, Option, Some, None, refl, ap, sym, subst, ◌∙◌, ap₂, div-one, arith, ◌⊎◌, inl, inr, nat_cmp, slice_get, bytes_eq, Less, Equal, Greater, Ordering, is_eq, is_le}
use Rattle.std.specs.List.{list_all}
use Rattle.std.specs.Ordering.{ordering_reverse, int_cmp, bool_cmp}
use Rattle.std.specs.Option.{unwrap_or}
use Rattle.std.specs.Cmp.{IsTotalOrder, bool_cmp_total}
use Rattle.std.specs.Cmp.Lexicographic.{slice_cmp}
use Rattle.std.proofs.lemmas.Cmp.{int_cmp_total, nat_list_cmp_total, on_total}
use Rattle.std.proofs.lemmas.Bool.{eqb-true, or_cases, true≢false as clash, or_left, or_right}
use Rattle.std.proofs.lemmas.Bool.Decides.{nat_tests}
use Rattle.std.proofs.lemmas.Map.Text.{is_eq-slice_cmp}
use Rattle.std.proofs.lemmas.Option.{IfSome_then, slice_get_within}
use Rattle.base_lemmas.proofs.Texts.{same_from_bytes_eq as same_exact}
use Rattle.base_value.specs.Digits.{digits}
use Rattle.base_value.specs.Id.{digit62, made, number62, value62}
use Rattle.caseless.specs.Caseless.{default_case_fold}
use Rattle.base_value.specs.Texts.{text_cmp}
use Rattle.base_value.specs.Values.{equal}
use Rattle.base_value.specs.declared.job.Phase.{Phase}
use Rattle.base_value.specs.declared.job.Phase.TheVariants as phase
use Rattle.base_value.specs.declared.value.Value.{Value}
use Rattle.base_value.specs.declared.value.Value.TheVariants as value
use Rattle.model.specs.declared.record.Record.{Record}
use Rattle.model.specs.Creates.{with_record}
use Rattle.formula.specs.Meaning.{value_at}
use Rattle.model.specs.Fields.{is_null}
use Rattle.model.specs.Known.{Grows, known, names_any}
use Rattle.model.specs.Membership.{Has}
use Rattle.model.specs.Objects.{Numbered, is_of, object_number, record_prefix}
use Rattle.model.specs.Ordered.{put_in}
use Rattle.model_invariant.proofs.SoundParts.{HasSoundParts}
use Rattle.model.specs.SoundJob.{HasSoundJob, IsSoundJob, copies}
use Rattle.model.specs.SoundRecords.{IsSoundRecord, UniqueHold, record_id, those_of}
use Rattle.model.specs.SoundSharing.{IsCursor}
use Rattle.model.specs.Tenant.{Field, Job, Object, Tenant}
use Rattle.model.specs.Updates.{is_copied}
use Rattle.model_invariant.proofs.Parts.{all_from, all_put, among_has, among_kept, among_put, count_put, count_put_out, has_put, kept_among, length_put, list_all_at, list_all_from, put_has}
use Rattle.model_invariant.proofs.Orders.{rise_put}
use Rattle.model_invariant.proofs.Growing.{IdLaws, cursor_more, each_record_more, groups_more, numbers_more, roles_more, rules_more, shares_more, unnamed_yet, users_more, record_prefix_size}

-- ---- the object of a record's id
digit_back : (d : ℕ) → d < 62 → value62 (digit62 d) ≡ d
digit_back d h = grind (arith, nat_tests)

pub object_of_made : (n c : ℕ) → n < 3844 → object_number (made (record_prefix n) c) ≡ n
unfolding object_number made record_prefix digits number62
object_of_made n c h =
    let one = digit_back (n / 62 % 62) (omega arith) in
    let two = digit_back (n / 1 % 62) (omega arith) in
    let same : n / 1 ≡ n = div-one n in
    let sum : value62 (digit62 (n / 62 % 62)) * 62 + (value62 (digit62 (n / 1 % 62)) * 1 + 0) ≡ n = omega (arith, one, two, same) in
    sum

-- ---- equal values
eq_turned : (o : Ordering) → is_eq (ordering_reverse o) ≡ is_eq o
eq_turned Less = refl
eq_turned Equal = refl
eq_turned Greater = refl

turned : {K : Type 0} (R : K → K → Ordering) → IsTotalOrder R → (a b : K) → is_eq (R a b) ≡ is_eq (R b a)
turned R o a b = ap is_eq (o.antisymm a b) ∙ eq_turned (R b a)

pub equal_turned : (a b : Value) → equal a b ≡ equal b a
equal_turned (value.Text a) (value.Text b) = turned text_cmp (on_total default_case_fold nat_list_cmp_total) a b
equal_turned (value.Num a) (value.Num b) = turned int_cmp int_cmp_total a b
equal_turned (value.Bool a) (value.Bool b) = turned bool_cmp bool_cmp_total a b
equal_turned (value.Day a) (value.Day b) = turned int_cmp int_cmp_total a b
equal_turned (value.Moment a) (value.Moment b) = turned int_cmp int_cmp_total a b
equal_turned (value.Ref a) (value.Ref b) = turned (slice_cmp nat_cmp) nat_list_cmp_total a b
equal_turned value.Null value.Null = refl
equal_turned a b = refl

pub not_null : (a b : Value) → equal a b ≡ true → is_null a ≡ false → is_null b ≡ false
not_null value.Null value.Null e h = absurd cc
not_null (value.Text x) value.Null e h = absurd cc
not_null (value.Num x) value.Null e h = absurd cc
not_null (value.Bool x) value.Null e h = absurd cc
not_null (value.Day x) value.Null e h = absurd cc
not_null (value.Moment x) value.Null e h = absurd cc
not_null (value.Ref x) value.Null e h = absurd cc
not_null a b e h = refl

-- ---- one more record
abbrev pub id_order : Record → Record → Ordering
id_order a b = slice_cmp nat_cmp a.id b.id

module _ (ids : IdLaws) (t : Tenant) (s : HasSoundParts t) (o : Numbered) (at : slice_get t.objects o.number ≡ Some o.object) (r : Record) (is : r.id ≡ made (record_prefix o.number) t.counter) where
  pub item_grows : Grows (known t) (known (with_record r t))
  item_grows = record { people = record { counter = omega arith; user = λ i h. h; role = λ i h. h; group = λ i h. h }; item = put_has id_order r record_id t.records }

  item_back : (i : List ℕ) → names_any (known (with_record r t)) i ≡ true → (names_any (known t) i ≡ true) ⊎ (i ≡ made (record_prefix o.number) t.counter)
  item_back i h =
      let k = known t in
      let l = known (with_record r t) in
      elim (or_cases (k.user i) (k.role i || (k.group i || l.item i)) h) [
        | inl a ↦ inl (or_left (k.user i) (k.role i || (k.group i || k.item i)) a)
        | inr a ↦ elim (or_cases (k.role i) (k.group i || l.item i) a) [
          | inl b ↦ inl (or_right (k.user i) (k.role i || (k.group i || k.item i)) (or_left (k.role i) (k.group i || k.item i) b))
          | inr b ↦ elim (or_cases (k.group i) (l.item i) b) [
            | inl c ↦ inl (or_right (k.user i) (k.role i || (k.group i || k.item i)) (or_right (k.role i) (k.group i || k.item i) (or_left (k.group i) (k.item i) c)))
            | inr c ↦ elim (has_put record_id id_order r t.records i c) [
              | inl d ↦ inl (or_right (k.user i) (k.role i || (k.group i || k.item i)) (or_right (k.role i) (k.group i || k.item i) (or_right (k.group i) (k.item i) d)))
              | inr e ↦ inr (e ∙ is)
            ]
          ]
        ]
      ]

  number_small : o.number < 3844
  number_small = let w = slice_get_within t.objects o.number o.object at in omega (arith, w, s.metadata.few)

  pub own_object : object_number r.id ≡ o.number
  own_object = ap object_number is ∙ object_of_made o.number t.counter number_small

  fresh_id : (y : Record) → Has t.records y → r.id ≡ y.id → ⊥
  fresh_id y m same =
      let k = known t in
      let i = made (record_prefix o.number) t.counter in
      let had : k.item i ≡ true = subst (λ (j : List ℕ). k.item j ≡ true) (sym same ∙ is) (among_has record_id t.records y m) in
      unnamed_yet ids t s (record_prefix o.number) (record_prefix_size o.number)
      (or_right (k.user i) (k.role i || (k.group i || k.item i)) (or_right (k.role i) (k.group i || k.item i) (or_right (k.group i) (k.item i) had)))

  apart_ids : (y : Record) → Has t.records y → slice_cmp nat_cmp r.id y.id ≡ Equal → ⊥
  apart_ids y m e = fresh_id y m (same_exact r.id y.id (sym (is_eq-slice_cmp r.id y.id) ∙ ap is_eq e))

  pub other_id : (y : Record) → Has t.records y → bytes_eq y.id r.id ≡ false
  other_id y m = by (bytes_eq y.id r.id) refl
    where
      by : (b : Bool) → bytes_eq y.id r.id ≡ b → b ≡ false
      by true e = absurd (fresh_id y m (sym (same_exact y.id r.id e)))
      by false e = refl

  module _ (unique : (place : ℕ) (f : Field) → slice_get o.object.fields place ≡ Some f → f.unique ≡ true → is_null (value_at r.values (suc place)) ≡ false
      → (x : Record) → Has (those_of o.number t.records) x → bytes_eq x.id r.id ≡ false → equal (value_at x.values (suc place)) (value_at r.values (suc place)) ≡ false) where
    -- the new value is that of no other record
    differs : (n place : ℕ) (p : Object) (f : Field) → slice_get t.objects n ≡ Some p → slice_get p.fields place ≡ Some f → f.unique ≡ true → object_number r.id ≡ n
        → is_null (value_at r.values (suc place)) ≡ false → (x : Record) → Has (those_of n t.records) x → equal (value_at x.values (suc place)) (value_at r.values (suc place)) ≡ true → ⊥
    differs n place p f e g u of null x m h =
        let same : o.number ≡ n = sym own_object ∙ of in
        let object : o.object ≡ p = out o.object p (sym at ∙ ap (slice_get t.objects) same ∙ e) in
        clash (sym h ∙ unique place f (ap (λ (z : Object). slice_get z.fields place) object ∙ g) u null x (subst (λ (z : ℕ). Has (those_of z t.records) x) (sym same) m) (other_id x (among_kept (is_of n) t.records x m).0))
      where
        out : (a b : Object) → Some a ≡ Some b → a ≡ b
        out a b e = ap (λ w. unwrap_or w a) e

    still_unique : UniqueHold t.objects (put_in id_order r t.records)
    still_unique n place p f e g u x y a b null same =
        let m = among_kept (is_of n) (put_in id_order r t.records) x a in
        let w = among_kept (is_of n) (put_in id_order r t.records) y b in
        by (among_put id_order r t.records x m.0) (among_put id_order r t.records y w.0) m.1 w.1
      where
        by : Has t.records x ⊎ (x ≡ r) → Has t.records y ⊎ (y ≡ r) → is_of n x ≡ true → is_of n y ≡ true → x.id ≡ y.id
        by (inl c) (inl d) i j = s.records.unique n place p f e g u x y (kept_among (is_of n) t.records x c i) (kept_among (is_of n) t.records y d j) null same
        by (inr c) (inr d) i j = ap record_id (c ∙ sym d)
        by (inr c) (inl d) i j =
            absurd (differs n place p f e g u (eqb-true (object_number r.id) n (subst (λ (z : Record). is_of n z ≡ true) c i))
            (subst (λ (z : Record). is_null (value_at z.values (suc place)) ≡ false) c null) y (kept_among (is_of n) t.records y d j)
            (subst (λ (z : Record). equal (value_at y.values (suc place)) (value_at z.values (suc place)) ≡ true) c (equal_turned (value_at y.values (suc place)) (value_at x.values (suc place)) ∙ same)))
        by (inl c) (inr d) i j =
            absurd (differs n place p f e g u (eqb-true (object_number r.id) n (subst (λ (z : Record). is_of n z ≡ true) d j))
            (subst (λ (z : Record). is_null (value_at z.values (suc place)) ≡ false) d (not_null (value_at x.values (suc place)) (value_at y.values (suc place)) same null)) x (kept_among (is_of n) t.records x c i)
            (subst (λ (z : Record). equal (value_at x.values (suc place)) (value_at z.values (suc place)) ≡ true) d same))

    -- a new record is beyond every cursor
    beyond : (j : Job) → IsCursor t.counter j.object j.cursor → object_number r.id ≡ j.object → is_copied j.phase j.cursor r.id ≡ false
    beyond j c of = by j.phase j.cursor c
      where
        by : (p : Phase) (cursor : Option (List ℕ)) → IsCursor t.counter j.object cursor → is_copied p cursor r.id ≡ false
        by phase.Copy None c = refl
        by phase.Copy (Some i) c =
            let low = c.1 in
            let top : t.counter ≤ 999999999999999 = s.counter in
            let same : j.object ≡ o.number = sym of ∙ own_object in
            let cursor : i ≡ made (record_prefix o.number) c.0 = c.2 ∙ ap (λ (z : ℕ). made (record_prefix z) c.0) same in
            let more : nat_cmp t.counter c.0 ≡ Greater = grind (arith, nat_tests, low) in
            ap is_le (ap₂ (λ (a b : List ℕ). slice_cmp nat_cmp a b) is cursor ∙ ids.ordered (record_prefix o.number) t.counter c.0 (omega (arith, top)) (omega (arith, top, low)) ∙ more)
        by phase.Clear cursor c = refl
        by phase.Done cursor c = refl

    job_grown : (job : Option Job) → HasSoundJob t.counter t.objects t.records job → HasSoundJob (t.counter + 1) t.objects (put_in id_order r t.records) job
    job_grown job h =
        IfSome_then job {P = IsSoundJob t.counter t.objects t.records} {Q = IsSoundJob (t.counter + 1) t.objects (put_in id_order r t.records)} h (λ j x.
        record {
          field = x.field;
          there = x.there;
          change = x.change;
          cursor = cursor_more t.counter (t.counter + 1) j.object j.cursor (omega arith) x.cursor;
          failed = cursor_more t.counter (t.counter + 1) j.object j.failed (omega arith) x.failed;
          open_in_copy = x.open_in_copy;
          failed_where = x.failed_where;
          copied = list_all_from (copies j) (those_of j.object (put_in id_order r t.records)) (λ y m.
              let w = among_kept (is_of j.object) (put_in id_order r t.records) y m in
              new_copied j x.cursor x.copied y w.1 (among_put id_order r t.records y w.0));
        })
      where
        new_copied : (j : Job) → IsCursor t.counter j.object j.cursor → list_all (copies j) (those_of j.object t.records) ≡ true → (y : Record) → is_of j.object y ≡ true → Has t.records y ⊎ (y ≡ r) → copies j y ≡ true
        new_copied j c h y of (inl m) = list_all_at (copies j) y (those_of j.object t.records) h (kept_among (is_of j.object) t.records y m of)
        new_copied j c h y of (inr e) =
            let b = beyond j c (eqb-true (object_number r.id) j.object (subst (λ (z : Record). is_of j.object z ≡ true) e of)) in
            or_left (not (is_copied j.phase j.cursor y.id)) _ (ap (λ (z : Record). not (is_copied j.phase j.cursor z.id)) e ∙ ap not b)

    count : (n : ℕ) (b : Bool) → is_of n r ≡ b → length (those_of o.number t.records) + 1 ≤ 20000 → length (those_of n (put_in id_order r t.records)) ≤ 20000
    count n true e few =
        let same : o.number ≡ n = sym own_object ∙ eqb-true (object_number r.id) n e in
        let more = count_put id_order r (is_of n) t.records in
        let had : length (those_of o.number t.records) ≡ length (those_of n t.records) = ap (λ (z : ℕ). length (those_of z t.records)) same in
        omega (arith, more, few, had)
    count n false e few =
        let same = ap (λ (xs : List Record). length xs) (count_put_out (is_of n) id_order r t.records e) in
        omega (arith, same, s.records.few_of n)

    pub record_added : IsSoundRecord (known (with_record r t)) t.objects r → length t.records + 1 ≤ 50000 → length (those_of o.number t.records) + 1 ≤ 20000 → t.counter + 1 ≤ 999999999999999 → HasSoundParts (with_record r t)
    record_added sound few few_of more =
        let g = item_grows in
        let k = known t in
        let l = known (with_record r t) in
        let order : Record → Record → Ordering = λ a b. slice_cmp nat_cmp a.id b.id in
        record {
          name = s.name;
          counter = more;
          numbers = numbers_more ids t s l (record_prefix o.number) (record_prefix_size o.number) item_back;
          users = users_more k l g.people t.users s.users;
          roles = roles_more k l g.people t.roles s.roles;
          groups = groups_more k l g.people t.groups s.groups;
          metadata = s.metadata;
          records =
              record {
                each = all_put (IsSoundRecord l t.objects) order r t.records (each_record_more k l g t.objects t.records s.records.each) sound;
                rise = rise_put (slice_cmp nat_cmp) record_id nat_list_cmp_total order (λ x y. refl) r t.records s.records.rise (all_from (λ y. slice_cmp nat_cmp r.id y.id ≡ Equal → ⊥) t.records apart_ids);
                unique = still_unique;
                few = omega (arith, length_put order r t.records, few);
                few_of = λ n. count n (is_of n r) refl few_of;
              };
          rules = rules_more k l g.people t.objects t.rule_numbers t.sharing_rules s.rules;
          shares = shares_more k l g t.objects t.shares s.shares;
          job = job_grown t.job s.job;
        }
