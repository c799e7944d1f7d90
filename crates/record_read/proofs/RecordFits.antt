-- The row of a sound record fits its form.
use Rattle.std.proofs.Common.{◌≡◌, ℕ, zero, suc, ◌+◌, ◌/◌, ◌%◌, ◌<◌, ◌^◌, Bool, true, false, not, cond, IsTrue, List, [], ◌∷◌, map, length, Option, Some, None, refl, sym, subst, ◌∙◌, arith, lit<, w64, ℤ, pos, negsuc}
use Rattle.std.specs.Prelude.{FitsSigned, IfSome, is_some, int_le, nat_le, unsigned_abs}
use Rattle.std.specs.List.{AllByRecursion, list_all, range_with_len}
use Rattle.std.specs.Str.{bytes_eq}
use Rattle.std.proofs.Math.Nat.{mod-lt}
use Rattle.std.proofs.lemmas.Bool.Decides.{nat_tests}
use Rattle.std.proofs.lemmas.Int.{fits_signed_from_abs}
use Rattle.std.proofs.lemmas.List.Elements.{All-from_recursion}
use Rattle.std.proofs.lemmas.List.FromFn.{length-map-range_with_len}
use Rattle.std.proofs.lemmas.Option.{slice_get_within}
use Rattle.std.proofs.lemmas.Slice.Eq.{bytes_eq-Decides}
use Rattle.base_lemmas.proofs.Bools.{and_first as and_left, and_second as and_right}
use Rattle.base_value.specs.Dates.{first_moment, is_moment, last_moment}
use Rattle.base_value.specs.Digits.{digits}
use Rattle.base_value.specs.Id.{digit62, is_digit62, is_id, made}
use Rattle.base_value.specs.Values.{valid}
use Rattle.base_value.specs.declared.value.FieldType.TheVariants as type
use Rattle.base_value.specs.declared.value.Value.{Value}
use Rattle.formula.specs.Meaning.{value_at}
use Rattle.model.specs.declared.record.Record.{Record}
use Rattle.model.specs.Fields.{is_detail}
use Rattle.model.specs.Known.{Known, known}
use Rattle.model.specs.Membership.{Has}
use Rattle.model.specs.Objects.{is_of, object_number, object_numbered, record_prefix}
use Rattle.model.specs.Sound.{IsSound}
use Rattle.model.specs.SoundPeople.{IsSoundUser}
use Rattle.model.specs.SoundRecords.{all_valid, is_sound_owner, kinds_of}
use Rattle.model.specs.Tenant.{Object, Tenant, User}
use Rattle.model.specs.World.{user_at, user_prefix}
use Rattle.store_codec.specs.Plain.{FitsText}
use Rattle.store_rows.specs.Forms.{FitsForm}
use Rattle.store_rows.specs.Rows.{data_form}
use Rattle.store_abstraction.specs.Entries.{data_of, entry_text, slot_entry, slots_of}
use Rattle.store_abstraction.specs.Plan.{FitsPlan, OrgPlan, slot_count}
use Rattle.record_read.proofs.Fits.{PrintsShort, name_fits}
use Rattle.record_read.proofs.RowFits.{ConvertsValid, entry_fits}
use Rattle.record_read.proofs.Sound.{sound_record, values_valid}

-- ---- ids

-- what makes ids, as `base_value` says
abbrev pub MakesIds : Type 0
MakesIds = (prefix : List ℕ) (n : ℕ) → length prefix ≡ 3 → IsTrue (list_all is_digit62 prefix) → IsTrue (is_id (made prefix n))

digit_is : (d : ℕ) → d < 62 → is_digit62 (digit62 d) ≡ true
digit_is d lt = grind (arith, nat_tests)

prefix_long : (n : ℕ) → length (record_prefix n) ≡ 3
unfolding record_prefix digits
prefix_long n = refl

prefix_digits : (n : ℕ) → list_all is_digit62 (record_prefix n) ≡ true
unfolding record_prefix digits
prefix_digits n = rw (digit_is (n / 62 ^ 1 % 62) (mod-lt (n / 62 ^ 1) (lit< tt)), digit_is (n / 62 ^ 0 % 62) (mod-lt (n / 62 ^ 0) (lit< tt))) refl

pub record_is_id : MakesIds → (t : Tenant) (r : Record) → IsSound t → Has t.records r → IsTrue (is_id r.id)
record_is_id makes t r sound has =
    let one = sound_record t r sound has in
    let n = object_number r.id in
    subst (λ (i : List ℕ). IsTrue (is_id i)) (sym one.id) (makes (record_prefix n) one.number (prefix_long n) (prefix_digits n))

user_is_id : MakesIds → (k : Known) (us : List User) (id : List ℕ) → AllByRecursion (IsSoundUser k) us → is_some (user_at us id) ≡ true → IsTrue (is_id id)
user_is_id makes k [] id all h = absurd cc
user_is_id makes k (u ∷ us) id all h = by (λ f. user_is_id makes k us id all.1 f) (bytes_eq id u.id) refl
  where
    by : (is_some (user_at us id) ≡ true → IsTrue (is_id id)) → (b : Bool) → bytes_eq id u.id ≡ b → IsTrue (is_id id)
    by rest true e =
        let drawn = all.0.id in
        let same : id ≡ made user_prefix drawn.0 = (bytes_eq-Decides id u.id).0 e ∙ drawn.2 in
        subst (λ (i : List ℕ). IsTrue (is_id i)) (sym same) (makes user_prefix drawn.0 refl refl)
    by rest false e = rest (subst (λ (b : Bool). is_some (cond b (Some u) (user_at us id)) ≡ true) e h)

owner_is_id : MakesIds → (t : Tenant) (o : Object) (owner : Option (List ℕ)) → IsSound t → is_sound_owner (known t) o owner ≡ true → IfSome owner (λ i. IsTrue (is_id i))
owner_is_id makes t o None sound h = tt
owner_is_id makes t o (Some i) sound h = user_is_id makes (known t) t.users i sound.users.each (and_right (not (is_detail o)) (is_some (user_at t.users i)) h)

-- ---- moments

moment_small : (z : ℤ) → is_moment z ≡ true → unsigned_abs z < 2 ^ 63
moment_small (pos n) h = let most : nat_le n 253402300799 ≡ true = and_right (int_le first_moment (pos n)) (int_le (pos n) last_moment) h in below n most
  where
    below : (n : ℕ) → nat_le n 253402300799 ≡ true → n < 2 ^ 63
    below n h = grind (arith, nat_tests)
moment_small (negsuc n) h = let least : nat_le n 62135596799 ≡ true = and_left (int_le first_moment (negsuc n)) (int_le (negsuc n) last_moment) h in above n least
  where
    above : (n : ℕ) → nat_le n 62135596799 ≡ true → suc n < 2 ^ 63
    above n h = grind (arith, nat_tests)

pub moment_fits : (z : ℤ) → is_moment z ≡ true → FitsSigned w64 z
moment_fits z h = fits_signed_from_abs w64 z (moment_small z h)

-- ---- slots

pub each_range : {X : Type 0} (P : X → Type 0) (f : ℕ → X) (a n : ℕ) → ((i : ℕ) → P (f i)) → AllByRecursion P (map f (range_with_len a n))
each_range P f a zero h = tt
each_range P f a (suc n) h = (h a, each_range P f (a + 1) n h)

first_valid : (o : Object) (values : List Value) → all_valid (kinds_of o) values ≡ true → valid (type.Text 80) (value_at values 0) ≡ true
first_valid o [] h = absurd cc
first_valid o (v ∷ vs) h = and_left (valid (type.Text 80) v) (all_valid (map (λ f. f.kind) o.fields) vs) h

pub record_fits : MakesIds → ConvertsValid → PrintsShort → (org n : ℕ) (p : OrgPlan) (t : Tenant) (o : Object) (r : Record)
    → org < 2 ^ 32 → IsSound t → FitsPlan p t → object_numbered t n ≡ Some o → Has t.records r → IsTrue (is_of n r)
    → FitsForm data_form (data_of org n r (slot_entry p t.job n o r))
unfolding slots_of
record_fits makes converts prints org n p t o r lo sound fits is has of =
    let one = sound_record t r sound has in
    let few : n < length t.objects = slice_get_within t.objects n o is in
    let E = slot_entry p t.job n o r in
    let texts = All-from_recursion (λ x. IfSome x FitsText) (map (λ s. entry_text (E s)) (range_with_len 0 slot_count)) (each_range (λ x. IfSome x FitsText) (λ s. entry_text (E s)) 0 slot_count (λ s. entry_fits converts prints p t n o r sound fits is has of s)) in (
      (lo, (omega (arith, few, sound.metadata.few), record_is_id makes t r sound has)),
      (name_fits prints (value_at r.values 0) (first_valid o r.values (values_valid t n o r sound is has of)), (owner_is_id makes t one.object r.owner sound one.owner, (moment_fits r.created one.created, (moment_fits r.modified one.modified, (length-map-range_with_len (λ s. entry_text (E s)) 0 slot_count, texts))))),
    )
