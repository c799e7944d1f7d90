-- The id of a new record, and the rows that count it.
use Rattle.std.proofs.Common.{◌≡◌, ◌∙◌, inl, inr, ℕ, ◌+◌, ◌/◌, ◌%◌, ◌*◌, ◌<◌, ◌≤◌, ◌^◌, Bool, true, false, cond, eqb, is_lt, List, [], ◌∷◌, length, Option, Some, None, refl, sym, ap, ap₂, arith, div-one, bytes_eq, Ordering, nat_cmp}
use Rattle.std.specs.Prelude.{filter}
use Rattle.std.specs.Cmp.Lexicographic.{slice_cmp}
use Rattle.std.specs.declared.cmp.Ordering.TheVariants.{Less}
use Rattle.std.proofs.lemmas.Bool.Decides.{nat_tests}
use Rattle.base_lemmas.proofs.Texts.{bytes_eq_false_sym as turned, bytes_eq-self as same_text}
use Rattle.base_lemmas.proofs.Numbers.{eqb-self as eqb_same}
use Rattle.base_lemmas.proofs.Bools.{by_answer as pick}
use Rattle.store_rows.specs.declared.object.ObjectRow.{ObjectRow}
use Rattle.store_rows.specs.declared.org.OrgRow.{OrgRow}
use Rattle.model.specs.Creates.{with_record}
use Rattle.model.specs.declared.record.Record.{Record}
use Rattle.model.specs.Jobs.{is_past}
use Rattle.model.specs.Membership.{Has}
use Rattle.model.specs.Objects.{is_of, object_number, record_at, record_prefix}
use Rattle.model.specs.Ordered.{put_in}
use Rattle.model.specs.SoundSharing.{IsCursor}
use Rattle.model.specs.Tenant.{Job, Object, Tenant}
use Rattle.model.specs.World.{having_id}
use Rattle.store_abstraction.specs.Entries.{job_value}
use Rattle.store_abstraction.specs.Metadata.{org_of, row_of_object}
use Rattle.store_abstraction.specs.Plan.{OrgPlan}
use Rattle.record_index.specs.diff.Touched.{fresh_plan}
use Rattle.base_value.specs.declared.job.Phase.{Phase}
use Rattle.base_value.specs.declared.job.Phase.TheVariants as phase
use Rattle.base_value.specs.Digits.{digits}
use Rattle.base_value.specs.Id.{digit62, made, number62, value62}
use Rattle.record_save.specs.inner.Object.{object_with, row_with}

-- ---- the object of a record's id

digit_back : (d : ℕ) → d < 62 → value62 (digit62 d) ≡ d
digit_back d h = grind (arith, nat_tests)

pub object_of_made : (n c : ℕ) → n < 3844 → object_number (made (record_prefix n) c) ≡ n
unfolding object_number made record_prefix digits number62
object_of_made n c h =
    let one = digit_back (n / 62 % 62) (omega arith) in
    let two = digit_back (n / 1 % 62) (omega arith) in
    let same : n / 1 ≡ n = div-one n in
    let sum : value62 (digit62 (n / 62 % 62)) * 62 + (value62 (digit62 (n / 1 % 62)) * 1 + 0) ≡ n = omega (arith, one, two, same) in
    sum

pub new_is_of : (n c : ℕ) (r : Record) → n < 3844 → r.id ≡ made (record_prefix n) c → is_of n r ≡ true
new_is_of n c r small is = ap (λ (i : List ℕ). eqb (object_number i) n) is ∙ ap (λ (m : ℕ). eqb m n) (object_of_made n c small) ∙ eqb_same n

-- ---- counts

abbrev id_order : Record → Record → Ordering
id_order a b = slice_cmp nat_cmp a.id b.id

length_put : (r : Record) (rs : List Record) → length (put_in id_order r rs) ≡ length rs + 1
length_put r [] = refl
length_put r (x ∷ rs) = by (is_lt (id_order r x)) (length_put r rs)
  where
    by : (b : Bool) → length (put_in id_order r rs) ≡ length rs + 1 → length (cond b (r ∷ x ∷ rs) (x ∷ put_in id_order r rs)) ≡ length (x ∷ rs) + 1
    by true e = omega arith
    by false e = omega (arith, e)

pub has_put : (r : Record) (rs : List Record) → Has (put_in id_order r rs) r
has_put r [] = inl refl
has_put r (x ∷ rs) = by (is_lt (id_order r x)) (has_put r rs)
  where
    by : (b : Bool) → Has (put_in id_order r rs) r → Has (cond b (r ∷ x ∷ rs) (x ∷ put_in id_order r rs)) r
    by true h = inl refl
    by false h = inr h

count_put : (n : ℕ) (r : Record) (rs : List Record) → is_of n r ≡ true → length (filter (is_of n) (put_in id_order r rs)) ≡ length (filter (is_of n) rs) + 1
count_put n r [] of = rw of refl
count_put n r (x ∷ rs) of = by (is_lt (id_order r x)) (count_put n r rs of)
  where
    by : (b : Bool) → length (filter (is_of n) (put_in id_order r rs)) ≡ length (filter (is_of n) rs) + 1
        → length (filter (is_of n) (cond b (r ∷ x ∷ rs) (x ∷ put_in id_order r rs))) ≡ length (filter (is_of n) (x ∷ rs)) + 1
    by true e = rw of (omega arith)
    by false e =
        pick (is_of n x) (λ b. length (cond b (x ∷ filter (is_of n) (put_in id_order r rs)) (filter (is_of n) (put_in id_order r rs))) ≡ length (cond b (x ∷ filter (is_of n) rs) (filter (is_of n) rs)) + 1)
        (λ _. omega (arith, e)) (λ _. e)

pub row_counted : (org : ℕ) (t : Tenant) (r : Record) → row_with (org_of org t) ≡ org_of org (with_record r t)
row_counted org t r = ap (λ (n : ℕ). counting n) (sym (length_put r t.records))
  where
    counting : ℕ → OrgRow
    counting n = record (org_of org t) { counter = t.counter + 1; records = n }

pub object_counted : (org n : ℕ) (t : Tenant) (o : Object) (r : Record) → is_of n r ≡ true → object_with (row_of_object org t n o) ≡ row_of_object org (with_record r t) n o
object_counted org n t o r of = ap (λ (m : ℕ). counting m) (sym (count_put n r t.records of))
  where
    counting : ℕ → ObjectRow
    counting m = record (row_of_object org t n o) { records = m }

-- ---- the id names nothing yet, and then the record

none_named : (i : List ℕ) (rs : List Record) → ((y : Record) → Has rs y → bytes_eq y.id i ≡ false) → having_id (λ (y : Record). y.id) rs i ≡ None
none_named i [] h = refl
none_named i (x ∷ rs) h = rw (turned x.id i (h x (inl refl))) (none_named i rs (λ y m. h y (inr m)))

named_itself : (r : Record) (rs : List Record) → ((y : Record) → Has rs y → bytes_eq y.id r.id ≡ false) → having_id (λ (y : Record). y.id) (put_in id_order r rs) r.id ≡ Some r
named_itself r [] h = rw (same_text r.id) refl
named_itself r (x ∷ rs) h = by (is_lt (id_order r x)) (named_itself r rs (λ y m. h y (inr m)))
  where
    by : (b : Bool) → having_id (λ (y : Record). y.id) (put_in id_order r rs) r.id ≡ Some r → having_id (λ (y : Record). y.id) (cond b (r ∷ x ∷ rs) (x ∷ put_in id_order r rs)) r.id ≡ Some r
    by true e = rw (same_text r.id) refl
    by false e = rw (turned x.id r.id (h x (inl refl))) e

pub unnamed : (t : Tenant) (r : Record) → ((y : Record) → Has t.records y → bytes_eq y.id r.id ≡ false) → record_at t r.id ≡ None
unnamed t r h = none_named r.id t.records h

pub named : (t : Tenant) (r : Record) → ((y : Record) → Has t.records y → bytes_eq y.id r.id ≡ false) → record_at (with_record r t) r.id ≡ Some r
named t r h = named_itself r t.records h

-- ---- it is past every cursor

-- what `base_value` says of the order of ids
abbrev pub IdOrder : Type 0
IdOrder = (prefix : List ℕ) (m n : ℕ) → m < 62 ^ 12 → n < 62 ^ 12 → slice_cmp nat_cmp (made prefix m) (made prefix n) ≡ nat_cmp m n

pub past : IdOrder → (counter n : ℕ) (cursor : Option (List ℕ)) (id : List ℕ) → counter ≤ 999999999999999 → IsCursor counter n cursor → id ≡ made (record_prefix n) counter → is_past cursor id ≡ true
past order counter n None id few drawn is = refl
past order counter n (Some c) id few drawn is =
    let below = drawn.1 in
    let less : nat_cmp drawn.0 counter ≡ Less = grind (arith, nat_tests, below) in
    ap is_lt (ap₂ (λ (a b : List ℕ). slice_cmp nat_cmp a b) drawn.2 is ∙ order (record_prefix n) drawn.0 counter (omega (arith, few, below)) (omega (arith, few)) ∙ less)

-- so a change of a type has no value for it
pub no_value : (q : OrgPlan) (j : Job) (r : Record) → is_past j.cursor r.id ≡ true → job_value (fresh_plan r.id q) j j.phase r ≡ None
no_value q j r beyond = by j.phase
  where
    by : (p : Phase) → job_value (fresh_plan r.id q) j p r ≡ None
    by phase.Copy = rw beyond refl
    by phase.Clear = rw (beyond, same_text r.id) refl
    by phase.Done = refl
