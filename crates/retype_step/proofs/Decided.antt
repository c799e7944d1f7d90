-- What passes the test of a step, and what it says of the records.
use Rattle.std.proofs.Common.{◌≡◌, ◌∙◌, ◌-◌, ℕ, suc, Bor, Bool, true, false, cond, not, ◌&&◌, ◌||◌, List, [], ◌∷◌, length, Option, Some, None, refl, sym, ap, subst, arith, inl, inr}
use Rattle.std.specs.Prelude.{◌⊎◌, Ok, Err, is_none, ok_or, slice_get}
use Rattle.std.specs.List.{list_all}
use Rattle.std.specs.Option.{option_copied, option_map}
use Rattle.base_lemmas.proofs.Bools.{and_first as and_left, and_second as and_right, by_answer as pick}
use Rattle.retype_step.specs.inner.Deciding.{is_ready}
use Rattle.retype_step.specs.inner.Rows.{done_row, is_plain}
use Rattle.record_read.specs.Decoding.{has_types, kinds_in}
use Rattle.formula.specs.Meaning.{value_at}
use Rattle.store_rows.specs.declared.job.JobRow.{JobRow}
use Rattle.model.specs.declared.record.Record.{Record}
use Rattle.model.specs.Jobs.{last_id}
use Rattle.model.specs.RuleFormulas.{is_copy}
use Rattle.model.specs.SoundJob.{is_switched}
use Rattle.model.specs.SoundRecords.{all_valid}
use Rattle.retype_step.proofs.Facts.{field_valid}
use Rattle.record_index.specs.Turned.{converts}
use Rattle.store_abstraction.specs.declared.layout.FieldPlace.{FieldPlace}
use Rattle.store_abstraction.specs.declared.layout.Layout.{Layout}
use Rattle.base_value.specs.Conversion.{convertible}
use Rattle.base_value.specs.Values.{valid}
use Rattle.base_value.specs.declared.fail.ConvertFail.{ConvertFail}
use Rattle.base_value.specs.declared.fail.ConvertFail.TheVariants as fail
use Rattle.base_value.specs.declared.id.Id.{Id}
use Rattle.base_value.specs.declared.value.Value.{Value}

-- ---- what passes the test

pub record Parts (row : JobRow) (l : Layout) (f : FieldPlace) : Type 0 where
  pub plain_row : is_plain row.kind ≡ true
  pub plain_field : is_plain f.kind ≡ true
  pub typed : has_types l ≡ true
  pub converting : converts l ≡ true

tests : (row : JobRow) (l : Layout) (f : FieldPlace) → is_ready row l f ≡ true → Parts row l f × ((not (is_copy row.phase) || convertible f.kind row.kind) ≡ true)
tests row l f h =
    let copies = not (is_copy row.phase) || convertible f.kind row.kind in
    let kinds = and_left (is_plain row.kind && is_plain f.kind) ((has_types l && converts l) && copies) h in
    let rest = and_right (is_plain row.kind && is_plain f.kind) ((has_types l && converts l) && copies) h in
    let read = and_left (has_types l && converts l) copies rest in (
      record {
        plain_row = and_left (is_plain row.kind) (is_plain f.kind) kinds;
        plain_field = and_right (is_plain row.kind) (is_plain f.kind) kinds;
        typed = and_left (has_types l) (converts l) read;
        converting = and_right (has_types l) (converts l) read;
      },
      and_right (has_types l && converts l) copies rest,
    )

pub parts : (row : JobRow) (l : Layout) (f : FieldPlace) → is_ready row l f ≡ true → Parts row l f
parts row l f h = (tests row l f h).0

pub converts_so : (row : JobRow) (l : Layout) (f : FieldPlace) → is_ready row l f ≡ true → is_copy row.phase ≡ true → convertible f.kind row.kind ≡ true
converts_so row l f h copy = subst (λ (b : Bool). (not b || convertible f.kind row.kind) ≡ true) copy (tests row l f h).1

-- the type that the change has once it is done passes too
pub plain_done : (org : ℕ) (row : JobRow) (l : Layout) (f : FieldPlace) → is_ready row l f ≡ true → is_plain (done_row org f row).kind ≡ true
plain_done org row l f h = pick (is_switched row.outcome) (λ b. is_plain (cond b f.kind row.kind) ≡ true) (λ _. (parts row l f h).plain_field) (λ _. (parts row l f h).plain_row)

-- ---- records

pub valid_each : (l : Layout) (i : ℕ) (f : FieldPlace) (rs : List Record) → slice_get l.fields i ≡ Some f → list_all (λ r. all_valid (kinds_in l.fields) r.values) rs ≡ true
    → list_all (λ (r : Record). valid f.kind (value_at r.values (suc i))) rs ≡ true
valid_each l i f [] at h = refl
valid_each l i f (r ∷ rs) at h =
    let first = field_valid l r.values i f (and_left (all_valid (kinds_in l.fields) r.values) (list_all (λ (r : Record). all_valid (kinds_in l.fields) r.values) rs) h) at in
    let rest = valid_each l i f rs at (and_right (all_valid (kinds_in l.fields) r.values) (list_all (λ (r : Record). all_valid (kinds_in l.fields) r.values) rs) h) in
    rw first rest

pub last_is : (rs : List Record) → last_id rs ≡ option_map (λ (r : Record). r.id) (slice_get rs (length rs - 1))
last_is [] = refl
last_is (r ∷ []) = refl
last_is (r ∷ x ∷ rs) =
    let same : suc (length (x ∷ rs) - 1) ≡ length (r ∷ x ∷ rs) - 1 = omega arith in
    last_is (x ∷ rs) ∙ ap (λ (n : ℕ). option_map (λ (r : Record). r.id) (slice_get (r ∷ x ∷ rs) n)) same

pub copied_id : (o : Option (Bor Id)) → option_map {T = Bor Id} {U = Id} (λ id. id.now) o ≡ option_copied o
copied_id None = refl
copied_id (Some id) = refl

-- a test of what may convert
pub bad_not : (x : Option Value) (v : Value) → ok_or x fail.NotConvertible ≡ Ok v → false ≡ is_none x
bad_not None v e = absurd cc
bad_not (Some w) v e = refl

pub bad_so : (x : Option Value) (f : ConvertFail) → f ≡ fail.NotConvertible → (f ≡ fail.Memory) ⊎ (ok_or x fail.NotConvertible ≡ Err f) → true ≡ is_none x
bad_so None f is h = refl
bad_so (Some w) f is (inl e) = absurd (differ (sym is ∙ e))
  where
    differ : fail.NotConvertible ≡ fail.Memory → ⊥
    differ e = cc
bad_so (Some w) f is (inr e) = absurd cc
