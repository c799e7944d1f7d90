-- The rows of a new organisation, and that tables with them stand for the world with it.
use Rattle.std.proofs.Common.{◌≡◌, ℕ, ◌+◌, ◌^◌, ◌<◌, Bool, true, ◌&&◌, cond, eqb, IsTrue, List, [], ◌∷◌, ◌++◌, length, Option, Some, None, refl, sym, ap, ◌∙◌, arith, length-append}
use Rattle.std.specs.Option.{option_map}
use Rattle.std.specs.FinMap as map
use Rattle.std.specs.Str.{bytes_eq}
use Rattle.std.proofs.lemmas.Bool.{eqb-true}
use Rattle.base_lemmas.proofs.Bools.{by_answer as pick}
use Rattle.base_value.specs.Id.{is_id}
use Rattle.store_kv.specs.Tables.{Tables}
use Rattle.store_rows.specs.Forms.{row_bytes}
use Rattle.store_rows.specs.Holds.{Holds, with_row}
use Rattle.store_rows.specs.Keys.{Key, Version, Org, User, spell, FitsKey}
use Rattle.store_rows.specs.Rows.{version_form, org_form, user_form}
use Rattle.model.specs.declared.limit.Limit.TheVariants as limit
use Rattle.model.specs.Limits.{limit_number}
use Rattle.model.specs.Organisations.{administrator, first_user, fresh, with_org}
use Rattle.model.specs.Sound.{IsSound, is_name}
use Rattle.model.specs.Tenant.{Tenant}
use Rattle.model.specs.World.{World}
use Rattle.people_edit.specs.People.{with_rows}
use Rattle.store_abstraction.specs.Metadata.{org_of, user_of}
use Rattle.store_abstraction.specs.Plan.{FitsPlan, OrgPlan, Plan, no_slots, opened, with_plan}
use Rattle.store_abstraction.specs.Stands.{all_tables, kept_at, known_version, org_of_key, Stands, StandsBy, row_at, row_in, rows_with, version_at}

-- what `store_rows` says of one row put, and of rows that agree
abbrev pub PutsRows : Type 0
PutsRows = (reach : ℕ → Bool) (m : Tables) (rows : Key → Option (List ℕ)) (k : Key) (row : List ℕ) → FitsKey k → Holds reach m rows → Holds reach (map.insert m (spell k) row) (with_row k (Some row) rows)

abbrev pub SameRows : Type 0
SameRows = (reach : ℕ → Bool) (m : Tables) (rows others : Key → Option (List ℕ)) → ((k : Key) → FitsKey k → rows k ≡ others k) → Holds reach m rows → Holds reach m others

-- what `store_abstraction` says of keys past the last organisation, and of the rows of one more
abbrev pub NonePast : Type 0
NonePast = (p : Plan) (w : World) (k : Key) → org_of_key k ≡ Some (length w + 1) → row_at p w k ≡ None

abbrev pub RowsStand : Type 0
RowsStand = (p : Plan) (m after : Tables) (w : World) (t : Tenant) (q : OrgPlan) → StandsBy p m w → length w < limit_number limit.Organisations → IsSound t → FitsPlan q t
    → Holds all_tables after (with_row Version (version_at true (w ++ t ∷ [])) (rows_with (length w + 1) q t (row_at p w)))
    → StandsBy (opened (with_plan (length w + 1) q p)) after (w ++ t ∷ [])

-- ---- the rows

abbrev version_row : ℕ → List ℕ
version_row n = row_bytes version_form (record { version = known_version; organisations = n })

abbrev org_row : ℕ → List ℕ → List ℕ → List ℕ
org_row n name digest = row_bytes org_form (org_of n (fresh name digest))

abbrev user_row : ℕ → List ℕ → List ℕ → List ℕ
user_row n name digest = row_bytes user_form (user_of n (administrator name digest))

-- the rows once the three of a new organisation are put
abbrev with_three : ℕ → List ℕ → List ℕ → (Key → Option (List ℕ)) → Key → Option (List ℕ)
with_three n name digest rows = with_row (User n first_user) (Some (user_row n name digest)) (with_row (Org n) (Some (org_row n name digest)) (with_row Version (Some (version_row n)) rows))

-- where it had none before, they are those of its tenant, and the version's
module _ (n : ℕ) (name digest : List ℕ) (rows : Key → Option (List ℕ)) (none : (k : Key) → org_of_key k ≡ Some n → rows k ≡ None) where
  rest : (k : Key) (m : ℕ) → org_of_key k ≡ Some m → row_in no_slots (fresh name digest) k ≡ None → rows k ≡ cond (eqb m n) (row_in no_slots (fresh name digest) k) (rows k)
  rest k m of unwritten = pick (eqb m n) (λ b. rows k ≡ cond b (row_in no_slots (fresh name digest) k) (rows k)) (λ e. none k (of ∙ ap Some (eqb-true m n e)) ∙ sym unwritten) (λ e. refl)

  user_here : (m : ℕ) (i : List ℕ) → m ≡ n → cond (bytes_eq i first_user) (Some (user_row n name digest)) (rows (User m i)) ≡ row_in no_slots (fresh name digest) (User m i)
  unfolding row_in
  user_here m i e =
      ap (cond (bytes_eq i first_user) (Some (user_row n name digest))) (none (User m i) (ap Some e))
      ∙ pick (bytes_eq i first_user) (λ b. cond b (Some (user_row n name digest)) None ≡ option_map (λ u. row_bytes user_form (user_of m u)) (cond b (Some (administrator name digest)) None))
      (λ _. ap (λ (k : ℕ). Some (user_row k name digest)) (sym e))
      (λ _. refl)

  rows_are : (k : Key) → with_three n name digest rows k ≡ with_row Version (Some (version_row n)) (rows_with n no_slots (fresh name digest) rows) k
  unfolding row_in kept_at
  rows_are Version = refl
  rows_are (Org m) =
      pick (eqb m n) (λ b. cond b (Some (org_row n name digest)) (rows (Org m)) ≡ cond b (Some (org_row m name digest)) (rows (Org m)))
      (λ e. ap (λ (k : ℕ). Some (org_row k name digest)) (sym (eqb-true m n e)))
      (λ e. refl)
  rows_are (User m i) =
      pick (eqb m n) (λ b. cond (b && bytes_eq i first_user) (Some (user_row n name digest)) (rows (User m i)) ≡ cond b (row_in no_slots (fresh name digest) (User m i)) (rows (User m i)))
      (λ e. user_here m i (eqb-true m n e))
      (λ e. refl)
  rows_are k = rest k _ refl refl

-- ---- the new tenant

-- what `model` says of a new organisation
abbrev pub FreshSound : Type 0
FreshSound = (name digest : List ℕ) → IsTrue (is_name name) → length digest ≡ 32 → IsSound (fresh name digest)

-- it has no fields and no change of one
fresh_fits : (name digest : List ℕ) → FitsPlan no_slots (fresh name digest)
fresh_fits name digest = record {
  below = λ n f there. absurd cc;
  differ = λ n f g there other same. absurd cc;
  other = omega arith;
  apart = λ j is busy f there same. absurd cc;
  was = refl;
  switched = λ j f at clear done is. absurd cc;
  left = λ j i v at clear left. absurd cc;
}

-- ---- the tables

puts_three : PutsRows → (m : Tables) (rows : Key → Option (List ℕ)) (n : ℕ) (name digest : List ℕ) → n < 2 ^ 32 → IsTrue (is_id first_user) → Holds all_tables m rows → Holds all_tables (with_rows n name digest m) (with_three n name digest rows)
puts_three puts m rows n name digest fits id h =
    let v = version_row n in
    let o = org_row n name digest in
    let m1 = map.insert m (spell Version) v in
    let f1 = with_row Version (Some v) rows in
    let h1 : Holds all_tables m1 f1 = puts all_tables m rows Version v tt h in
    let h2 = puts all_tables m1 f1 (Org n) o fits h1 in
    puts all_tables (map.insert m1 (spell (Org n)) o) (with_row (Org n) (Some o) f1) (User n first_user) (user_row n name digest) (fits, (tt, id)) h2

rows_stand : PutsRows → SameRows → NonePast → IsTrue (is_id first_user) → (m : Tables) (w : World) (name digest : List ℕ) → length w < limit_number limit.Organisations → (p : Plan) → StandsBy p m w
    → Holds all_tables (with_rows (length w + 1) name digest m) (with_row Version (version_at true (with_org w name digest)) (rows_with (length w + 1) no_slots (fresh name digest) (row_at p w)))
rows_stand puts same past id m w name digest few p s =
    let n = length w + 1 in
    let next = with_org w name digest in
    let counted : n ≡ length next = omega (arith, length-append w (fresh name digest ∷ [])) in
    let before = row_at p w in
    let own = rows_with n no_slots (fresh name digest) before in
    let after = with_row Version (version_at true next) own in
    let agree : (k : Key) → with_three n name digest before k ≡ after k = λ k. rows_are n name digest before (λ q e. past p w q e) k ∙ ap (λ (l : ℕ). with_row Version (Some (version_row l)) own k) counted in
    same all_tables (with_rows n name digest m) (with_three n name digest before) after (λ k _. agree k) (puts_three puts m before n name digest (omega (arith, few)) id s.rows)

pub org_stands : FreshSound → PutsRows → SameRows → NonePast → RowsStand → IsTrue (is_id first_user) → (m : Tables) (w : World) (name digest : List ℕ) → Stands m w → length w < limit_number limit.Organisations → IsTrue (is_name name) → length digest ≡ 32
    → Stands (with_rows (length w + 1) name digest m) (with_org w name digest)
org_stands fresh_sound puts same past stands id m w name digest (p, s) few good size = (
  opened (with_plan (length w + 1) no_slots p),
  stands p m (with_rows (length w + 1) name digest m) w (fresh name digest) no_slots s few (fresh_sound name digest good size) (fresh_fits name digest) (rows_stand puts same past id m w name digest few p s),
)
