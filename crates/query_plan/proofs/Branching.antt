-- Branches one behind the other: their numbers, and their records.
use Rattle.std.proofs.Common.{◌≡◌, ℕ, zero, suc, ◌+◌, ◌<◌, List, [], ◌∷◌, ◌++◌, length, Option, Some, None, refl, sym, ap, subst, ◌∙◌, append_assoc, length-append, arith}
use Rattle.std.specs.Prelude.{IfSome, slice_get}
use Rattle.std.specs.Option.{option_and_then}
use Rattle.std.proofs.lemmas.List.{append-nil}
use Rattle.std.proofs.lemmas.Option.{same_Some as some_is}
use Rattle.model.specs.declared.record.Record.{Record}
use Rattle.model.specs.Paths.{Asked, if_readable}
use Rattle.query_plan.specs.declared.paths.branches.Branch.{Branch}
use Rattle.query_plan.specs.declared.paths.parents.ParentStep.{ParentStep}
use Rattle.query_plan.specs.paths.Branches.{AreBranches, AddsBranches, IsAmong, branch_record, branch_records, record_above}
use Rattle.query_plan.specs.paths.Ways.{led_to, record_to}

-- ---- lists

-- what is in a list is in a longer one
get_before : {X : Type 0} (xs ys : List X) (n : ℕ) → n < length xs → slice_get (xs ++ ys) n ≡ slice_get xs n
get_before [] ys n h = absurd (omega (arith, h))
get_before (x ∷ xs) ys zero h = refl
get_before (x ∷ xs) ys (suc n) h = get_before xs ys n (omega (arith, h))

get_between : {X : Type 0} (xs : List X) (x : X) (ys : List X) → slice_get (xs ++ x ∷ ys) (length xs) ≡ Some x
get_between [] x ys = refl
get_between (y ∷ xs) x ys = get_between xs x ys

-- a list, by what is at a place of it
record IsAt {X : Type 0} (xs : List X) (n : ℕ) (x : X) : Type 0 where
  before : List X
  behind : List X
  whole : xs ≡ before ++ x ∷ behind
  number : length before ≡ n

split_at : {X : Type 0} (xs : List X) (n : ℕ) (x : X) → slice_get xs n ≡ Some x → IsAt xs n x
split_at [] n x e = absurd cc
split_at (y ∷ xs) zero x e = record { before = []; behind = xs; whole = ap (λ z. z ∷ xs) (some_is y x e); number = refl }
split_at (y ∷ xs) (suc n) x e =
    let rest = split_at xs n x e in
    record { before = y ∷ rest.before; behind = rest.behind; whole = ap (λ zs. y ∷ zs) rest.whole; number = ap suc rest.number }

-- ---- branches

pub added_twice : (xs ys zs : List Branch) → AddsBranches xs ys → AddsBranches ys zs → AddsBranches xs zs
added_twice xs ys zs first second = record {
  more = first.more ++ second.more;
  behind = second.behind ∙ ap (λ bs. bs ++ second.more) first.behind ∙ append_assoc xs first.more second.more;
  order = second.order;
}

-- ---- records

module _ (a : Asked) (r : Record) where
  abbrev records : List Branch → List (Option Record)
  records = branch_records a r []

  records_append : (before : List (Option Record)) (xs ys : List Branch) → branch_records a r before (xs ++ ys) ≡ branch_records a r (branch_records a r before xs) ys
  records_append before [] ys = refl
  records_append before (x ∷ xs) ys = records_append (before ++ branch_record a r before x ∷ []) xs ys

  -- those before stay
  records_behind : (before : List (Option Record)) (xs : List Branch) → (rest : List (Option Record)) × (branch_records a r before xs ≡ before ++ rest)
  records_behind before [] = ([], sym (append-nil before))
  records_behind before (x ∷ xs) =
      let own = branch_record a r before x in
      let it = records_behind (before ++ own ∷ []) xs in
      (own ∷ it.0, it.1 ∙ append_assoc before (own ∷ []) it.0)

  records_length : (before : List (Option Record)) (xs : List Branch) → length (branch_records a r before xs) ≡ length before + length xs
  records_length before [] = omega arith
  records_length before (x ∷ xs) =
      let own = branch_record a r before x in
      let rest = records_length (before ++ own ∷ []) xs in
      omega (arith, rest, length-append before (own ∷ []))

  pub as_many : (bs : List Branch) → length (records bs) ≡ length bs
  as_many bs = omega (arith, records_length [] bs)

  -- later branches don't change the records of those before
  pub records_stay : (bs more : List Branch) (at : Option ℕ) → IsAmong bs at → record_above r (records (bs ++ more)) at ≡ record_above r (records bs) at
  records_stay bs more None h = refl
  records_stay bs more (Some n) h =
      let it = records_behind (records bs) more in
      ap (λ (rs : List (Option Record)). option_and_then (λ p. p) (slice_get rs n)) (records_append [] bs more ∙ it.1)
      ∙ ap (option_and_then (λ p. p)) (get_before (records bs) it.0 n (omega (arith, h, as_many bs)))

  -- a branch's own record is by the records of all
  module _ (xs : List Branch) (b : Branch) (ys : List Branch) where
    own_record : IsAmong xs b.above → record_above r (records (xs ++ b ∷ ys)) (Some (length xs)) ≡ branch_record a r (records (xs ++ b ∷ ys)) b
    own_record among =
        let own = branch_record a r (records xs) b in
        let it = records_behind (records xs ++ own ∷ []) ys in
        let all : records (xs ++ b ∷ ys) ≡ records xs ++ own ∷ it.0 = records_append [] xs (b ∷ ys) ∙ it.1 ∙ append_assoc (records xs) (own ∷ []) it.0 in
        ap (λ (n : ℕ). option_and_then (λ p. p) (slice_get (records (xs ++ b ∷ ys)) n)) (sym (as_many xs))
        ∙ ap (λ (rs : List (Option Record)). option_and_then (λ p. p) (slice_get rs (length (records xs)))) all
        ∙ ap (option_and_then (λ p. p)) (get_between (records xs) own it.0)
        ∙ ap (option_and_then (λ p. option_and_then (if_readable a) (record_to a.tenant b.step p))) (sym (records_stay xs (b ∷ ys) b.above among))

  pub record_is : (bs : List Branch) (n : ℕ) (b : Branch) → AreBranches bs → slice_get bs n ≡ Some b → record_above r (records bs) (Some n) ≡ branch_record a r (records bs) b
  record_is bs n b order at =
      let it = split_at bs n b at in
      let among : IsAmong it.before b.above = subst (λ (k : ℕ). IfSome b.above (λ m. m < k)) (sym it.number) (order n b at) in
      let there = own_record it.before b it.behind among in
      subst (λ (k : ℕ). record_above r (records bs) (Some k) ≡ branch_record a r (records bs) b) it.number
      (subst (λ (cs : List Branch). record_above r (records cs) (Some (length it.before)) ≡ branch_record a r (records cs) b) (sym it.whole) there)

  -- ---- steps

  led_nowhere : (o : Option Record) → option_and_then (led_to a []) o ≡ o
  led_nowhere None = refl
  led_nowhere (Some p) = refl

abbrev one_step : Asked → ParentStep → Record → Option Record
one_step a s p = option_and_then (if_readable a) (record_to a.tenant s p)

-- one step more from where steps lead
led_on : (a : Asked) (steps : List ParentStep) (s : ParentStep) (r : Record) → led_to a (steps ++ s ∷ []) r ≡ option_and_then (one_step a s) (led_to a steps r)
led_on a [] s r = led_nowhere a r (one_step a s r)
led_on a (x ∷ steps) s r = by (led_on a steps s) (one_step a x r)
  where
    by : ((p : Record) → led_to a (steps ++ s ∷ []) p ≡ option_and_then (one_step a s) (led_to a steps p)) → (o : Option Record)
        → option_and_then (led_to a (steps ++ s ∷ [])) o ≡ option_and_then (one_step a s) (option_and_then (led_to a steps) o)
    by on None = refl
    by on (Some p) = on p

-- the branch by the next step has the record to which the steps lead with it
pub branch_leads : (a : Asked) (r : Record) (old new : List Branch) (at : Option ℕ) (n : ℕ) (s : ParentStep) (steps : List ParentStep) → AddsBranches old new → IsAmong old at
    → slice_get new n ≡ Some (record { above = at; step = s }) → record_above r (branch_records a r [] old) at ≡ led_to a steps r
    → record_above r (branch_records a r [] new) (Some n) ≡ led_to a (steps ++ s ∷ []) r
branch_leads a r old new at n s steps more among there led =
    let stay : record_above r (branch_records a r [] new) at ≡ record_above r (branch_records a r [] old) at =
    ap (λ (bs : List Branch). record_above r (branch_records a r [] bs) at) more.behind ∙ records_stay a r old more.more at among in
    record_is a r new n (record { above = at; step = s }) more.order there
    ∙ ap (option_and_then (one_step a s)) (stay ∙ led)
    ∙ sym (led_on a steps s r)
