-- A walk in pages passes each record once.
use Rattle.std.proofs.Common.{◌≡◌, inl, inr, ℕ, suc, ◌-◌, Bool, true, false, cond, List, [], ◌∷◌, ◌++◌, Option, Some, None, filter, take, drop, length, refl, sym, ap, ◌∙◌, subst, true≢false, arith, append_assoc, take-append-drop}
use Rattle.std.specs.List.{slice_get, AllByRecursion}
use Rattle.std.specs.declared.cmp.Ordering.TheVariants.{Less}
use Rattle.std.specs.Ordering.{is_lt, nat_cmp, ordering_reverse}
use Rattle.std.specs.Cmp.{IsTotalOrder, on_total}
use Rattle.std.specs.Cmp.Lexicographic.{nat_list_cmp_total, slice_cmp}
use Rattle.std.specs.List.Sorted.{IsStrictlySortedBy}
use Rattle.std.proofs.lemmas.Cmp.{tied_itself}
use Rattle.std.proofs.lemmas.List.Kept.{IsStrictlySortedBy-filter}
use Rattle.base_lemmas.proofs.Orders.{less_from_is_lt as is_below}
use Rattle.record_read.proofs.Rising.{has_filter}
use Rattle.model.specs.declared.record.Record.{Record}
use Rattle.model.specs.Jobs.{is_past}
use Rattle.model.specs.Membership.{Has}
use Rattle.model.specs.Ordered.{by_id}
use Rattle.query_exec.specs.inner.Reading.{beyond}

-- the ids rise
abbrev pub Ascends : List Record → Type 0
Ascends rs = IsStrictlySortedBy by_id rs

pub by_id_total : IsTotalOrder by_id
by_id_total = on_total (λ (r : Record). r.id) nat_list_cmp_total

-- ---- filters

pub filter_all : {X : Type 0} (p : X → Bool) (xs : List X) → ((x : X) → Has xs x → p x ≡ true) → filter p xs ≡ xs
filter_all p [] all = refl
filter_all p (x ∷ xs) all = ap (λ b. cond b (x ∷ filter p xs) (filter p xs)) (all x (inl refl)) ∙ ap (λ l. x ∷ l) (filter_all p xs (λ y h. all y (inr h)))

-- a narrower test after a wider one is the narrower one
filter_twice : {X : Type 0} (p q : X → Bool) (xs : List X) → ((x : X) → p x ≡ true → q x ≡ true) → filter p (filter q xs) ≡ filter p xs
filter_twice p q [] narrow = refl
filter_twice p q (x ∷ xs) narrow = by (q x) (p x) refl refl (filter_twice p q xs narrow)
  where
    by : (b c : Bool) → q x ≡ b → p x ≡ c → filter p (filter q xs) ≡ filter p xs → filter p (cond b (x ∷ filter q xs) (filter q xs)) ≡ cond c (x ∷ filter p xs) (filter p xs)
    by true true e f more = ap (λ b. cond b (x ∷ filter p (filter q xs)) (filter p (filter q xs))) f ∙ ap (λ l. x ∷ l) more
    by true false e f more = ap (λ b. cond b (x ∷ filter p (filter q xs)) (filter p (filter q xs))) f ∙ more
    by false true e f more = absurd (true≢false (sym (narrow x f) ∙ e))
    by false false e f more = more

all_has : {X : Type 0} (P : X → Type 0) (xs : List X) → AllByRecursion P xs → (x : X) → Has xs x → P x
all_has P [] all x h = absurd h
all_has P (y ∷ ys) all x (inl same) = subst P (sym same) all.0
all_has P (y ∷ ys) all x (inr later) = all_has P ys all.1 x later

-- ---- those above the last of a page

abbrev above : Record → Record → Bool
above last r = is_lt (by_id last r)

pub middle_has : (front : List Record) (last : Record) (back : List Record) → Has (front ++ last ∷ back) last
middle_has [] last back = inl refl
middle_has (x ∷ front) last back = inr (middle_has front last back)

not_above : (x last : Record) → by_id x last ≡ Less → above last x ≡ false
not_above x last low = ap is_lt (by_id_total.antisymm last x ∙ ap ordering_reverse low)

behind : (front : List Record) (last : Record) (back : List Record) → Ascends (front ++ last ∷ back) → filter (above last) (front ++ last ∷ back) ≡ back
unfolding IsStrictlySortedBy
behind [] last back up =
    ap (λ b. cond b (last ∷ filter (above last) back) (filter (above last) back)) (ap is_lt (tied_itself by_id_total last))
    ∙ filter_all (above last) back (λ x h. ap is_lt (all_has (λ y. by_id last y ≡ Less) back up.0 x h))
behind (x ∷ front) last back up =
    ap (λ b. cond b (x ∷ filter (above last) (front ++ last ∷ back)) (filter (above last) (front ++ last ∷ back))) (not_above x last (all_has (λ y. by_id x y ≡ Less) (front ++ last ∷ back) up.0 last (middle_has front last back)))
    ∙ behind front last back up.1

narrower : (after : Option (List ℕ)) (rs : List Record) (last : Record) → Has (beyond after rs) last → filter (above last) (beyond after rs) ≡ filter (above last) rs
narrower None rs last h = ap (filter (above last)) (filter_all (λ (r : Record). is_past None r.id) rs (λ x m. refl))
narrower (Some i) rs last h =
    let low : slice_cmp nat_cmp i last.id ≡ Less = is_below _ (has_filter (λ (r : Record). is_past (Some i) r.id) rs last h).1 in
    filter_twice (above last) (λ (r : Record). is_past (Some i) r.id) rs (λ x p. ap is_lt (nat_list_cmp_total.trans i last.id x.id low (is_below _ p)))

split_last : (xs : List Record) (x : Record) → slice_get xs (length xs - 1) ≡ Some x → (front : List Record) × (xs ≡ front ++ x ∷ [])
split_last [] x h = absurd cc
split_last (y ∷ []) x h = let same : y ≡ x = cc in ([], ap (λ z. z ∷ []) same)
split_last (y ∷ z ∷ xs) x h =
    let n : length (y ∷ z ∷ xs) - 1 ≡ suc (length (z ∷ xs) - 1) = omega arith in
    let later = split_last (z ∷ xs) x (ap (slice_get (y ∷ z ∷ xs)) (sym n) ∙ h) in
    (y ∷ later.0, ap (λ l. y ∷ l) later.1)

-- the records of a page, and then those beyond its last
pub page_on : (rs : List Record) (after : Option (List ℕ)) (limit : ℕ) (page : List Record) (last : Record) → Ascends rs → page ≡ take limit (beyond after rs) → slice_get page (length page - 1) ≡ Some last
    → page ++ beyond (Some last.id) rs ≡ beyond after rs
page_on rs after limit page last up is at =
    let all = beyond after rs in
    let parts = split_last page last at in
    let joined : page ++ drop limit all ≡ all = ap (λ l. l ++ drop limit all) is ∙ take-append-drop limit all in
    let apart : all ≡ parts.0 ++ last ∷ drop limit all = sym joined ∙ ap (λ l. l ++ drop limit all) parts.1 ∙ append_assoc parts.0 (last ∷ []) (drop limit all) in
    let has : Has all last = subst (λ l. Has l last) (sym apart) (middle_has parts.0 last (drop limit all)) in
    let rest : beyond (Some last.id) rs ≡ drop limit all =
    sym (narrower after rs last has) ∙ ap (filter (above last)) apart
    ∙ behind parts.0 last (drop limit all) (subst Ascends apart (IsStrictlySortedBy-filter by_id (λ (r : Record). is_past after r.id) rs up)) in
    ap (λ l. page ++ l) rest ∙ joined

-- all of them are beyond none
pub beyond_none : (rs : List Record) → beyond None rs ≡ rs
beyond_none rs = filter_all (λ (r : Record). is_past None r.id) rs (λ x h. refl)
