-- The records that a loop has read, and all records of a text.
use Rattle.std.proofs.Common.{◌≡◌, ◌≤◌, ◌<◌, ℕ, zero, suc, ◌+◌, ◌==◌, ◌&&◌, List, [], ◌∷◌, ◌++◌, length, ◌-◌, Option, Some, None, Bool, true, false, refl, ap, subst, arith, ◌∙◌, if◌then◌else◌}
use Rattle.std.proofs.lemmas.List.{append-nil}
use Rattle.std.proofs.lemmas.Option.{same_Some as some-eq}
use Rattle.csv.specs.Machine.{Read, next_record, step, in_field, start_field, start_record, is_end, ends_at_end, ends_with, after_end, is_byte}
use Rattle.csv.specs.Reading.{Reached, records, records_from}
use Rattle.csv.specs.declared.parser.Config.{Config}
use Rattle.csv.specs.declared.parser.State.{State}
use Rattle.csv.specs.declared.parser.Action.{Action}
use Rattle.csv.specs.declared.parser.Terminator.{Terminator}
use Rattle.csv.specs.declared.parser.Terminator.TheVariants as term
use Rattle.csv.specs.declared.parser.State.TheVariants as st
use Rattle.csv.specs.declared.parser.Action.TheVariants as act

-- a step that ends a record ends between records
abbrev Closed : State × Action → Type 0
Closed x = is_end x.1 ≡ true → ends_at_end x.0 ≡ false

closed-if : (p : Bool) (x y : State × Action) → Closed x → Closed y → Closed (if p then x else y)
closed-if true x y a b = a
closed-if false x y a b = b

between-if : (p : Bool) (a b : State) → ends_at_end a ≡ false → ends_at_end b ≡ false → ends_at_end (if p then a else b) ≡ false
between-if true a b x y = x
between-if false a b x y = y

after-between : (t : Terminator) (c : ℕ) → ends_at_end (after_end t c) ≡ false
after-between term.CRLF c = between-if (c == 13) st.AfterCr st.StartRecord refl refl
after-between (term.Any t) c = refl

closed-field : (cfg : Config) (c : ℕ) → Closed (in_field cfg c)
closed-field cfg c =
    closed-if (c == cfg.delimiter) (st.StartField, act.EndField) _ (λ h. cc h)
    (closed-if (ends_with cfg.terminator c) (after_end cfg.terminator c, act.EndRecord) (st.InField, act.Copy) (λ h. after-between cfg.terminator c) (λ h. cc h))

closed-start : (cfg : Config) (c : ℕ) → Closed (start_field cfg c)
closed-start cfg c = closed-if (cfg.quoting && (c == cfg.quote)) (st.InQuoted, act.Skip) _ (λ h. cc h) (closed-field cfg c)

closed-record : (cfg : Config) (c : ℕ) → Closed (start_record cfg c)
closed-record cfg c =
    closed-if (ends_with cfg.terminator c) (st.StartRecord, act.Skip) _ (λ h. cc h)
    (closed-if (is_byte cfg.comment c) (st.InComment, act.Skip) _ (λ h. cc h) (closed-start cfg c))

step-closed : (cfg : Config) (s : State) (c : ℕ) → Closed (step cfg s c)
step-closed cfg st.StartRecord c = closed-record cfg c
step-closed cfg st.StartField c = closed-start cfg c
step-closed cfg st.InField c = closed-field cfg c
step-closed cfg st.InQuoted c =
    closed-if (cfg.quoting && (c == cfg.quote)) (st.AfterQuote, act.Skip) _ (λ h. cc h)
    (closed-if (cfg.quoting && is_byte cfg.escape c) (st.InEscape, act.Skip) (st.InQuoted, act.Copy) (λ h. cc h) (λ h. cc h))
step-closed cfg st.InEscape c = λ h. cc h
step-closed cfg st.AfterQuote c =
    closed-if (cfg.quoting && cfg.double_quote && (c == cfg.quote)) (st.InQuoted, act.Copy) _ (λ h. cc h) (closed-field cfg c)
step-closed cfg st.InComment c = closed-if (c == 10) (st.StartRecord, act.Skip) (st.InComment, act.Skip) (λ h. cc h) (λ h. cc h)
step-closed cfg st.AfterCr c = closed-if (c == 10) (st.StartRecord, act.Skip) _ (λ h. cc h) (closed-record cfg c)

-- what a record leaves: a state between records, and no more bytes
abbrev Leaves : ℕ → Read → Type 0
Leaves n q = (ends_at_end q.1 ≡ false) × (length q.2 ≤ n)

leaves-none : (b : Bool) (r : Read) (q : Read) (n : ℕ) → Leaves n r → (if b then Some r else None) ≡ Some q → Leaves n q
leaves-none true r q n h e = subst (Leaves n) (some-eq r q e) h
leaves-none false r q n h e = cc e

leaves-by : (b : Bool) (r : Read) (o : Option Read) (q : Read) (n : ℕ) → (b ≡ true → Leaves n r) → (o ≡ Some q → Leaves n q) → (if b then Some r else o) ≡ Some q → Leaves n q
leaves-by true r o q n h k e = subst (Leaves n) (some-eq r q e) (h refl)
leaves-by false r o q n h k e = k e

next-leaves : (cfg : Config) (s : State) (fields : List (List ℕ)) (field xs : List ℕ) (q : Read) → next_record cfg s fields field xs ≡ Some q → Leaves (length xs) q
unfolding next_record
next-leaves cfg s fields field [] q e = leaves-none (ends_at_end s) _ q 0 (refl, omega arith) e
next-leaves cfg s fields field (c ∷ rest) q e =
    leaves-by (is_end (step cfg s c).1) _ _ q (length (c ∷ rest)) (λ ends. (step-closed cfg s c ends, omega arith))
    (λ more. let h = next-leaves cfg (step cfg s c).0 _ _ rest q more in (h.0, omega (arith, h.1))) e

-- from between records a record takes a byte
next-takes : (cfg : Config) (s : State) (xs : List ℕ) (q : Read) → ends_at_end s ≡ false → next_record cfg s [] [] xs ≡ Some q → length q.2 < length xs
unfolding next_record
next-takes cfg s [] q b e = cc (rw b at e)
next-takes cfg s (c ∷ rest) q b e =
    let h = leaves-by (is_end (step cfg s c).1) _ _ q (length rest) (λ ends. (step-closed cfg s c ends, omega arith))
    (λ more. next-leaves cfg (step cfg s c).0 _ _ rest q more) e in
    omega (arith, h.1)

-- so there are at most as many records as bytes
reached-count : (cfg : Config) (s s2 : State) (xs ys : List ℕ) (rows : List (List (List ℕ))) → ends_at_end s ≡ false → Reached cfg s xs rows s2 ys → length rows + length ys ≤ length xs
unfolding Reached
reached-count cfg s s2 xs ys [] b h = rw (h.1) (omega arith)
reached-count cfg s s2 xs ys (r ∷ rs) b h =
    let takes = next-takes cfg s xs h.0 b h.1 in
    let leaves = next-leaves cfg s [] [] xs h.0 h.1 in
    let more = reached-count cfg h.0.1 s2 h.0.2 ys rs leaves.0 h.3 in
    omega (arith, takes, more)

reached-front : (cfg : Config) (s s2 : State) (xs ys : List ℕ) (rows : List (List (List ℕ))) (n k : ℕ) → n ≡ length rows + k → Reached cfg s xs rows s2 ys
    → records_from cfg n s xs ≡ rows ++ records_from cfg k s2 ys
unfolding Reached records_from
reached-front cfg s s2 xs ys [] n k e h =
    let same : n ≡ k = omega (arith, e) in
    rw (h.0, h.1, same) refl
reached-front cfg s s2 xs ys (r ∷ rs) zero k e h = absurd (omega (arith, e))
reached-front cfg s s2 xs ys (r ∷ rs) (suc n) k e h =
    rw (h.1, h.2) (ap (λ t. h.0.0 ∷ t) (reached-front cfg h.0.1 s2 h.0.2 ys rs n k (omega (arith, e)) h.3))

-- the records that were reached are the first ones of the text
pub reached-records : (cfg : Config) (s2 : State) (xs ys : List ℕ) (rows : List (List (List ℕ))) → Reached cfg st.StartRecord xs rows s2 ys
    → (rest : List (List (List ℕ))) × (records cfg xs ≡ rows ++ rest)
reached-records cfg s2 xs ys rows h =
    let few = reached-count cfg st.StartRecord s2 xs ys rows refl h in
    (records_from cfg (length xs + 1 - length rows) s2 ys, reached-front cfg st.StartRecord s2 xs ys rows (length xs + 1) _ (omega (arith, few)) h)

no-more : (cfg : Config) (s : State) (xs : List ℕ) (k : ℕ) → next_record cfg s [] [] xs ≡ None → records_from cfg k s xs ≡ []
unfolding records_from
no-more cfg s xs zero e = refl
no-more cfg s xs (suc k) e = rw e refl

-- and where no more can be read they are all
pub ended-records : (cfg : Config) (s2 : State) (xs ys : List ℕ) (rows : List (List (List ℕ))) → Reached cfg st.StartRecord xs rows s2 ys → next_record cfg s2 [] [] ys ≡ None
    → records cfg xs ≡ rows
ended-records cfg s2 xs ys rows h e =
    let few = reached-count cfg st.StartRecord s2 xs ys rows refl h in
    reached-front cfg st.StartRecord s2 xs ys rows (length xs + 1) (length xs + 1 - length rows) (omega (arith, few)) h ∙ ap (λ t. rows ++ t) (no-more cfg s2 ys _ e) ∙ append-nil rows
