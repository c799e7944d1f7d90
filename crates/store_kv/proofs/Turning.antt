-- One turn of a merge.
use Rattle.std.specs.Borrow.{Bor}
use Rattle.std.specs.Slice.{IsItemAt}
use Rattle.std.proofs.lemmas.List.{drop_more}
use Rattle.std.proofs.Common.{◌≡◌, ℕ, zero, suc, ◌+◌, ◌<◌, ◌≤◌, option_copied, List, [], ◌∷◌, length, get_or, drop, Option, Some, None, Ordering, Less, Equal, Greater, refl, sym, ap, ◌∙◌, arith}
use Rattle.std.specs.Ordering.{match_ordering}
use Rattle.store_kv.specs.declared.keeper.KeptRow.{KeptRow}
use Rattle.store_kv.specs.declared.merge.Turn.{Turn}
use Rattle.store_kv.specs.declared.merge.Turn.TheVariants as turns
use Rattle.store_kv.specs.Tables.{bytes_cmp}
use Rattle.store_kv.specs.Laid.{Entry}
use Rattle.store_kv.specs.inner.Merging.{merged, shown_first, beside}
use Rattle.store_kv.specs.inner.Turns.{next_turn}

abbrev pub head : {X : Type 0} → List X → Option X
head [] = None
head (x ∷ xs) = Some x

abbrev IsTurn : Turn → Turn → Type 0
IsTurn a b = a ≡ b

pub entry_some : (ks : List KeptRow) (es : List Entry) → next_turn (head ks) (head es) ≡ turns.Entry → head es ≡ None → ⊥
entry_some [] [] h none = absurd cc
entry_some (k ∷ ks) [] h none = absurd cc
entry_some ks (e ∷ es) h none = absurd cc

pub both_some : (ks : List KeptRow) (es : List Entry) → next_turn (head ks) (head es) ≡ turns.Both → head es ≡ None → ⊥
both_some [] [] h none = absurd cc
both_some (k ∷ ks) [] h none = absurd cc
both_some ks (e ∷ es) h none = absurd cc

pub entry_turn : (ks : List KeptRow) (e : Entry) (es : List Entry) → next_turn (head ks) (Some e) ≡ turns.Entry → merged ks (e ∷ es) ≡ shown_first e (merged ks es)
entry_turn [] e es h = refl
entry_turn (k ∷ ks) e es h = go (bytes_cmp k.key e.0.1) h
  where
    go : (o : Ordering) → IsTurn (match_ordering o turns.Row turns.Both turns.Entry) turns.Entry
        → match_ordering o (k ∷ merged ks (e ∷ es)) (shown_first e (merged ks es)) (shown_first e (beside k (merged ks) es)) ≡ shown_first e (beside k (merged ks) es)
    go Less h = absurd cc
    go Equal h = absurd cc
    go Greater h = refl

pub both_turn : (ks : List KeptRow) (e : Entry) (es : List Entry) → next_turn (head ks) (Some e) ≡ turns.Both → merged ks (e ∷ es) ≡ shown_first e (merged (drop 1 ks) es)
both_turn [] e es h = absurd cc
both_turn (k ∷ ks) e es h = go (bytes_cmp k.key e.0.1) h
  where
    go : (o : Ordering) → IsTurn (match_ordering o turns.Row turns.Both turns.Entry) turns.Both
        → match_ordering o (k ∷ merged ks (e ∷ es)) (shown_first e (merged ks es)) (shown_first e (beside k (merged ks) es)) ≡ shown_first e (merged ks es)
    go Less h = absurd cc
    go Equal h = refl
    go Greater h = absurd cc

past : {X : Type 0} (xs : List X) (i : ℕ) → length xs ≤ i → head (drop i xs) ≡ None
past [] zero h = refl
past [] (suc i) h = refl
past (x ∷ xs) zero h = absurd (omega (arith, h))
past (x ∷ xs) (suc i) h = past xs i (omega (arith, h))

pub lent_head : {X : Type 0} (xs : List X) (i : ℕ) (r : Option (Bor X)) → IsItemAt xs i r → option_copied r ≡ head (drop i xs)
lent_head xs i None h = sym (past xs i h.3)
lent_head xs i (Some x) h = ap Some h.1 ∙ sym (ap head (drop_more xs i x.now h.3.0))

pub entry_at : (ks : List KeptRow) (held : List Entry) (i : ℕ) (e : Entry) → i < length held → e ≡ get_or held i e → next_turn (head ks) (head (drop i held)) ≡ turns.Entry
    → merged ks (drop i held) ≡ shown_first e (merged ks (drop (i + 1) held))
entry_at ks held i e low is h =
    let here : drop i held ≡ e ∷ drop (i + 1) held = drop_more held i e low ∙ ap (λ d. d ∷ drop (i + 1) held) (sym is) in
    ap (merged ks) here ∙ entry_turn ks e (drop (i + 1) held) (ap (λ l. next_turn (head ks) (head l)) (sym here) ∙ h)

pub both_at : (ks : List KeptRow) (held : List Entry) (i : ℕ) (e : Entry) → i < length held → e ≡ get_or held i e → next_turn (head ks) (head (drop i held)) ≡ turns.Both
    → merged ks (drop i held) ≡ shown_first e (merged (drop 1 ks) (drop (i + 1) held))
both_at ks held i e low is h =
    let here : drop i held ≡ e ∷ drop (i + 1) held = drop_more held i e low ∙ ap (λ d. d ∷ drop (i + 1) held) (sym is) in
    ap (merged ks) here ∙ both_turn ks e (drop (i + 1) held) (ap (λ l. next_turn (head ks) (head l)) (sym here) ∙ h)

pub low_of : {X : Type 0} (xs : List X) (i : ℕ) → (head (drop i xs) ≡ None → ⊥) → i < length xs
low_of [] zero h = absurd (h refl)
low_of [] (suc i) h = absurd (h refl)
low_of (x ∷ xs) zero h = omega arith
low_of (x ∷ xs) (suc i) h = let l = low_of xs i h in omega (arith, l)
