-- Following edges sets only nodes that they lead to, and where no edge moves, none is left.
use Rattle.std.proofs.Common.{◌≡◌, ◌∙◌, ℕ, zero, suc, ◌<◌, ◌≤◌, Bool, true, false, ◌&&◌, ◌||◌, not, cond, nat_lt, List, [], ◌∷◌, length, slice_set, count_by, refl, sym, ap, subst, ◌⊎◌, inl, inr, arith}
use Rattle.std.specs.Prelude.{Option, Some, slice_get}
use Rattle.std.proofs.lemmas.List.{length-set, get_or-set_same}
use Rattle.std.proofs.lemmas.List.Sums.{sum_by-cons}
use Rattle.std.proofs.lemmas.Bool.Decides.{nat_tests}
use Rattle.std.proofs.lemmas.Bool.{cases_Bool as either, not-true as edge_back}
use Rattle.base_lemmas.proofs.Bools.{not_both as apart, and_first as both_left, and_second as both_right}
use Rattle.model.specs.Membership.{Has}
use Rattle.access_closure.specs.declared.graph.Edge.{Edge}
use Rattle.access_closure.specs.Places.{is_on}
use Rattle.access_closure.specs.inner.Reached.{Closes, Reached, Works, any_moves, followed, moves, passed}

-- what is at a place of a list is in it
pub at_has : {X : Type 0} (xs : List X) (n : ℕ) (x : X) → slice_get xs n ≡ Some x → Has xs x
at_has [] n x e = absurd cc
at_has (y ∷ xs) zero x e = inl (sym (one y x e))
  where
    one : {X : Type 0} (a b : X) → ◌≡◌ {A = Option X} (Some a) (Some b) → a ≡ b
    one a b e = cc
at_has (y ∷ xs) (suc n) x e = inr (at_has xs n x e)

-- ---- one flag more

-- a flag that is set stays set
pub set_keeps : (flags : List Bool) (i n : ℕ) → is_on flags n ≡ true → is_on (slice_set flags i true) n ≡ true
set_keeps [] i n e = e
set_keeps (b ∷ flags) zero zero e = refl
set_keeps (b ∷ flags) zero (suc n) e = e
set_keeps (b ∷ flags) (suc i) zero e = e
set_keeps (b ∷ flags) (suc i) (suc n) e = set_keeps flags i n e

-- what is set then was set, or is the one
pub set_from : (flags : List Bool) (i n : ℕ) → is_on (slice_set flags i true) n ≡ true → (is_on flags n ≡ true) ⊎ (n ≡ i)
set_from [] i n e = inl e
set_from (b ∷ flags) zero zero e = inr refl
set_from (b ∷ flags) zero (suc n) e = inl e
set_from (b ∷ flags) (suc i) zero e = inl e
set_from (b ∷ flags) (suc i) (suc n) e = elim (set_from flags i n e) [ inl was ↦ inl was | inr is ↦ inr (ap suc is) ]

-- the one is set, if it is a place
pub set_there : (flags : List Bool) (i : ℕ) → i < length flags → is_on (slice_set flags i true) i ≡ true
set_there flags i h = get_or-set_same flags i true false h

abbrev one_off : Bool → ℕ
one_off b = cond (not b) 1 0

fewer_off : (flags : List Bool) (i : ℕ) → i < length flags → is_on flags i ≡ false → count_by not (slice_set flags i true) < count_by not flags
fewer_off [] i h off = absurd (omega (arith, h))
fewer_off (true ∷ flags) zero h off = absurd cc
fewer_off (false ∷ flags) zero h off = omega (arith, sum_by-cons one_off false flags, sum_by-cons one_off true flags)
fewer_off (b ∷ flags) (suc i) h off =
    let rest = fewer_off flags i (omega (arith, h)) off in
    omega (arith, sum_by-cons one_off b flags, sum_by-cons one_off b (slice_set flags i true))

-- ---- following an edge

-- what an edge that moves says
record Moves (flags : List Bool) (e : Edge) : Type 0 where
  from : is_on flags e.from ≡ true
  within : e.to < length flags
  off : is_on flags e.to ≡ false

moves_is : (flags : List Bool) (e : Edge) → moves flags e ≡ true → Moves flags e
moves_is flags e m =
    let rest = both_right (is_on flags e.from) (nat_lt e.to (length flags) && not (is_on flags e.to)) m in
    let near : nat_lt e.to (length flags) ≡ true = both_left (nat_lt e.to (length flags)) (not (is_on flags e.to)) rest in
    record {
      from = both_left (is_on flags e.from) (nat_lt e.to (length flags) && not (is_on flags e.to)) m;
      within = grind (arith, nat_tests);
      off = edge_back (is_on flags e.to) (both_right (nat_lt e.to (length flags)) (not (is_on flags e.to)) rest);
    }

-- what holds of the flags after an edge, by whether it moves
by_move : (P : List Bool → Type 0) (flags : List Bool) (e : Edge) → (moves flags e ≡ true → P (slice_set flags e.to true)) → (moves flags e ≡ false → P flags) → P (followed flags e)
by_move P flags e there stays = at (either (moves flags e))
  where
    at : (moves flags e ≡ true) ⊎ (moves flags e ≡ false) → P (followed flags e)
    at (inl m) = subst (λ (b : Bool). P (cond b (slice_set flags e.to true) flags)) (sym m) (there m)
    at (inr m) = subst (λ (b : Bool). P (cond b (slice_set flags e.to true) flags)) (sym m) (stays m)

pub works_begun : (edges : List Edge) (begun : List Bool) → Works edges begun begun
works_begun edges begun = record { long = refl; keeps = λ n h. h; sound = λ n h. Reached.begins h }

pub works_followed : (edges : List Edge) (begun held : List Bool) (e : Edge) → Works edges begun held → Has edges e → Works edges begun (followed held e)
works_followed edges begun held e w has = by_move (Works edges begun) held e there (λ m. w)
  where
    there : moves held e ≡ true → Works edges begun (slice_set held e.to true)
    there m = record {
      long = length-set held e.to true ∙ w.long;
      keeps = λ n h. set_keeps held e.to n (w.keeps n h);
      sound = λ n h. elim (set_from held e.to n h) [ inl was ↦ w.sound n was | inr is ↦ subst (Reached edges begun) (sym is) (Reached.goes e has (w.sound e.from (moves_is held e m).from)) ];
    }

-- ---- a pass

works_passed_on : (edges : List Edge) (begun held : List Bool) (rest : List Edge) → ((e : Edge) → Has rest e → Has edges e) → Works edges begun held → Works edges begun (passed held rest)
works_passed_on edges begun held [] among w = w
works_passed_on edges begun held (e ∷ rest) among w =
    works_passed_on edges begun (followed held e) rest (λ x h. among x (inr h)) (works_followed edges begun held e w (among e (inl refl)))

pub works_passed : (edges : List Edge) (begun held : List Bool) → Works edges begun held → Works edges begun (passed held edges)
works_passed edges begun held w = works_passed_on edges begun held edges (λ e h. h) w

followed_off : (flags : List Bool) (e : Edge) → count_by not (followed flags e) ≤ count_by not flags
followed_off flags e = by_move (λ f. count_by not f ≤ count_by not flags) flags e
    (λ m. let is = moves_is flags e m in let less = fewer_off flags e.to is.within is.off in omega arith)
    (λ m. omega arith)

passed_off : (flags : List Bool) (edges : List Edge) → count_by not (passed flags edges) ≤ count_by not flags
passed_off flags [] = omega arith
passed_off flags (e ∷ edges) =
    let one = followed_off flags e in
    let more = passed_off (followed flags e) edges in
    omega arith

pub fewer_passed : (flags : List Bool) (edges : List Edge) → any_moves flags edges ≡ true → count_by not (passed flags edges) < count_by not flags
fewer_passed flags [] m = absurd cc
fewer_passed flags (e ∷ edges) m = at (fewer_passed (followed flags e) edges) (either (moves flags e))
  where
    later : moves flags e ≡ false → any_moves (followed flags e) edges ≡ true
    later f = subst (λ (b : Bool). (b || any_moves (followed flags e) edges) ≡ true) f m

    at : (any_moves (followed flags e) edges ≡ true → count_by not (passed (followed flags e) edges) < count_by not (followed flags e))
        → (moves flags e ≡ true) ⊎ (moves flags e ≡ false) → count_by not (passed (followed flags e) edges) < count_by not flags
    at rest (inl is) =
        let more = passed_off (followed flags e) edges in
        let facts = moves_is flags e is in
        let less = fewer_off flags e.to facts.within facts.off in
        let after : followed flags e ≡ slice_set flags e.to true = ap (λ (b : Bool). cond b (slice_set flags e.to true) flags) is in
        let same : count_by not (followed flags e) ≡ count_by not (slice_set flags e.to true) = ap (count_by not) after in
        omega arith
    at rest (inr f) =
        let more = rest (later f) in
        let one = followed_off flags e in
        omega arith

-- where no edge moves, the flags stay, and each edge leads from what isn't set or to what is
record Idle (flags : List Bool) (edges : List Edge) : Type 0 where
  same : passed flags edges ≡ flags
  none : (e : Edge) → Has edges e → moves flags e ≡ false

unmoved : (flags : List Bool) (e : Edge) → moves flags e ≡ false → followed flags e ≡ flags
unmoved flags e f = ap (λ (b : Bool). cond b (slice_set flags e.to true) flags) f

stays : (flags : List Bool) (e : Edge) (edges : List Edge) → any_moves flags (e ∷ edges) ≡ false → moves flags e ≡ false
stays flags e edges m = at (moves flags e) (any_moves (followed flags e) edges) m
  where
    at : (a b : Bool) → (a || b) ≡ false → a ≡ false
    at true b k = absurd cc
    at false b k = refl

later : (flags : List Bool) (e : Edge) (edges : List Edge) → any_moves flags (e ∷ edges) ≡ false → any_moves (followed flags e) edges ≡ false
later flags e edges m = at (moves flags e) (any_moves (followed flags e) edges) m
  where
    at : (a b : Bool) → (a || b) ≡ false → b ≡ false
    at true b k = absurd cc
    at false b k = k

idle : (flags : List Bool) (edges : List Edge) → any_moves flags edges ≡ false → Idle flags edges
idle flags [] m = record { same = refl; none = λ e h. absurd h }
idle flags (e ∷ edges) m =
    let rest = idle (followed flags e) edges (later flags e edges m) in
    let after = stays flags e edges m in
    record {
      same = rest.same ∙ unmoved flags e after;
      none = λ x h. of x h after rest.none;
    }
  where
    of : (x : Edge) → Has (e ∷ edges) x → moves flags e ≡ false → ((y : Edge) → Has edges y → moves (followed flags e) y ≡ false) → moves flags x ≡ false
    of x (inl is) f none = ap (moves flags) is ∙ f
    of x (inr h) f none = ap (λ (g : List Bool). moves g x) (sym (unmoved flags e f)) ∙ none x h

still : (flags : List Bool) (e : Edge) → moves flags e ≡ false → is_on flags e.from ≡ true → e.to < length flags → is_on flags e.to ≡ true
still flags e m from within = at (either (is_on flags e.to))
  where
    at : (is_on flags e.to ≡ true) ⊎ (is_on flags e.to ≡ false) → is_on flags e.to ≡ true
    at (inl is) = is
    at (inr off) =
        let near : nat_lt e.to (length flags) ≡ true = grind (arith, nat_tests) in
        let moving : moves flags e ≡ true = ap (λ (b : Bool). b && (nat_lt e.to (length flags) && not (is_on flags e.to))) from ∙ ap (λ (b : Bool). b && not (is_on flags e.to)) near ∙ ap not off in
        absurd (apart (moves flags e) moving m)

pub closes : (edges : List Edge) (begun held : List Bool) → Works edges begun held → any_moves held edges ≡ false → Closes edges begun (passed held edges)
closes edges begun held w m = subst (Closes edges begun) (sym (idle held edges m).same) (record {
  works = w;
  closed = λ e has from within. still held e ((idle held edges m).none e has) from (subst (λ (k : ℕ). e.to < k) (sym w.long) within);
})

-- ---- one after the other

reached_on : (edges : List Edge) (first mid : List Bool) → Works edges first mid → (n : ℕ) → Reached edges mid n → Reached edges first n
reached_on edges first mid w n (Reached.begins {n = k} h) = w.sound k h
reached_on edges first mid w n (Reached.goes e has r) = Reached.goes e has (reached_on edges first mid w e.from r)

pub works_after : (edges : List Edge) (first mid last : List Bool) → Works edges first mid → Works edges mid last → Works edges first last
works_after edges first mid last v w = record {
  long = w.long ∙ v.long;
  keeps = λ n h. w.keeps n (v.keeps n h);
  sound = λ n h. reached_on edges first mid v n (w.sound n h);
}

pub closes_after : (edges : List Edge) (first mid last : List Bool) → Works edges first mid → Closes edges mid last → Closes edges first last
closes_after edges first mid last v c = record {
  works = works_after edges first mid last v c.works;
  closed = λ e has from within. c.closed e has from (subst (λ (k : ℕ). e.to < k) (sym v.long) within);
}
