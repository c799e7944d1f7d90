-- Parts in turn, and slots one after the other.
use Rattle.std.proofs.Common.{◌≡◌, ℕ, suc, ◌==◌, Bool, true, false, cond, List, [], ◌∷◌, length, Option, Some, None, refl, sym, ◌∙◌, ap}
use Rattle.std.specs.Option.{option_map}
use Rattle.std.specs.Prelude.{is_some}
use Rattle.store_codec.specs.Composed.{in_turn_at}
use Rattle.store_codec.specs.Plain.{◌>>=◌, optional_at, text_at, whole}
use Rattle.store_view.specs.Slots.{slot_in}

-- a part up to the end, and one that leaves bytes
module _ {A : Type 0} (f : List ℕ → Option (A × List ℕ)) where
  pub whole_none : (bytes : List ℕ) → f bytes ≡ None → whole f bytes ≡ None
  whole_none bytes e = rw e refl

-- ---- slots

abbrev Slot : Type 0
Slot = Option (List ℕ)

abbrev behind : Option (Slot × List ℕ) → Option (List ℕ)
behind o = option_map (λ x. x.1) o

-- what is at the front, where something is behind it, and that nothing is, where nothing is
pub front_of : (bytes rest : List ℕ) → behind (optional_at text_at bytes) ≡ Some rest → (t : Slot) × (optional_at text_at bytes ≡ Some (t, rest))
front_of bytes rest e = by (optional_at text_at bytes) refl e
  where
    by : (o : Option (Slot × List ℕ)) → optional_at text_at bytes ≡ o → behind o ≡ Some rest → (t : Slot) × (optional_at text_at bytes ≡ Some (t, rest))
    by None is e = absurd cc
    by (Some (t, r)) is e = let same : r ≡ rest = cc in (t, is ∙ ap (λ (r : List ℕ). Some (t, r)) same)

pub no_front : (bytes : List ℕ) → behind (optional_at text_at bytes) ≡ None → optional_at text_at bytes ≡ None
no_front bytes e = by (optional_at text_at bytes) refl e
  where
    by : (o : Option (Slot × List ℕ)) → optional_at text_at bytes ≡ o → behind o ≡ None → optional_at text_at bytes ≡ None
    by None is e = is
    by (Some x) is e = absurd cc

abbrev pub are : ℕ → List ℕ → Bool
are n bytes = is_some (whole (in_turn_at (optional_at text_at) n) bytes)

pub none_left : (bytes : List ℕ) → are 0 bytes ≡ (length bytes == 0)
unfolding in_turn_at
none_left bytes = by_test (length bytes == 0)
  where
    by_test : (b : Bool) → is_some (cond {A = Option (List Slot)} b (Some []) None) ≡ b
    by_test true = refl
    by_test false = refl

abbrev more : ℕ → Slot × List ℕ → Option (List Slot × List ℕ)
more n x = in_turn_at (optional_at text_at) n x.1 >>= λ y. Some (x.0 ∷ y.0, y.1)

turn_is : (n : ℕ) (bytes : List ℕ) → in_turn_at (optional_at text_at) (suc n) bytes ≡ (optional_at text_at bytes >>= more n)
unfolding in_turn_at
turn_is n bytes = refl

pub breaks : (n : ℕ) (bytes : List ℕ) → optional_at text_at bytes ≡ None → are (suc n) bytes ≡ false
breaks n bytes e = ap is_some (whole_none (in_turn_at (optional_at text_at) (suc n)) bytes (turn_is n bytes ∙ ap (λ o. o >>= more n) e))

abbrev ended : Option (List Slot × List ℕ) → Option (List Slot)
ended o = o >>= λ (x : List Slot × List ℕ). cond (length x.1 == 0) (Some x.0) None

pub goes_on : (n : ℕ) (bytes rest : List ℕ) (t : Slot) → optional_at text_at bytes ≡ Some (t, rest) → are (suc n) bytes ≡ are n rest
goes_on n bytes rest t e = ap (λ (o : Option (List Slot × List ℕ)). is_some (ended o)) (turn_is n bytes ∙ ap (λ (o : Option (Slot × List ℕ)). o >>= more n) e) ∙ by (in_turn_at (optional_at text_at) n rest)
  where
    by_test : (b : Bool) (xs ys : List Slot) → is_some (cond {A = Option (List Slot)} b (Some xs) None) ≡ is_some (cond {A = Option (List Slot)} b (Some ys) None)
    by_test true xs ys = refl
    by_test false xs ys = refl

    by : (o : Option (List Slot × List ℕ)) → is_some (ended (o >>= λ (y : List Slot × List ℕ). Some (t ∷ y.0, y.1))) ≡ is_some (ended o)
    by None = refl
    by (Some y) = by_test (length y.1 == 0) (t ∷ y.0) y.0

-- ---- one of them

abbrev texts_of : Option (List Slot × List ℕ) → List Slot
texts_of None = []
texts_of (Some y) = y.0

pub no_slots : (bytes : List ℕ) (texts : List Slot) (n : ℕ) → in_turn_at (optional_at text_at) 0 bytes ≡ Some (texts, []) → slot_in texts n ≡ None
unfolding in_turn_at
no_slots bytes texts n e = ap (λ ts. slot_in ts n) (sym (ap texts_of e))

pub record Turn (n : ℕ) (bytes : List ℕ) (texts : List Slot) : Type 0 where
  pub text : Slot
  pub rest : List ℕ
  pub others : List Slot
  pub here : optional_at text_at bytes ≡ Some (text, rest)
  pub there : in_turn_at (optional_at text_at) n rest ≡ Some (others, [])
  pub same : texts ≡ text ∷ others

bind_some : {X Y : Type 0} (o : Option X) (f : X → Option Y) (y : Y) → (o >>= f) ≡ Some y → (x : X) × (o ≡ Some x) × (f x ≡ Some y)
bind_some None f y h = absurd (cc)
bind_some (Some x) f y h = (x, refl, h)

abbrev left_of : Option (List Slot × List ℕ) → List ℕ
left_of None = []
left_of (Some y) = y.1

pub turn : (n : ℕ) (bytes : List ℕ) (texts : List Slot) → in_turn_at (optional_at text_at) (suc n) bytes ≡ Some (texts, []) → Turn n bytes texts
turn n bytes texts e =
    let x = bind_some (optional_at text_at bytes) (more n) _ (sym (turn_is n bytes) ∙ e) in
    let y = bind_some (in_turn_at (optional_at text_at) n x.0.1) _ _ x.2 in
    let left : y.0.1 ≡ [] = ap left_of y.2 in
    record {
      text = x.0.0;
      rest = x.0.1;
      others = y.0.0;
      here = x.1;
      there = y.1 ∙ ap (λ l. Some (y.0.0, l)) left;
      same = sym (ap texts_of y.2);
    }
