-- Rows that are offered one after the other.
use Rattle.std.proofs.Common.{◌≡◌, ◌∙◌, ℕ, zero, suc, ◌+◌, ◌<◌, ◌≤◌, Bool, true, false, cond, List, [], ◌∷◌, ◌++◌, Option, Some, None, refl, sym, ap, subst, arith, append_assoc, append-nil, length, drop, replicate, take}
use Rattle.std.specs.Prelude.{Result, Ok, Err, pos}
use Rattle.std.specs.List.{flat_map}
use Rattle.std.proofs.lemmas.Grind.{flat_map-append}
use Rattle.std.proofs.lemmas.List.{append_cancel_left, drop-append-le, length-append, length-drop, take-append-le, take-take}
use Rattle.std.proofs.lemmas.Option.{same_Some as some_inner}
use Rattle.store_rows.specs.declared.fail.StoreFail.TheVariants.{Damaged, Keeper, Memory}
use Rattle.record_read.specs.Decoding.{each_from}
use Rattle.model.specs.declared.record.Record.{Record}
use Rattle.model.specs.Rows.{limited}
use Rattle.store_codec.specs.Plain.{◌>>=◌}
use Rattle.query_exec.specs.declared.fail.ExecFail.{ExecFail}
use Rattle.query_exec.specs.declared.fail.ExecFail.TheVariants.{Store, TooLarge}
use Rattle.query_exec.specs.declared.offers.Progress.{Progress}
use Rattle.query_exec.specs.declared.window.Window.{Window}
use Rattle.query_exec.specs.Windows.{HasAll, IsWanted, in_window, is_none_left, is_over}
use Rattle.query_exec.specs.Ranks.{EachOf}
use Rattle.query_exec.specs.inner.Offers.{WritesTaken, Offered, Overflows, Written}

-- ---- what is made of each

-- what was made of a list that isn't empty
pub record Each {X Y : Type 0} (make : X → Option Y) (x : X) (xs : List X) (ys : List Y) : Type 0 where
  pub first : Y
  pub others : List Y
  pub is : ys ≡ first ∷ others
  pub made : make x ≡ Some first
  pub rest : each_from make xs ≡ Some others

pub each_cons : {X Y : Type 0} (make : X → Option Y) (x : X) (xs : List X) (ys : List Y) → each_from make (x ∷ xs) ≡ Some ys → Each make x xs ys
each_cons {X = X} {Y = Y} make x xs ys e = by (make x) (each_from make xs) refl refl e
  where
    by : (o : Option Y) (p : Option (List Y)) → make x ≡ o → each_from make xs ≡ p → ◌≡◌ {A = Option (List Y)} (o >>= λ z. p >>= λ zs. Some (z ∷ zs)) (Some ys) → Each make x xs ys
    by None p first rest e = absurd cc
    by (Some z) None first rest e = absurd cc
    by (Some z) (Some zs) first rest e = record { first = z; others = zs; is = sym (some_inner (z ∷ zs) ys e); made = first; rest = rest }

pub each_none : {X Y : Type 0} (make : X → Option Y) (ys : List Y) → each_from make [] ≡ Some ys → ys ≡ []
each_none make ys e = sym (some_inner [] ys e)

-- ---- windows

pub over_takes_none : (w : Window) (rows : List Record) → is_over w ≡ true → in_window w rows ≡ []
over_takes_none w rows over = by w.most (drop w.skip rows) over
  where
    by : (most : Option ℕ) (rows : List Record) → is_none_left most ≡ true → limited most rows ≡ []
    by None rows over = absurd cc
    by (Some zero) rows over = refl
    by (Some (suc n)) rows over = absurd cc

none_dropped : (n : ℕ) → ◌≡◌ {A = List Record} (drop n []) []
none_dropped zero = refl
none_dropped (suc k) = refl

pub none_taken : (w : Window) → in_window w [] ≡ []
none_taken w = ap (limited w.most) (none_dropped w.skip) ∙ by w.most
  where
    by : (most : Option ℕ) → ◌≡◌ {A = List Record} (limited most []) []
    by None = refl
    by (Some zero) = refl
    by (Some (suc n)) = refl

-- rows behind those that have all that are taken are not taken
pub all_taken : (w : Window) (xs ys : List Record) → HasAll w.skip w.most (length xs) → in_window w (xs ++ ys) ≡ in_window w xs
all_taken w xs ys h = by w.most h
  where
    by : (most : Option ℕ) → HasAll w.skip most (length xs) → limited most (drop w.skip (xs ++ ys)) ≡ limited most (drop w.skip xs)
    by None h = absurd h
    by (Some zero) h = refl
    by (Some (suc n)) h =
        ap (take (suc n)) (drop-append-le w.skip xs ys (omega (arith, h)))
        ∙ take-append-le (suc n) (drop w.skip xs) ys (omega (arith, h, length-drop w.skip xs))

-- some row
some_row : Record
some_row = record { id = []; owner = None; created = pos 0; modified = pos 0; values = [] }

-- a window that isn't over takes one of enough rows
takes_some : (w : Window) → ((rows : List Record) → in_window w rows ≡ []) → is_over w ≡ true
takes_some w none = by w.most (none (replicate (suc w.skip) some_row))
  where
    apart : (r : Record) (rs : List Record) → r ∷ rs ≡ [] → ⊥
    apart r rs e = cc

    one : (skip : ℕ) → (others : List Record) × (drop skip (replicate (suc skip) some_row) ≡ some_row ∷ others)
    one zero = ([], refl)
    one (suc skip) = one skip

    by : (most : Option ℕ) → limited most (drop w.skip (replicate (suc w.skip) some_row)) ≡ [] → is_none_left most ≡ true
    by None e = let x = one w.skip in absurd (apart some_row x.0 (sym x.1 ∙ e))
    by (Some zero) e = refl
    by (Some (suc n)) e = let x = one w.skip in absurd (apart some_row (take n x.0) (sym (ap (take (suc n)) x.1) ∙ e))

-- of rows of which the first that are wanted are the same, the same are taken
pub same_taken : (w : Window) (wanted : Option ℕ) (xs ys : List Record) → IsWanted w.skip w.most wanted → limited wanted xs ≡ limited wanted ys → in_window w xs ≡ in_window w ys
same_taken w wanted xs ys is same = by w.most wanted is same
  where
    within : (skip most first : ℕ) (rows : List Record) → first ≡ skip + most → take most (drop skip (take first rows)) ≡ take most (drop skip rows)
    within zero most first rows e = take-take most first rows (omega (arith, e))
    within (suc skip) most zero rows e = absurd (omega (arith, e))
    within (suc skip) most (suc first) [] e = refl
    within (suc skip) most (suc first) (r ∷ rows) e = within skip most first rows (omega (arith, e))

    by : (most first : Option ℕ) → IsWanted w.skip most first → limited first xs ≡ limited first ys → limited most (drop w.skip xs) ≡ limited most (drop w.skip ys)
    by most None is same = ap (λ (rows : List Record). limited most (drop w.skip rows)) same
    by None (Some n) is same = absurd is
    by (Some m) (Some n) is same =
        sym (within w.skip m n xs is) ∙ ap (λ (rows : List Record). take m (drop w.skip rows)) same ∙ within w.skip m n ys is

-- ---- one after the other

module _ (row : Record → List ℕ) where
  pub goes_none : (p : Progress) (out : List ℕ) → WritesTaken row p p out out []
  goes_none p out = record { written = []; appended = sym (append-nil out); counted = omega arith; fits = omega arith; rest = λ rest. refl }

  -- a row that is admitted, and written
  pub goes_one : (p : Progress) (w : Window) (room count : ℕ) (r : Record) (old new : List ℕ) (b : Bool)
      → ((x : Record) (rest : List Record) → in_window p.window (x ∷ rest) ≡ cond b (x ∷ in_window w rest) (in_window w rest)) → b ≡ true
      → new ≡ old ++ row r → room + length (row r) ≡ p.room → count ≡ p.count + 1
      → WritesTaken row p (record { window = w; room = room; count = count }) old new (r ∷ [])
  goes_one p w room count r old new b admits taken appended fits counted = record {
    written = r ∷ [];
    appended = appended ∙ ap (λ (bytes : List ℕ). old ++ bytes) (sym (append-nil (row r)));
    counted = counted;
    fits = ap (λ (bytes : List ℕ). room + length bytes) (append-nil (row r)) ∙ fits;
    rest = λ rest. sym (admits r rest ∙ ap (λ b. cond b (r ∷ in_window w rest) (in_window w rest)) taken);
  }

  -- a row that the window admitted
  pub offers_one : (p : Progress) (w : Window) (r : Record) (old new : List ℕ) (b : Bool)
      → ((x : Record) (rest : List Record) → in_window p.window (x ∷ rest) ≡ cond b (x ∷ in_window w rest) (in_window w rest)) → b ≡ true
      → (to : Progress) (result : Result (Unit {0}) ExecFail) → Written (row r) (record { window = w; room = p.room; count = p.count }) to old new result
      → Offered row p to old new (r ∷ []) result
  offers_one p w r old new b admits taken to (Ok x) h =
      subst (λ (v : Window). WritesTaken row p (record { window = v; room = to.room; count = to.count }) old new (r ∷ [])) (sym h.0)
      (goes_one p w to.room to.count r old new b admits taken h.1 h.2 h.3)
  offers_one p w r old new b admits taken to (Err TooLarge) h = λ rest.
      let all : in_window p.window (r ∷ rest) ≡ r ∷ in_window w rest = admits r rest ∙ ap (λ b. cond b (r ∷ in_window w rest) (in_window w rest)) taken in
      let long : length (flat_map row (in_window p.window (r ∷ rest))) ≡ length (row r) + length (flat_map row (in_window w rest)) =
      ap (λ (rs : List Record). length (flat_map row rs)) all ∙ length-append (row r) (flat_map row (in_window w rest)) in
      omega (arith, long, h)
  offers_one p w r old new b admits taken to (Err (Store Damaged)) h = h
  offers_one p w r old new b admits taken to (Err (Store Keeper)) h = tt
  offers_one p w r old new b admits taken to (Err (Store Memory)) h = tt

  -- a row that it didn't
  pub offers_none : (p : Progress) (w : Window) (r : Record) (out : List ℕ) (b : Bool)
      → ((x : Record) (rest : List Record) → in_window p.window (x ∷ rest) ≡ cond b (x ∷ in_window w rest) (in_window w rest)) → b ≡ false
      → WritesTaken row p (record { window = w; room = p.room; count = p.count }) out out (r ∷ [])
  offers_none p w r out b admits left = record {
    written = [];
    appended = sym (append-nil out);
    counted = omega arith;
    fits = omega arith;
    rest = λ rest. sym (admits r rest ∙ ap (λ b. cond b (r ∷ in_window w rest) (in_window w rest)) left);
  }

  module _ (a b : Progress) (old mid : List ℕ) (xs : List Record) (g : WritesTaken row a b old mid xs) where
    -- further rows
    pub goes_on : (c : Progress) (new : List ℕ) (ys : List Record) → WritesTaken row b c mid new ys → WritesTaken row a c old new (xs ++ ys)
    goes_on c new ys h =
        let both = flat_map-append row g.written h.written in
        let long = ap length both ∙ length-append (flat_map row g.written) (flat_map row h.written) in
        record {
          written = g.written ++ h.written;
          appended = h.appended ∙ ap (λ (bytes : List ℕ). bytes ++ flat_map row h.written) g.appended
              ∙ append_assoc old (flat_map row g.written) (flat_map row h.written) ∙ ap (λ (bytes : List ℕ). old ++ bytes) (sym both);
          counted = omega (arith, h.counted, g.counted, length-append g.written h.written);
          fits = omega (arith, h.fits, g.fits, long);
          rest = λ rest. append_assoc g.written h.written (in_window c.window rest) ∙ ap (λ (rs : List Record). g.written ++ rs) (h.rest rest)
              ∙ g.rest (ys ++ rest) ∙ ap (in_window a.window) (sym (append_assoc xs ys rest));
        }

    -- no further row is taken
    pub goes_over : (ys : List Record) → is_over b.window ≡ true → WritesTaken row a b old mid (xs ++ ys)
    goes_over ys over = record {
      written = g.written;
      appended = g.appended;
      counted = g.counted;
      fits = g.fits;
      rest = λ rest. ap (λ (rs : List Record). g.written ++ rs) (over_takes_none b.window rest over ∙ sym (over_takes_none b.window (ys ++ rest) over))
          ∙ g.rest (ys ++ rest) ∙ ap (in_window a.window) (sym (append_assoc xs ys rest));
    }

    -- they have all rows that are taken, so no further one is
    pub all_over : (seen more : List Record) → xs ≡ seen ++ more → HasAll a.window.skip a.window.most (length seen) → is_over b.window ≡ true
    all_over seen more is enough = takes_some b.window (λ rest. append_cancel_left g.written (in_window b.window rest) [] (all rest ∙ sym (all []) ∙ ap (λ (rs : List Record). g.written ++ rs) (none_taken b.window)))
      where
        all : (ys : List Record) → g.written ++ in_window b.window ys ≡ in_window a.window seen
        all ys = g.rest ys ∙ ap (λ (rs : List Record). in_window a.window (rs ++ ys)) is ∙ ap (in_window a.window) (append_assoc seen more ys) ∙ all_taken a.window seen (more ++ ys) enough

    overflows_on : (ys : List Record) → Overflows row b ys → Overflows row a (xs ++ ys)
    overflows_on ys h rest =
        let all : g.written ++ in_window b.window (ys ++ rest) ≡ in_window a.window ((xs ++ ys) ++ rest) = g.rest (ys ++ rest) ∙ ap (in_window a.window) (sym (append_assoc xs ys rest)) in
        let long : length (flat_map row g.written) + length (flat_map row (in_window b.window (ys ++ rest))) ≡ length (flat_map row (in_window a.window ((xs ++ ys) ++ rest))) =
        sym (length-append (flat_map row g.written) (flat_map row (in_window b.window (ys ++ rest))))
        ∙ ap length (sym (flat_map-append row g.written (in_window b.window (ys ++ rest)))) ∙ ap (λ (rs : List Record). length (flat_map row rs)) all in
        let more : b.room < length (flat_map row (in_window b.window (ys ++ rest))) = h rest in
        omega (arith, long, more, g.fits)

    -- it stopped at these, and more were to follow
    pub stops : (c : Progress) (new : List ℕ) (ys zs : List Record) (e : ExecFail) → Offered row b c mid new ys (Err e) → Offered row a c old new (xs ++ (ys ++ zs)) (Err e)
    stops c new ys zs TooLarge h =
        λ rest. subst (λ (rs : List Record). a.room < length (flat_map row (in_window a.window rs)))
        (ap (λ (rs : List Record). rs ++ rest) (append_assoc xs ys zs))
        (subst (λ (rs : List Record). a.room < length (flat_map row (in_window a.window rs))) (sym (append_assoc (xs ++ ys) zs rest)) (overflows_on ys h (zs ++ rest)))
    stops c new ys zs (Store Damaged) h = h
    stops c new ys zs (Store Keeper) h = tt
    stops c new ys zs (Store Memory) h = tt

-- ---- rows and their records

pub each_of_made : {X : Type 0} (make : X → Option Record) (xs : List X) (rs : List Record) → each_from make xs ≡ Some rs → EachOf (λ x r. make x ≡ Some r) xs rs
each_of_made make [] [] e = tt
each_of_made make [] (r ∷ rs) e = absurd cc
each_of_made make (x ∷ xs) [] e = let n = each_cons make x xs [] e in let is : [] ≡ n.first ∷ n.others = n.is in absurd cc
each_of_made make (x ∷ xs) (r ∷ rs) e =
    let n = each_cons make x xs (r ∷ rs) e in
    let first : n.first ≡ r = let is : r ∷ rs ≡ n.first ∷ n.others = n.is in cc in
    let others : n.others ≡ rs = let is : r ∷ rs ≡ n.first ∷ n.others = n.is in cc in
    (n.made ∙ ap Some first, each_of_made make xs rs (n.rest ∙ ap Some others))

module _ {X : Type 0} (P : X → Record → Type 0) where
  -- the record of the first of these, and those of the others
  pub record Split (x : X) (xs : List X) (rs : List Record) : Type 0 where
    pub first : Record
    pub others : List Record
    pub is : rs ≡ first ∷ others
    pub made : P x first
    pub rest : EachOf P xs others

  pub each_split : (x : X) (xs : List X) (rs : List Record) → EachOf P (x ∷ xs) rs → Split x xs rs
  each_split x xs [] e = absurd e
  each_split x xs (r ∷ rs) e = record { first = r; others = rs; is = refl; made = e.0; rest = e.1 }

  pub each_nothing : (rs : List Record) → EachOf P [] rs → rs ≡ []
  each_nothing [] e = refl
  each_nothing (r ∷ rs) e = absurd e

  -- of these some are still left, and of the records of the others something holds
  pub record Through (Q : List Record → Type 0) (left : List X) (page : List Record) : Type 0 where
    pub seen : List Record
    pub coming : List Record
    pub read : EachOf P left coming
    pub split : seen ++ coming ≡ page
    pub does : Q seen

  pub through_next : (Q R : List Record → Type 0) (x : X) (more : List X) (page : List Record) → Through Q (x ∷ more) page
      → ((seen rest : List Record) (r : Record) → seen ++ r ∷ rest ≡ page → P x r → Q seen → R (seen ++ r ∷ [])) → Through R more page
  through_next Q R x more page t step =
      let n = each_split x more t.coming t.read in
      record {
        seen = t.seen ++ n.first ∷ [];
        coming = n.others;
        read = n.rest;
        split = append_assoc t.seen (n.first ∷ []) n.others ∙ ap (λ (rs : List Record). t.seen ++ rs) (sym n.is) ∙ t.split;
        does = step t.seen n.others n.first (ap (λ (rs : List Record). t.seen ++ rs) (sym n.is) ∙ t.split) n.made t.does;
      }

-- ---- all rows

-- what was written is all that was to be
pub record AllWritten (row : Record → List ℕ) (a b : Progress) (old new : List ℕ) (rows : List Record) : Type 0 where
  pub counted : b.count ≡ a.count + length rows
  pub appended : new ≡ old ++ flat_map row rows
  pub fits : length (flat_map row rows) ≤ a.room

pub all_written : (row : Record → List ℕ) (a b : Progress) (old new : List ℕ) (xs rest : List Record) → WritesTaken row a b old new xs → in_window b.window rest ≡ [] → AllWritten row a b old new (in_window a.window (xs ++ rest))
all_written row a b old new xs rest g none =
    let is : g.written ≡ in_window a.window (xs ++ rest) = sym (append-nil g.written) ∙ ap (λ (rs : List Record). g.written ++ rs) (sym none) ∙ g.rest rest in
    subst (AllWritten row a b old new) is (record { counted = g.counted; appended = g.appended; fits = omega (arith, g.fits) })
