-- What a record that was read, or one that was refused, says of the whole table.
use Rattle.std.proofs.Common.{◌≡◌, ◌≢◌, ◌<◌, ◌≤◌, ℕ, if◌then◌else◌, rules, arith, ◌&&◌, not, List, [], ◌∷◌, ◌++◌, length, Option, Some, None, Bool, true, false, refl, sym, ◌∙◌, length-append, nat_eq, nat_lt}
use Rattle.std.specs.Prelude.{IfSome}
use Rattle.std.specs.Str.{is_utf8, IsUtf8}
use Rattle.std.specs.List.{list_all, position, position_or_len}
use Rattle.std.proofs.lemmas.Str.{IsUtf8-from_is_utf8, is_utf8-from_IsUtf8}
use Rattle.std.proofs.lemmas.List.Folds.{list_all-append}
use Rattle.std.proofs.lemmas.Bool.{eq-eqb, eqb-true}
use Rattle.base_lemmas.proofs.Bools.{and-false as both-false}
use Rattle.csv.specs.Machine.{Read, next_record}
use Rattle.csv.specs.Records.{AllText}
use Rattle.csv.specs.Reading.{NextIs, Reached, ReadsNext, TookRecord, default_config, pending_of, records, source_of, strip_bom}
use Rattle.csv.specs.declared.reader.Reader.{Reader}
use Rattle.csv.specs.declared.parser.Config.{Config}
use Rattle.csv.specs.declared.parser.State.{State}
use Rattle.csv.specs.declared.parser.State.TheVariants as st
use Rattle.csv.proofs.ReadFacts.{reached-more}
use Rattle.base_csv.specs.Table.{begins_with_two_marks, first_refused, first_unfit, fits, is_text, table_of}
use Rattle.base_csv.specs.inner.Standing.{all_fit, width}
use Rattle.base_csv.proofs.Taken.{reached-records}

-- whether a record fits after these
abbrev pub fits_after : List (List (List ℕ)) → List (List ℕ) → Bool
fits_after [] cells = fits cells cells
fits_after (heading ∷ rows) cells = fits heading cells

-- text, as a test and as csv says it
pub text-is : (cells : List (List ℕ)) → AllText cells → is_text cells ≡ true
unfolding AllText
text-is [] h = refl
text-is (cell ∷ rest) h = rw (is_utf8-from_IsUtf8 cell h.0, text-is rest h.1) refl

is-text : (cells : List (List ℕ)) → is_text cells ≡ true → AllText cells
unfolding AllText
is-text [] e = tt
is-text (cell ∷ rest) e = by (is_utf8 cell) refl (is-text rest) e
  where
    by : (b : Bool) → is_utf8 cell ≡ b → (list_all is_utf8 rest ≡ true → AllText rest) → (b && list_all is_utf8 rest) ≡ true → IsUtf8 cell × AllText rest
    by true good more e = (IsUtf8-from_is_utf8 cell good, more e)
    by false good more e = cc e

no-text : (cells : List (List ℕ)) → ¬ (AllText cells) → is_text cells ≡ false
no-text cells h = by (is_text cells) refl
  where
    by : (b : Bool) → is_text cells ≡ b → is_text cells ≡ false
    by true e = absurd (h (is-text cells e))
    by false e = e

pub other-width : (a b : ℕ) → a ≢ b → nat_eq b a ≡ false
other-width a b h = by (nat_eq b a) refl
  where
    by : (t : Bool) → nat_eq b a ≡ t → nat_eq b a ≡ false
    by true e = absurd (h (sym (eqb-true b a e)))
    by false e = e

-- a record that isn't text fits after none, nor does one of another width
pub unfit-text : (rows : List (List (List ℕ))) (cells : List (List ℕ)) → ¬ (AllText cells) → fits_after rows cells ≡ false
unfit-text [] cells h = rw (no-text cells h) refl
unfit-text (heading ∷ rows) cells h = rw (no-text cells h) refl

pub unfit-width : (rows : List (List (List ℕ))) (cells : List (List ℕ)) (expected : ℕ) → width rows ≡ Some expected → expected ≢ length cells → fits_after rows cells ≡ false
unfit-width [] cells expected e h = cc e
unfit-width (heading ∷ rows) cells expected e h =
    let same : length heading ≡ expected = cc e in
    let other : nat_eq (length cells) (length heading) ≡ false = other-width (length heading) (length cells) (λ q. h (sym same ∙ q)) in
    rw (other) (both-false (is_text cells))

took-next : (cfg : Config) (s0 a b : State) (xs y : List ℕ) (rows : List (List (List ℕ))) (f : List (List ℕ)) (k : Option (List ℕ))
    → ReadsNext cfg a (Some y) k true f b → Reached cfg s0 xs rows a y
    → (s2 : State) × (z : List ℕ) × Reached cfg s0 xs (rows ++ f ∷ []) s2 z
took-next cfg s0 a b xs y rows f None r h = absurd r
took-next cfg s0 a b xs y rows f (Some z) r h = by (next_record cfg a [] [] y) refl r
  where
    by : (o : Option Read) → next_record cfg a [] [] y ≡ o → NextIs o true f b z → (s2 : State) × (z : List ℕ) × Reached cfg s0 xs (rows ++ f ∷ []) s2 z
    by None e n = cc n
    by (Some p) e n = (p.1, p.2, rw (n.1) (reached-more cfg s0 a xs y rows p h e))

-- a record that was taken is one of the source's
pub took-record : {R : Type 0} (rem : R → Option (List ℕ)) (a b : Reader R) (f : List (List ℕ)) (cfg : Config) (xs y : List ℕ) (rows : List (List (List ℕ)))
    → a.config ≡ cfg → source_of rem a ≡ Some y → Reached cfg st.StartRecord xs rows a.state y → TookRecord rem a b f
    → (rest : List (List (List ℕ))) × (records cfg xs ≡ (rows ++ f ∷ []) ++ rest)
took-record rem a b f cfg xs y rows ec ex h r =
    let g = took-next cfg st.StartRecord a.state b.state xs y rows f (pending_of (rem b.rdr) b) (rw (ec, ex) at r) h in
    reached-records cfg g.0 xs g.1 (rows ++ f ∷ []) g.2

-- a record that was read fits after those before it
pub fits-more : (rows : List (List (List ℕ))) (f : List (List ℕ)) (old new : Option ℕ) → old ≡ width rows → IfSome old (λ e. new ≡ Some e) → new ≡ Some (length f)
    → AllText f → all_fit rows ≡ true → (new ≡ width (rows ++ f ∷ [])) × (all_fit (rows ++ f ∷ []) ≡ true)
fits-more [] f old new w i n t all = (n, rw (text-is f t, eq-eqb (length f) (length f) refl) refl)
fits-more (heading ∷ rows) f old new w i n t all =
    let kept : new ≡ Some (length heading) = rw w at i in
    let same : length f ≡ length heading = cc (kept, n) in
    (kept, rw (list_all-append (fits heading) (heading ∷ rows) (f ∷ []), all, text-is f t, eq-eqb (length f) (length heading) same) refl)

-- the first place at which a test fails
passed-all : {X : Type 0} (test : X → Bool) (xs : List X) → list_all test xs ≡ true → position_or_len (λ x. not (test x)) xs ≡ length xs
passed-all test [] h = refl
passed-all test (x ∷ xs) h = by (test x) refl (passed-all test xs) h
  where
    by : (b : Bool) → test x ≡ b → (list_all test xs ≡ true → position_or_len (λ x. not (test x)) xs ≡ length xs) → (b && list_all test xs) ≡ true
        → position_or_len (λ x. not (test x)) (x ∷ xs) ≡ length (x ∷ xs)
    by true e more h = rw (e, more h) (omega arith)
    by false e more h = cc h

passed-until : {X : Type 0} (test : X → Bool) (xs rest : List X) (y : X) → list_all test xs ≡ true → test y ≡ false
    → position_or_len (λ x. not (test x)) ((xs ++ y ∷ []) ++ rest) ≡ length xs
passed-until test [] rest y h n = rw n refl
passed-until test (x ∷ xs) rest y h n = by (test x) refl (λ all. passed-until test xs rest y all n) h
  where
    by : (b : Bool) → test x ≡ b → (list_all test xs ≡ true → position_or_len (λ x. not (test x)) ((xs ++ y ∷ []) ++ rest) ≡ length xs) → (b && list_all test xs) ≡ true
        → position_or_len (λ x. not (test x)) (((x ∷ xs) ++ y ∷ []) ++ rest) ≡ length (x ∷ xs)
    by true e more h = rw (e, more h) (omega arith)
    by false e more h = cc h

position-none : {X : Type 0} (test : X → Bool) (xs : List X) → list_all test xs ≡ true → position (λ x. not (test x)) xs ≡ None
position-none test xs h =
    let whole : nat_lt (length xs) (length xs) ≡ false = search rules in
    rw (passed-all test xs h, whole) refl

position-some : {X : Type 0} (test : X → Bool) (xs rest : List X) (y : X) → list_all test xs ≡ true → test y ≡ false
    → position (λ x. not (test x)) ((xs ++ y ∷ []) ++ rest) ≡ Some (length xs)
position-some test xs rest y h n =
    let one = length-append xs (y ∷ []) in
    let more = length-append (xs ++ y ∷ []) rest in
    let inside : nat_lt (length xs) (length ((xs ++ y ∷ []) ++ rest)) ≡ true = search (rules, one, more) in
    rw (passed-until test xs rest y h n, inside) refl

unfit-at : (rows rest : List (List (List ℕ))) (f : List (List ℕ)) → all_fit rows ≡ true → fits_after rows f ≡ false
    → first_unfit ((rows ++ f ∷ []) ++ rest) ≡ Some (length rows)
unfit-at [] rest f h n = position-some (fits f) [] rest f refl n
unfit-at (heading ∷ rows) rest f h n = position-some (fits heading) (heading ∷ rows) rest f h n

unfit-none : (rows : List (List (List ℕ))) → 0 < length rows → all_fit rows ≡ true → first_unfit rows ≡ None
unfit-none [] some h = absurd (omega arith)
unfit-none (heading ∷ rows) some h = position-none (fits heading) (heading ∷ rows) h

-- what is refused of a source that doesn't begin with two marks
pub refused-at : (source : List ℕ) (rows rest : List (List (List ℕ))) (f : List (List ℕ)) → begins_with_two_marks source ≡ false
    → records default_config (strip_bom source) ≡ (rows ++ f ∷ []) ++ rest → all_fit rows ≡ true → fits_after rows f ≡ false
    → first_refused source ≡ Some (length rows)
refused-at source rows rest f marks e h n = rw (marks, e) (unfit-at rows rest f h n)

pub refused-empty : (source : List ℕ) (rows : List (List (List ℕ))) → begins_with_two_marks source ≡ false → table_of source ≡ rows → length rows ≡ 0
    → first_refused source ≡ Some 0
refused-empty source [] marks e none = rw (marks, e) refl
refused-empty source (heading ∷ rows) marks e none = absurd (omega (arith, none))

pub refused-none : (source : List ℕ) (rows : List (List (List ℕ))) → begins_with_two_marks source ≡ false → table_of source ≡ rows
    → 0 < length rows → all_fit rows ≡ true → first_refused source ≡ None
refused-none source rows marks e some h = rw (marks, e) (unfit-none rows some h)

-- where the first ones pass, one that fails stands after them
passed-front : {X : Type 0} (test : X → Bool) (xs rest : List X) → list_all test xs ≡ true → length xs ≤ position_or_len (λ x. not (test x)) (xs ++ rest)
passed-front test [] rest h = omega arith
passed-front test (x ∷ xs) rest h = by (test x) refl (passed-front test xs rest) h
  where
    by : (b : Bool) → test x ≡ b → (list_all test xs ≡ true → length xs ≤ position_or_len (λ x. not (test x)) (xs ++ rest)) → (b && list_all test xs) ≡ true
        → length (x ∷ xs) ≤ position_or_len (λ x. not (test x)) (x ∷ (xs ++ rest))
    by true e more h = rw e (omega (arith, more h))
    by false e more h = cc h

some-if : (b : Bool) (n k : ℕ) → (if b then Some n else None) ≡ Some k → n ≡ k
some-if true n k e = cc e
some-if false n k e = cc e

unfit-later : (rows rest : List (List (List ℕ))) (row : ℕ) → 0 < length rows → all_fit rows ≡ true → first_unfit (rows ++ rest) ≡ Some row → length rows ≤ row
unfit-later [] rest row some h e = absurd (omega (arith, some))
unfit-later (heading ∷ rows) rest row some h e =
    let front = passed-front (fits heading) (heading ∷ rows) rest h in
    let same = some-if _ (position_or_len (λ cells. not (fits heading cells)) ((heading ∷ rows) ++ rest)) row e in
    omega (arith, front, same)

-- so the record that is refused first stands after those that were read
pub refused-later : (source : List ℕ) (s : State) (ys : List ℕ) (rows : List (List (List ℕ))) (row : ℕ) → begins_with_two_marks source ≡ false
    → Reached default_config st.StartRecord (strip_bom source) rows s ys → 0 < length rows → all_fit rows ≡ true → first_refused source ≡ Some row → length rows ≤ row
refused-later source s ys rows row marks reached some h e =
    let t = reached-records default_config s (strip_bom source) ys rows reached in
    unfit-later rows t.0 row some h (rw (marks, t.1) at e)
