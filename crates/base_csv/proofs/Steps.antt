-- What one read says of where a reader stands, and of the record that it refuses.
use Rattle.std.proofs.Common.{◌≡◌, ◌≢◌, ◌<◌, inl, length-append, ℕ, ◌+◌, arith, not, min, List, [], ◌∷◌, ◌++◌, length, Option, Some, None, true, false, refl, sym, ap, subst, ◌∙◌, get_or}
use Rattle.std.specs.Prelude.{IfSome, slice_get}
use Rattle.std.specs.List.{position_or_len}
use Rattle.std.specs.Str.{is_utf8}
use Rattle.std.proofs.lemmas.Bool.{eq-eqb}
use Rattle.std.proofs.lemmas.Option.{get_or_from_slice_get, slice_get_past}
use Rattle.csv.specs.Records.{AllText}
use Rattle.csv.specs.Reading.{ExplainsRead, ReadRecord, TookRecord, default_config, is_flexible, strip_bom, took_first}
use Rattle.csv.specs.declared.reader.Reader.{Reader}
use Rattle.csv.specs.declared.parser.State.TheVariants as st
use Rattle.csv.specs.declared.error.ErrorKind.{ErrorKind}
use Rattle.csv.specs.declared.error.ErrorKind.TheVariants as kind
use Rattle.csv.proofs.ReadFacts.{rows-end, rows-more}
use Rattle.base_csv.specs.Place.{IsRefusedAt, TellsPlace, column_in, column_of, line_of}
use Rattle.base_csv.specs.Table.{begins_with_two_marks, first_refused, table_of}
use Rattle.base_csv.specs.inner.Kinds.{TellsText, TellsWidth}
use Rattle.base_csv.specs.inner.Standing.{StandsAt, width}
use Rattle.base_csv.specs.declared.fail.TableFail.{TableFail}
use Rattle.base_csv.specs.declared.fail.TableFail.TheVariants.{Memory, Refused}
use Rattle.base_csv.proofs.Fits.{fits-more, other-width, refused-at, refused-empty, refused-none, took-record, unfit-text, unfit-width}
use Rattle.base_csv.proofs.Taken.{ended-records}

abbrev Cells : Type 0
Cells = List (List ℕ)

-- the record after these
there : (rows rest : List Cells) (f : Cells) → slice_get ((rows ++ f ∷ []) ++ rest) (length rows) ≡ Some f
there [] rest f = refl
there (r ∷ rows) rest f = there rows rest f

there_at : (rows rest : List Cells) (f : Cells) (n : ℕ) → n ≡ length rows → slice_get ((rows ++ f ∷ []) ++ rest) n ≡ Some f
there_at rows rest f n e = rw e (there rows rest f)

-- ---- columns

of_width : (heading f : Cells) → length f ≡ length heading → column_in heading f ≡ position_or_len (λ cell. not (is_utf8 cell)) f + 1
of_width heading f e = rw (eq-eqb (length f) (length heading) e) refl

of_other : (heading f : Cells) → length heading ≢ length f → column_in heading f ≡ min (length heading) (length f) + 1
of_other heading f e = rw (other-width (length heading) (length f) e) refl

abbrev first_of : (rows rest : List Cells) (f : Cells) → Cells
first_of [] rest f = f
first_of (heading ∷ rows) rest f = heading

column_at : (source : List ℕ) (rows rest : List Cells) (f : Cells) (read : ℕ) → begins_with_two_marks source ≡ false → table_of source ≡ (rows ++ f ∷ []) ++ rest → read ≡ length rows
    → column_of read source ≡ column_in (first_of rows rest f) f
column_at source [] rest f read marks e n = rw (marks, e, n) refl
column_at source (heading ∷ rows) rest f read marks e n =
    let at : get_or (((heading ∷ rows) ++ f ∷ []) ++ rest) (length (heading ∷ rows)) [] ≡ f = get_or_from_slice_get (((heading ∷ rows) ++ f ∷ []) ++ rest) (length (heading ∷ rows)) f [] (there (heading ∷ rows) rest f) in
    rw (marks, e, n, at) refl

text_column : (source : List ℕ) (rows rest : List Cells) (f : Cells) (read : ℕ) → begins_with_two_marks source ≡ false → table_of source ≡ (rows ++ f ∷ []) ++ rest → read ≡ length rows
    → IfSome (width rows) (λ n. length f ≡ n) → column_of read source ≡ position_or_len (λ cell. not (is_utf8 cell)) f + 1
text_column source [] rest f read marks e n same = column_at source [] rest f read marks e n ∙ of_width f f refl
text_column source (heading ∷ rows) rest f read marks e n same = column_at source (heading ∷ rows) rest f read marks e n ∙ of_width heading f same

width_column : (source : List ℕ) (rows rest : List Cells) (f : Cells) (read expected : ℕ) → begins_with_two_marks source ≡ false → table_of source ≡ (rows ++ f ∷ []) ++ rest → read ≡ length rows
    → width rows ≡ Some expected → expected ≢ length f → column_of read source ≡ min expected (length f) + 1
width_column source [] rest f read expected marks e n w other = cc w
width_column source (heading ∷ rows) rest f read expected marks e n w other =
    let same : length heading ≡ expected = cc w in
    column_at source (heading ∷ rows) rest f read marks e n ∙ of_other heading f (λ q. other (sym same ∙ q)) ∙ ap (λ k. min k (length f) + 1) same

-- ---- one read

-- a source that begins with two marks
pub marked : (source : List ℕ) (fail : TableFail) → begins_with_two_marks source ≡ true → fail ≡ Refused 0 (line_of 0 source) 1 → TellsPlace source fail
marked source fail marks e = subst (TellsPlace source) (sym e) (record { refused = rw marks refl; line_is = refl; column_is = rw marks refl })

module _ {R : Type 0} (rem : R → Option (List ℕ)) (source : List ℕ) (read : ℕ) (a b : Reader R) (s : StandsAt rem source read a) where
  table : (f : Cells) → TookRecord rem a b f → (rest : List Cells) × (table_of source ≡ (s.all ++ f ∷ []) ++ rest)
  table f t = took-record rem a b f default_config (strip_bom source) s.rest s.all s.config s.left s.reached t

  pub record_is : (f : Cells) → ReadRecord rem a b true f → Some f ≡ slice_get (table_of source) read
  record_is f r =
      let t = table f r.0 in
      sym (ap (λ (x : List Cells). slice_get x read) t.1 ∙ there_at s.all t.0 f read s.number)

  pub goes_on : (f : Cells) → ReadRecord rem a b true f → AllText f → took_first b ≡ true → is_flexible b ≡ is_flexible a → StandsAt rem source (read + 1) b
  goes_on f r text first flexible =
      let m = rows-more rem a b f default_config st.StartRecord (strip_bom source) s.rest s.all s.config s.left s.reached r in
      let widths = r.5 refl s.flexible in
      let more = fits-more s.all f a.expected b.expected s.expected widths.0 widths.1 text s.fit in
      record {
        trim = r.3 ∙ s.trim;
        ready = inl first;
        config = r.2 ∙ s.config;
        flexible = flexible ∙ s.flexible;
        marks = s.marks;
        all = s.all ++ f ∷ [];
        number = omega (arith, s.number, length-append s.all (f ∷ []));
        expected = more.0;
        fit = more.1;
        rest = m.0;
        left = m.1;
        reached = m.2;
      }

  same_width : (f : Cells) (rows : List Cells) (old new : Option ℕ) → old ≡ width rows → IfSome old (λ e. new ≡ Some e) → new ≡ Some (length f) → IfSome (width rows) (λ n. length f ≡ n)
  same_width f [] old new w i n = tt
  same_width f (heading ∷ rows) old new w i n = let kept : new ≡ Some (length heading) = rw w at i in cc (kept, n)

  text_refused : (f : Cells) → ReadRecord rem a b true f → ¬ (AllText f) → IsRefusedAt source read (line_of read source) (position_or_len (λ cell. not (is_utf8 cell)) f + 1)
  text_refused f r bad =
      let t = table f r.0 in
      let widths = r.5 refl s.flexible in
      record {
        refused = refused-at source s.all t.0 f s.marks t.1 s.fit (unfit-text s.all f bad) ∙ ap (λ (n : ℕ). Some n) (sym s.number);
        line_is = refl;
        column_is = sym (text_column source s.all t.0 f read s.marks t.1 s.number (same_width f s.all a.expected b.expected s.expected widths.0 widths.1));
      }

  pub text_tells : (f : Cells) (fail : TableFail) → ReadRecord rem a b true f → TellsText f read (line_of read source) fail → TellsPlace source fail
  text_tells f Memory r w = tt
  text_tells f (Refused row line column) r w = rw (w.1.0, w.1.1, w.1.2) (text_refused f r w.0)

  pub width_refused : (k : ErrorKind) (fail : TableFail) → ExplainsRead rem a b false k → TellsWidth k read (line_of read source) fail → TellsPlace source fail
  width_refused k Memory h w = tt
  width_refused (kind.UnequalLengths pos expected len) (Refused row line column) h w =
      let t = table h.3 h.4 in
      let other : expected ≢ length h.3 = λ q. h.2 (q ∙ h.5) in
      let wide : width s.all ≡ Some expected = sym s.expected ∙ h.1 in
      rw (w.0, w.1, w.2) record {
        refused = refused-at source s.all t.0 h.3 s.marks t.1 s.fit (unfit-width s.all h.3 expected wide other) ∙ ap (λ (n : ℕ). Some n) (sym s.number);
        line_is = refl;
        column_is = ap (λ (n : ℕ). min expected n + 1) (sym h.5) ∙ sym (width_column source s.all t.0 h.3 read expected s.marks t.1 s.number wide other);
      }
  width_refused (kind.Utf8 pos err) (Refused row line column) h w = absurd w
  width_refused (kind.Io e) (Refused row line column) h w = absurd w
  width_refused kind.OutOfMemory (Refused row line column) h w = absurd w
  width_refused (kind.Serialize why) (Refused row line column) h w = absurd w
  width_refused (kind.Deserialize pos err) (Refused row line column) h w = absurd w

  all_read : (f : Cells) → ReadRecord rem a b false f → table_of source ≡ s.all
  all_read f r =
      let none = rows-end rem a b f default_config s.rest s.config s.left r in
      ended-records default_config a.state (strip_bom source) s.rest s.all s.reached none

  pub empty_refused : (f : Cells) → ReadRecord rem a b false f → read ≡ 0 → IsRefusedAt source 0 (line_of 0 source) 1
  empty_refused f r none =
      let all = all_read f r in
      let empty : length s.all ≡ 0 = omega (arith, s.number, none) in
      record {
        refused = refused-empty source s.all s.marks all empty;
        line_is = refl;
        column_is = of_none s.all all empty;
      }
    where
      of_none : (rows : List Cells) → table_of source ≡ rows → length rows ≡ 0 → 1 ≡ column_of 0 source
      of_none [] e n = rw (s.marks, e) refl
      of_none (r ∷ rows) e n = absurd (omega (arith, n))

  pub is_read : (f : Cells) → ReadRecord rem a b false f → read ≢ 0 → (None ≡ slice_get (table_of source) read) × (first_refused source ≡ None)
  is_read f r some =
      let all = all_read f r in
      let few : 0 < length s.all = omega (arith, s.number, some) in
      (sym (ap (λ (x : List Cells). slice_get x read) all ∙ slice_get_past s.all read (omega (arith, s.number))), refused-none source s.all s.marks all few s.fit)
