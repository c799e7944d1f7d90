-- What is read is valid, what is printed reads back, and what is converted is valid.
use Rattle.std.proofs.Common.{◌≡◌, ℕ, Bool, true, false, ◌&&◌, ◌||◌, cond, List, [], ◌∷◌, ◌++◌, length, Option, Some, None, Result, Ok, Err, ℤ, pos, ◌*ℤ◌, refl, sym, ap, subst, ◌∙◌, arith, inr}
use Rattle.std.specs.Prelude.{bytes_eq, nat_le}
use Rattle.std.specs.List.{list_any, list_all}
use Rattle.std.specs.Str.{all_scalars}
use Rattle.std.proofs.lemmas.Bool.Decides.{nat_tests}
use Rattle.std.proofs.lemmas.Slice.Eq.{bytes_eq-Decides}
use Rattle.std.proofs.lemmas.Option.{same_Some as same_some}
use Rattle.std.proofs.lemmas.Bool.{and_parts as both}
use Rattle.base_lemmas.proofs.Texts.{scalars-ascii as ascii_scalars}
use Rattle.base_lemmas.proofs.Results.{same_Ok as same_ok}
use Rattle.base_value.specs.Conversion.{convert, number_of_truth, where_read}
use Rattle.base_value.specs.Dates.{is_day, is_moment}
use Rattle.base_value.specs.Id.{id_in, is_id, print18, suffix}
use Rattle.base_value.specs.Numerals.{is_within}
use Rattle.base_value.specs.Printing.{day_of_moment, is_printable, print_day, print_moment, print_number, print_value}
use Rattle.base_value.specs.Reading.{as_id, as_value, empty_value, read_day, read_moment, read_number, read_truth, read_value, read_written}
use Rattle.base_value.specs.Types.{is_choice, is_type}
use Rattle.base_value.specs.Texts.{texts_differ}
use Rattle.base_value.specs.Values.{valid}
use Rattle.base_value.specs.declared.fail.ValueFail.{ValueFail}
use Rattle.base_value.specs.declared.fail.ValueFail.TheVariants.{TooLong, NotListed}
use Rattle.base_value.specs.declared.value.FieldType.{FieldType}
use Rattle.base_value.specs.declared.value.FieldType.TheVariants as type
use Rattle.base_value.specs.declared.value.Value.{Value}
use Rattle.base_value.specs.declared.value.Value.TheVariants as value
use Rattle.base_value.proofs.DateLaws.{day_valid, moment_valid}
use Rattle.base_value.proofs.DateTextLaws.{day_back, moment_back, day_starts, moment_starts, day_ascii, moment_ascii, first_second, day_of_valid}
use Rattle.base_value.proofs.NumberLaws.{number_valid, number_back, number_starts, number_ascii}
use Rattle.base_value.proofs.Spelled.{id_read, spells, text_ascii}

-- ---- what is read is valid
chosen : {X E : Type 0} (b : Bool) (x v : X) (e : E) → cond b (Ok x) (Err e) ≡ Ok v → (b ≡ true) × (x ≡ v)
chosen true x v e h = (refl, cc)
chosen false x v e h = absurd cc

was_read : {X : Type 0} (make : X → Value) (r : Result X ValueFail) (v : Value) → as_value make r ≡ Ok v → (x : X) × (r ≡ Ok x) × (make x ≡ v)
was_read make (Ok x) v h = (x, refl, cc)
was_read make (Err e) v h = absurd cc

along : (kind : FieldType) (v w : Value) → v ≡ w → valid kind v ≡ true → valid kind w ≡ true
along kind v w e h = subst (λ (x : Value). valid kind x ≡ true) e h

empty_valid : (kind : FieldType) → valid kind (empty_value kind) ≡ true
empty_valid (type.Text most) = refl
empty_valid (type.Number digits decimals) = refl
empty_valid type.Checkbox = refl
empty_valid type.Day = refl
empty_valid type.Moment = refl
empty_valid (type.Picklist values) = refl
empty_valid (type.Lookup object on_delete) = refl
empty_valid (type.Master object) = refl

was_id : (found : Option (List ℕ)) (id : List ℕ) → as_id found ≡ Ok id → found ≡ Some id
was_id (Some x) id h = cc
was_id None id h = absurd cc

id_valid : (cs : List ℕ) (v : Value) → as_value (λ id. value.Ref id) (as_id (id_in cs)) ≡ Ok v → (id : List ℕ) × (value.Ref id ≡ v) × (is_id id ≡ true)
id_valid cs v h =
    let r = was_read (λ (id : List ℕ). value.Ref id) (as_id (id_in cs)) v h in
    (r.0, r.2, (spells cs r.0 (was_id (id_in cs) r.0 r.1)).0)

written_valid : (kind : FieldType) (c : ℕ) (cs : List ℕ) (v : Value) → all_scalars (c ∷ cs) ≡ true → read_written kind (c ∷ cs) ≡ Ok v → valid kind v ≡ true
written_valid (type.Text most) c cs v s h =
    let r = chosen (nat_le (length (c ∷ cs)) most) (value.Text (c ∷ cs)) v TooLong h in
    let some : nat_le 1 (length (c ∷ cs)) ≡ true = grind (arith, nat_tests) in
    along (type.Text most) (value.Text (c ∷ cs)) v r.1 (rw (s, some, r.0) refl)
written_valid (type.Number digits decimals) c cs v s h =
    let r = was_read (λ (count : ℤ). value.Num count) (read_number digits decimals (c ∷ cs)) v h in
    along (type.Number digits decimals) (value.Num r.0) v r.2 (number_valid digits decimals (c ∷ cs) r.0 r.1)
written_valid type.Checkbox c cs v s h =
    let r = was_read (λ (truth : Bool). value.Bool truth) (read_truth (c ∷ cs)) v h in
    along type.Checkbox (value.Bool r.0) v r.2 refl
written_valid type.Day c cs v s h =
    let r = was_read (λ (day : ℤ). value.Day day) (read_day (c ∷ cs)) v h in
    along type.Day (value.Day r.0) v r.2 (day_valid (c ∷ cs) r.0 r.1)
written_valid type.Moment c cs v s h =
    let r = was_read (λ (second : ℤ). value.Moment second) (read_moment (c ∷ cs)) v h in
    along type.Moment (value.Moment r.0) v r.2 (moment_valid (c ∷ cs) r.0 r.1)
written_valid (type.Picklist values) c cs v s h =
    let r = chosen (list_any (bytes_eq (c ∷ cs)) values) (value.Text (c ∷ cs)) v NotListed h in
    along (type.Picklist values) (value.Text (c ∷ cs)) v r.1 r.0
written_valid (type.Lookup object on_delete) c cs v s h = let r = id_valid (c ∷ cs) v h in along (type.Lookup object on_delete) (value.Ref r.0) v r.1 r.2
written_valid (type.Master object) c cs v s h = let r = id_valid (c ∷ cs) v h in along (type.Master object) (value.Ref r.0) v r.1 r.2

pub read_valid : (kind : FieldType) (cs : List ℕ) (v : Value) → all_scalars cs ≡ true → read_value kind cs ≡ Ok v → valid kind v ≡ true
read_valid kind [] v s h = along kind (empty_value kind) v (same_ok (empty_value kind) v h) (empty_valid kind)
read_valid kind (c ∷ cs) v s h = written_valid kind c cs v s h

-- ---- what is printed reads back
-- a text of some characters is read as one that is written
back_by : (kind : FieldType) (cs : List ℕ) (v : Value) → (c : ℕ) × (rest : List ℕ) × (cs ≡ c ∷ rest) → read_written kind cs ≡ Ok v → read_value kind cs ≡ Ok v
back_by kind cs v starts h = subst (λ (x : List ℕ). read_value kind x ≡ Ok v) (sym starts.2) (subst (λ (x : List ℕ). read_written kind x ≡ Ok v) starts.2 h)

id_back : (id : List ℕ) → is_id id ≡ true → as_value (λ id. value.Ref id) (as_id (id_in (print18 id))) ≡ Ok (value.Ref id)
id_back id h = ap (λ (found : Option (List ℕ)). as_value (λ id. value.Ref id) (as_id found)) (id_read (print18 id) id h (inr refl))

id_starts : (id : List ℕ) → is_id id ≡ true → (c : ℕ) × (rest : List ℕ) × (print18 id ≡ c ∷ rest)
id_starts [] h = absurd cc
id_starts (c ∷ cs) h = (c, cs ++ suffix (c ∷ cs), refl)

-- the empty text isn't a choice
no_choice : (values : List (List ℕ)) → list_all is_choice values ≡ true → list_any (bytes_eq []) values ≡ true → ⊥
no_choice [] a h = absurd cc
no_choice ([] ∷ values) a h = absurd cc
no_choice ((c ∷ cs) ∷ values) a h = no_choice values (both (is_choice (c ∷ cs)) (list_all is_choice values) a).1 h

pub choices : (values : List (List ℕ)) → is_type (type.Picklist values) ≡ true → list_all is_choice values ≡ true
choices values t =
    let rest = (both (is_within 1 100 (length values)) (list_all is_choice values && texts_differ values) t).1 in
    (both (list_all is_choice values) (texts_differ values) rest).0

pub printed_reads : (kind : FieldType) (v : Value) → is_type kind ≡ true → valid kind v ≡ true → read_value kind (print_value v) ≡ Ok v
unfolding read_truth
printed_reads type.Checkbox (value.Bool true) t h = refl
printed_reads type.Checkbox (value.Bool false) t h = refl
printed_reads type.Checkbox _ t h = absurd cc
printed_reads (type.Text most) value.Null t h = refl
printed_reads (type.Text most) (value.Text []) t h = absurd cc
printed_reads (type.Text most) (value.Text (c ∷ cs)) t h =
    let within = (both (all_scalars (c ∷ cs)) (is_within 1 most (length (c ∷ cs))) h).1 in
    let few : nat_le (length (c ∷ cs)) most ≡ true = (both (nat_le 1 (length (c ∷ cs))) (nat_le (length (c ∷ cs)) most) within).1 in
    rw few refl
printed_reads (type.Number digits decimals) value.Null t h = refl
printed_reads (type.Number digits decimals) (value.Num count) t h =
    back_by (type.Number digits decimals) (print_number count) (value.Num count) (number_starts count) (ap (as_value (λ count. value.Num count)) (number_back digits decimals count t h))
printed_reads type.Day value.Null t h = refl
printed_reads type.Day (value.Day day) t h =
    back_by type.Day (print_day day) (value.Day day) (day_starts day) (ap (as_value (λ day. value.Day day)) (day_back day h))
printed_reads type.Moment value.Null t h = refl
printed_reads type.Moment (value.Moment second) t h =
    back_by type.Moment (print_moment second) (value.Moment second) (moment_starts second) (ap (as_value (λ second. value.Moment second)) (moment_back second h))
printed_reads (type.Picklist values) value.Null t h = refl
printed_reads (type.Picklist values) (value.Text []) t h = absurd (no_choice values (choices values t) h)
printed_reads (type.Picklist values) (value.Text (c ∷ cs)) t h = rw h refl
printed_reads (type.Lookup object on_delete) value.Null t h = refl
printed_reads (type.Lookup object on_delete) (value.Ref id) t h = back_by (type.Lookup object on_delete) (print18 id) (value.Ref id) (id_starts id h) (id_back id h)
printed_reads (type.Master object) value.Null t h = refl
printed_reads (type.Master object) (value.Ref id) t h = back_by (type.Master object) (print18 id) (value.Ref id) (id_starts id h) (id_back id h)
printed_reads _ _ t h = absurd cc

-- ---- valid values have texts
pub day_of_kind : (kind : FieldType) (day : ℤ) → valid kind (value.Day day) ≡ true → is_day day ≡ true
day_of_kind type.Day day h = h
day_of_kind _ day h = absurd cc

pub moment_of_kind : (kind : FieldType) (second : ℤ) → valid kind (value.Moment second) ≡ true → is_moment second ≡ true
moment_of_kind type.Moment second h = h
moment_of_kind _ second h = absurd cc

pub id_of_kind : (kind : FieldType) (id : List ℕ) → valid kind (value.Ref id) ≡ true → is_id id ≡ true
id_of_kind (type.Lookup object on_delete) id h = h
id_of_kind (type.Master object) id h = h
id_of_kind _ id h = absurd cc

pub printable : (kind : FieldType) (v : Value) → valid kind v ≡ true → is_printable v ≡ true
printable kind value.Null h = refl
printable kind (value.Text cs) h = refl
printable kind (value.Num count) h = refl
printable kind (value.Bool truth) h = refl
printable kind (value.Day day) h = day_of_kind kind day h
printable kind (value.Moment second) h = moment_of_kind kind second h
printable kind (value.Ref id) h = refl

choice_scalars : (values : List (List ℕ)) (cs : List ℕ) → list_all is_choice values ≡ true → list_any (bytes_eq cs) values ≡ true → all_scalars cs ≡ true
choice_scalars [] cs a h = absurd cc
choice_scalars (x ∷ values) cs a h = by (bytes_eq cs x) refl h (λ k. choice_scalars values cs (both (is_choice x) (list_all is_choice values) a).1 k)
  where
    first : all_scalars x ≡ true
    first = (both (all_scalars x) (is_within 1 40 (length x)) (both (is_choice x) (list_all is_choice values) a).0).0

    by : (b : Bool) → bytes_eq cs x ≡ b → (b || list_any (bytes_eq cs) values) ≡ true → (list_any (bytes_eq cs) values ≡ true → all_scalars cs ≡ true) → all_scalars cs ≡ true
    by true e h rest = ap all_scalars ((bytes_eq-Decides cs x).0 e) ∙ first
    by false e h rest = rest h

pub text_scalars : (kind : FieldType) (cs : List ℕ) → is_type kind ≡ true → valid kind (value.Text cs) ≡ true → all_scalars cs ≡ true
text_scalars (type.Text most) cs t h = (both (all_scalars cs) (is_within 1 most (length cs)) h).0
text_scalars (type.Picklist values) cs t h = choice_scalars values cs (choices values t) h
text_scalars _ cs t h = absurd cc

pub print_scalars : (kind : FieldType) (v : Value) → is_type kind ≡ true → valid kind v ≡ true → all_scalars (print_value v) ≡ true
print_scalars kind value.Null t h = refl
print_scalars kind (value.Text cs) t h = text_scalars kind cs t h
print_scalars kind (value.Num count) t h = ascii_scalars (print_number count) (number_ascii count)
print_scalars kind (value.Bool true) t h = refl
print_scalars kind (value.Bool false) t h = refl
print_scalars kind (value.Day day) t h = ascii_scalars (print_day day) (day_ascii day (day_of_kind kind day h))
print_scalars kind (value.Moment second) t h = ascii_scalars (print_moment second) (moment_ascii second (moment_of_kind kind second h))
print_scalars kind (value.Ref id) t h = ascii_scalars (print18 id) (text_ascii id (print18 id) (id_of_kind kind id h) (inr refl))

-- ---- what is converted is valid
read_as : (r : Result Value ValueFail) (w : Value) → where_read r ≡ Some w → r ≡ Ok w
read_as (Ok v) w h = cc
read_as (Err e) w h = absurd cc

by_text : (from to : FieldType) (v w : Value) → is_type from ≡ true → valid from v ≡ true → where_read (read_value to (print_value v)) ≡ Some w → valid to w ≡ true
by_text from to v w t h e = read_valid to (print_value v) w (print_scalars from v t h) (read_as (read_value to (print_value v)) w e)

taken_valid : (kind : FieldType) (b : Bool) (v w : Value) → valid kind v ≡ b → cond b (Some v) None ≡ Some w → valid kind w ≡ true
taken_valid kind true v w h e = along kind v w (same_some v w e) h
taken_valid kind false v w h e = absurd cc

truth_valid : (a b : Bool) (w : Value) → cond a (Some (value.Bool true)) (cond b (Some (value.Bool false)) None) ≡ Some w → valid type.Checkbox w ≡ true
truth_valid true b w e = along type.Checkbox (value.Bool true) w (same_some (value.Bool true) w e) refl
truth_valid false true w e = along type.Checkbox (value.Bool false) w (same_some (value.Bool false) w e) refl
truth_valid false false w e = absurd cc

pub converted_valid : (from to : FieldType) (v w : Value) → is_type from ≡ true → valid from v ≡ true → convert to v ≡ Some w → valid to w ≡ true
converted_valid from to value.Null w t h e = along to (empty_value to) w (same_some (empty_value to) w e) (empty_valid to)
converted_valid from (type.Number digits decimals) (value.Bool truth) w t h e =
    taken_valid (type.Number digits decimals) (valid (type.Number digits decimals) (number_of_truth truth)) (number_of_truth truth) w refl e
converted_valid from type.Checkbox (value.Num count) w t h e = truth_valid _ _ w e
converted_valid from type.Moment (value.Day day) w t h e =
    along type.Moment (value.Moment (day *ℤ pos 86400)) w (same_some (value.Moment (day *ℤ pos 86400)) w e) (first_second day (day_of_kind from day h))
converted_valid from type.Day (value.Moment second) w t h e =
    along type.Day (value.Day (day_of_moment second)) w (same_some (value.Day (day_of_moment second)) w e) (day_of_valid second (moment_of_kind from second h))
converted_valid from to v w t h e = by_text from to v w t h e
