-- The signs of keywords and marks.
use Rattle.std.proofs.Common.{◌≡◌, ℕ, Bool, true, false, ◌==◌, ◌&&◌, if◌then◌else◌, List, [], ◌∷◌, ◌++◌, refl, ap, arith, codes}
use Rattle.std.specs.List.{list_all}
use Rattle.std.proofs.lemmas.Bool.Decides.{nat_tests}
use Rattle.base_lemmas.proofs.Bools.{and-false as not_both}
use Rattle.base_grammar.specs.declared.classes.Class.TheVariants.{Letters, Other}
use lib.Utf8.{encode}
use Rattle.base_grammar.specs.Tokens.{Passes, is_blank, is_letter, in_word, begins_run, class_of, single_token, is_written}
use Rattle.base_grammar.specs.Lexing.{token_len, token_of, mark_len, mark_token}
use Rattle.base_grammar.proofs.Fronts.{Fails}
use Rattle.base_value.specs.Numerals.{is_digit}
use Rattle.soql.specs.Lexis.{lexis, is_mark, is_pair}
use Rattle.soql.specs.grammar.Signs.{sign_of, word_sign, condition_word, clause_word, name_sign, mark_sign, pair_sign}
use Rattle.soql.specs.declared.query.Op.{Op}
use Rattle.soql.specs.declared.query.Op.TheVariants as op
use Rattle.soql.specs.declared.grammar.sign.Sign.{Sign}
use Rattle.soql.specs.declared.grammar.sign.Sign.TheVariants as sign
use Rattle.soql_printer.specs.Printing.{printed_op}
use Rattle.soql_printer.proofs.Lexed.{Reads, nothing, blank_at_end, one_reads, reads_before, reads_same, reads_then, reads_wider, word_reads}

-- ---- what may not follow a word or a run: anything but a blank, a comma and `)`
abbrev pub goes_on : ℕ → Bool
goes_on c = if c == 32 then false else (if c == 44 then false else (if c == 41 then false else true))

-- a test that fails with these three
pub wider_by : (p : ℕ → Bool) → p 32 ≡ false → p 44 ≡ false → p 41 ≡ false → (c : ℕ) → goes_on c ≡ false → p c ≡ false
wider_by p blank comma close c h = go (c == 32) (c == 44) (c == 41) refl refl refl h
  where
    go : (x y z : Bool) → (c == 32) ≡ x → (c == 44) ≡ y → (c == 41) ≡ z → (if x then false else (if y then false else (if z then false else true))) ≡ false → p c ≡ false
    go true y z e f k h = let same : c ≡ 32 = grind (arith, nat_tests) in rw same blank
    go false true z e f k h = let same : c ≡ 44 = grind (arith, nat_tests) in rw same comma
    go false false true e f k h = let same : c ≡ 41 = grind (arith, nat_tests) in rw same close
    go false false false e f k h = absurd (cc)

-- ---- words
passes_all : (p : ℕ → Bool) (w : List ℕ) → list_all p w ≡ true → Passes p w
passes_all p [] h = tt
passes_all p (c ∷ w) h = go (p c) refl h (passes_all p w)
  where
    go : (b : Bool) → p c ≡ b → (b && list_all p w) ≡ true → (list_all p w ≡ true → Passes p w) → (p c ≡ true) × Passes p w
    go true e h more = (e, more h)
    go false e h more = absurd (cc)

letter_dark : (c : ℕ) → is_letter c ≡ true → is_blank c ≡ false
unfolding is_blank is_letter
letter_dark c h = grind (arith, nat_tests)

pub letter_class : (c : ℕ) → is_letter c ≡ true → class_of lexis c ≡ Letters
unfolding class_of
letter_class c h = rw (letter_dark c h, h) refl

keyword : (c : ℕ) (w : List ℕ) (s : Sign) → is_letter c ≡ true → list_all in_word w ≡ true → word_sign (c ∷ w) ≡ s → Reads in_word (c ∷ w) (s ∷ [])
keyword c w s l h e = reads_same in_word (c ∷ w) (c ∷ w) (word_sign (c ∷ w) ∷ []) (s ∷ []) refl (ap (λ z. z ∷ []) e) (word_reads c w (letter_class c l) (passes_all in_word w h))

-- before a blank
pub spaced : (a : List ℕ) (s : Sign) → Reads in_word a (s ∷ []) → Reads nothing (a ++ 32 ∷ []) (s ∷ [])
unfolding in_word is_letter is_digit
spaced a s h = reads_before in_word nothing a (32 ∷ []) (s ∷ []) [] (λ rest f. refl) h blank_at_end

-- where a word may end
pub ends : (a : List ℕ) (s : Sign) → Reads in_word a (s ∷ []) → Reads goes_on a (s ∷ [])
unfolding in_word is_letter is_digit
ends a s h = reads_wider in_word goes_on a (s ∷ []) (wider_by in_word refl refl refl) h

pub select_reads : Reads in_word (codes "SELECT") (sign.Select ∷ [])
unfolding is_letter in_word is_digit word_sign condition_word clause_word name_sign is_written encode
select_reads = keyword 83 (codes "ELECT") sign.Select refl refl refl

pub from_reads : Reads in_word (codes "FROM") (sign.From ∷ [])
unfolding is_letter in_word is_digit word_sign condition_word clause_word name_sign is_written encode
from_reads = keyword 70 (codes "ROM") sign.From refl refl refl

pub where_reads : Reads in_word (codes "WHERE") (sign.Where ∷ [])
unfolding is_letter in_word is_digit word_sign condition_word clause_word name_sign is_written encode
where_reads = keyword 87 (codes "HERE") sign.Where refl refl refl

pub and_reads : Reads in_word (codes "AND") (sign.And ∷ [])
unfolding is_letter in_word is_digit word_sign condition_word clause_word name_sign is_written encode
and_reads = keyword 65 (codes "ND") sign.And refl refl refl

pub or_reads : Reads in_word (codes "OR") (sign.Or ∷ [])
unfolding is_letter in_word is_digit word_sign condition_word clause_word name_sign is_written encode
or_reads = keyword 79 (codes "R") sign.Or refl refl refl

pub not_reads : Reads in_word (codes "NOT") (sign.Not ∷ [])
unfolding is_letter in_word is_digit word_sign condition_word clause_word name_sign is_written encode
not_reads = keyword 78 (codes "OT") sign.Not refl refl refl

pub in_reads : Reads in_word (codes "IN") (sign.In ∷ [])
unfolding is_letter in_word is_digit word_sign condition_word clause_word name_sign is_written encode
in_reads = keyword 73 (codes "N") sign.In refl refl refl

pub like_reads : Reads in_word (codes "LIKE") (sign.Like ∷ [])
unfolding is_letter in_word is_digit word_sign condition_word clause_word name_sign is_written encode
like_reads = keyword 76 (codes "IKE") sign.Like refl refl refl

pub order_reads : Reads in_word (codes "ORDER") (sign.Order ∷ [])
unfolding is_letter in_word is_digit word_sign condition_word clause_word name_sign is_written encode
order_reads = keyword 79 (codes "RDER") sign.Order refl refl refl

pub by_reads : Reads in_word (codes "BY") (sign.By ∷ [])
unfolding is_letter in_word is_digit word_sign condition_word clause_word name_sign is_written encode
by_reads = keyword 66 (codes "Y") sign.By refl refl refl

pub limit_reads : Reads in_word (codes "LIMIT") (sign.Limit ∷ [])
unfolding is_letter in_word is_digit word_sign condition_word clause_word name_sign is_written encode
limit_reads = keyword 76 (codes "IMIT") sign.Limit refl refl refl

pub offset_reads : Reads in_word (codes "OFFSET") (sign.Offset ∷ [])
unfolding is_letter in_word is_digit word_sign condition_word clause_word name_sign is_written encode
offset_reads = keyword 79 (codes "FFSET") sign.Offset refl refl refl

pub desc_reads : Reads in_word (codes "DESC") ((sign.Descending true) ∷ [])
unfolding is_letter in_word is_digit word_sign condition_word clause_word name_sign is_written encode
desc_reads = keyword 68 (codes "ESC") (sign.Descending true) refl refl refl

pub nulls_reads : Reads in_word (codes "NULLS") (sign.Nulls ∷ [])
unfolding is_letter in_word is_digit word_sign condition_word clause_word name_sign is_written encode
nulls_reads = keyword 78 (codes "ULLS") sign.Nulls refl refl refl

pub last_reads : Reads in_word (codes "LAST") ((sign.Last true) ∷ [])
unfolding is_letter in_word is_digit word_sign condition_word clause_word name_sign is_written encode
last_reads = keyword 76 (codes "AST") (sign.Last true) refl refl refl

pub null_reads : Reads in_word (codes "NULL") (sign.Null ∷ [])
unfolding is_letter in_word is_digit word_sign condition_word clause_word name_sign is_written encode
null_reads = keyword 78 (codes "ULL") sign.Null refl refl refl

pub true_reads : Reads in_word (codes "TRUE") ((sign.Truth true) ∷ [])
unfolding is_letter in_word is_digit word_sign condition_word clause_word name_sign is_written encode
true_reads = keyword 84 (codes "RUE") (sign.Truth true) refl refl refl

pub false_reads : Reads in_word (codes "FALSE") ((sign.Truth false) ∷ [])
unfolding is_letter in_word is_digit word_sign condition_word clause_word name_sign is_written encode
false_reads = keyword 70 (codes "ALSE") (sign.Truth false) refl refl refl

pub today_reads : Reads in_word (codes "TODAY") ((sign.Today (codes "TODAY")) ∷ [])
unfolding is_letter in_word is_digit word_sign condition_word clause_word name_sign is_written encode
today_reads = keyword 84 (codes "ODAY") (sign.Today (codes "TODAY")) refl refl refl

pub yesterday_reads : Reads in_word (codes "YESTERDAY") ((sign.Yesterday (codes "YESTERDAY")) ∷ [])
unfolding is_letter in_word is_digit word_sign condition_word clause_word name_sign is_written encode
yesterday_reads = keyword 89 (codes "ESTERDAY") (sign.Yesterday (codes "YESTERDAY")) refl refl refl

pub tomorrow_reads : Reads in_word (codes "TOMORROW") ((sign.Tomorrow (codes "TOMORROW")) ∷ [])
unfolding is_letter in_word is_digit word_sign condition_word clause_word name_sign is_written encode
tomorrow_reads = keyword 84 (codes "OMORROW") (sign.Tomorrow (codes "TOMORROW")) refl refl refl

-- ---- marks
mark_reads : (c : ℕ) → class_of lexis c ≡ Other → ((d : ℕ) → is_pair c d ≡ false) → Reads nothing (c ∷ []) (sign_of (single_token lexis c) ∷ [])
unfolding token_len token_of mark_len mark_token
mark_reads c e alone = one_reads nothing c [] Other e (λ x. cc) (λ rest f. go rest)
  where
    go : (rest : List ℕ) → token_len lexis Other c rest ≡ 0
    go [] = refl
    go (d ∷ rest) = rw (alone d) refl

pub open_reads : Reads nothing (40 ∷ []) (sign.Open ∷ [])
unfolding class_of is_blank is_letter begins_run is_digit single_token is_mark is_pair mark_sign
open_reads = mark_reads 40 refl (λ d. not_both (d == 61))

pub close_reads : Reads nothing (41 ∷ []) (sign.Close ∷ [])
unfolding class_of is_blank is_letter begins_run is_digit single_token is_mark is_pair mark_sign
close_reads = mark_reads 41 refl (λ d. not_both (d == 61))

pub comma_reads : Reads nothing (44 ∷ []) (sign.Comma ∷ [])
unfolding class_of is_blank is_letter begins_run is_digit single_token is_mark is_pair mark_sign
comma_reads = mark_reads 44 refl (λ d. not_both (d == 61))

pub dot_reads : Reads nothing (46 ∷ []) (sign.Dot ∷ [])
unfolding class_of is_blank is_letter begins_run is_digit single_token is_mark is_pair mark_sign
dot_reads = mark_reads 46 refl (λ d. not_both (d == 61))

-- a comma and a blank
pub comma_blank_reads : Reads nothing (codes ", ") (sign.Comma ∷ [])
comma_blank_reads = reads_then nothing (44 ∷ []) (32 ∷ []) (sign.Comma ∷ []) [] comma_reads blank_at_end

-- ---- operators, which no `=` may follow
abbrev pub is_equal : ℕ → Bool
is_equal c = c == 61

single_reads : (c : ℕ) → class_of lexis c ≡ Other → ((d : ℕ) → is_equal d ≡ false → is_pair c d ≡ false) → Reads is_equal (c ∷ []) (sign_of (single_token lexis c) ∷ [])
unfolding token_len token_of mark_len mark_token
single_reads c e alone = one_reads is_equal c [] Other e (λ x. cc) go
  where
    go : (rest : List ℕ) → Fails is_equal rest → token_len lexis Other c rest ≡ 0
    go [] f = refl
    go (d ∷ rest) f = rw (alone d f) refl

pair_reads : (c : ℕ) → class_of lexis c ≡ Other → is_pair c 61 ≡ true → Reads is_equal (c ∷ 61 ∷ []) (pair_sign c ∷ [])
unfolding token_len token_of mark_len mark_token
pair_reads c e both = one_reads is_equal c (61 ∷ []) Other e (λ x. cc) (λ rest f. rw both refl)

apart : (c d : ℕ) → is_equal d ≡ false → is_pair c d ≡ false
unfolding is_pair
apart c d h = rw h refl

pub operator_reads : (op : Op) → Reads is_equal (printed_op op) (sign.Op op ∷ [])
unfolding class_of is_blank is_letter begins_run is_digit single_token is_mark is_pair mark_sign pair_sign
operator_reads op.Equal = single_reads 61 refl (apart 61)
operator_reads op.NotEqual = pair_reads 33 refl refl
operator_reads op.Less = single_reads 60 refl (apart 60)
operator_reads op.LessEqual = pair_reads 60 refl refl
operator_reads op.Greater = single_reads 62 refl (apart 62)
operator_reads op.GreaterEqual = pair_reads 62 refl refl
