-- Paths, literals, patterns and numbers of rows spell themselves again.
use Rattle.std.proofs.Common.{◌≡◌, ℕ, ◌≤◌, ◌*◌, true, false, List, [], ◌∷◌, map, Some, pos, refl, sym, ap, codes, arith}
use Rattle.std.specs.Fmt.{decimal}
use Rattle.std.specs.List.{AllByRecursion, flat_map, join_by}
use Rattle.base_grammar.specs.Part.{one}
use Rattle.base_grammar.specs.Tokens.{in_word, is_letter}
use Rattle.base_grammar.specs.declared.token.Piece.TheVariants.{Plain}
use Rattle.base_value.specs.Numerals.{is_digit}
use Rattle.base_value.specs.Printing.{print_day, print_moment, print_number, scale}
use Rattle.soql.specs.grammar.Grammar as g
use Rattle.soql.specs.grammar.Grammar.{count_in, literal_in, name_in, pattern_in}
use Rattle.soql.specs.grammar.Signs.{number_sign}
use Rattle.soql.specs.declared.query.LikePattern.{LikePattern}
use Rattle.soql.specs.declared.query.Literal.{Literal}
use Rattle.soql.specs.declared.query.Literal.TheVariants as l
use Rattle.soql.specs.declared.query.Path.{Path}
use Rattle.soql.specs.declared.grammar.sign.Sign.{Sign}
use Rattle.soql.specs.declared.grammar.sign.Sign.TheVariants as sign
use Rattle.soql_printer.specs.Printing.{printed_character, printed_literal, printed_part, printed_path, quoted}
use Rattle.soql_printer.proofs.Bounds.{literal_day, literal_moment, literal_number}
use Rattle.soql_printer.proofs.Days.{day_reads, moment_reads}
use Rattle.soql_printer.proofs.Keywords.{goes_on, wider_by, dot_reads, ends, false_reads, null_reads, today_reads, tomorrow_reads, true_reads, yesterday_reads}
use Rattle.soql_printer.proofs.Lexed.{reads_always}
use Rattle.soql_printer.proofs.Limits.{count_back, count_small, limit_reads}
use Rattle.soql_printer.proofs.Names.{name_reads}
use Rattle.soql_printer.proofs.Prints.{Prints, prints_as, prints_one, prints_separated, prints_value, prints_wider}
use Rattle.soql_printer.proofs.Quoted.{parts_back, pattern_reads, piece_of, plain_back, text_reads}
use Rattle.soql_printer.proofs.Runs.{number_reads}
use Rattle.soql_printer.proofs.Written.{AreWritten}

abbrev pub anything : {A : Type 0} → A → Type 0
anything a = Unit {0}

pub all_anything : {A : Type 0} (all : List A) → AllByRecursion anything all
all_anything [] = tt
all_anything (a ∷ all) = (tt, all_anything all)

-- ---- names and paths
pub name_prints : (y : List Sign) (cs : List ℕ) → g.name.spells y cs → AreWritten y → Prints g.name in_word cs cs
name_prints [] cs h w = absurd h
name_prints (s ∷ []) cs h w = prints_one name_in in_word cs s cs (name_reads s cs w.0 h) h
name_prints (s ∷ t ∷ y) cs h w = absurd h

pub name_ends : (y : List Sign) (cs : List ℕ) → g.name.spells y cs → AreWritten y → Prints g.name goes_on cs cs
unfolding in_word is_letter is_digit
name_ends y cs h w = prints_wider g.name in_word goes_on cs cs (wider_by in_word refl refl refl) (name_prints y cs h w)

pub path_prints : (y : List Sign) (p : Path) → g.path.spells y p → AreWritten y → Prints g.path goes_on (printed_path p) p
unfolding in_word is_letter is_digit
path_prints y p h w =
    let names = prints_separated sign.Dot g.name g.name in_word (codes ".") (λ cs. cs) anything dot_reads (λ cs. refl) (λ z a k v q. name_prints z a k v) 5 y h.0 h.1 w (all_anything h.0) in
    prints_value g.path goes_on printed_path (record { names = h.0 }) p (sym h.2)
    (prints_wider g.path in_word goes_on _ _ (wider_by in_word refl refl refl)
    (prints_as (λ names. record { names = names }) (g.separated sign.Dot 5 g.name) in_word (join_by (λ cs. cs) (codes ".") h.0) h.0 names))

-- ---- literals
literal_of : (s : Sign) (literal : Literal) → literal_in s ≡ Some literal → AreWritten (s ∷ []) → Prints g.literal goes_on (printed_literal literal) literal
unfolding number_sign
literal_of s l.Null h w = prints_one literal_in goes_on (codes "NULL") sign.Null l.Null (ends (codes "NULL") sign.Null null_reads) refl
literal_of s (l.Text cs) h w =
    prints_one literal_in goes_on (quoted (flat_map printed_character cs)) (sign.Text (map Plain cs)) (l.Text cs) (reads_always goes_on _ _ (text_reads cs)) (rw (plain_back cs) refl)
literal_of s (l.Num count) h w =
    prints_one literal_in goes_on (print_number count) (number_sign (print_number count) count) (l.Num count) (number_reads count (literal_number s count w.0 h)) refl
literal_of s (l.Bool true) h w = prints_one literal_in goes_on (codes "TRUE") (sign.Truth true) (l.Bool true) (ends (codes "TRUE") (sign.Truth true) true_reads) refl
literal_of s (l.Bool false) h w = prints_one literal_in goes_on (codes "FALSE") (sign.Truth false) (l.Bool false) (ends (codes "FALSE") (sign.Truth false) false_reads) refl
literal_of s (l.Day day) h w =
    let valid = literal_day s day w.0 h in
    rw valid (prints_one literal_in goes_on (print_day day) (sign.Day day) (l.Day day) (day_reads day valid) refl)
literal_of s (l.Moment second) h w =
    let valid = literal_moment s second w.0 h in
    rw valid (prints_one literal_in goes_on (print_moment second) (sign.Moment second) (l.Moment second) (moment_reads second valid) refl)
literal_of s l.Today h w = prints_one literal_in goes_on (codes "TODAY") (sign.Today (codes "TODAY")) l.Today (ends (codes "TODAY") _ today_reads) refl
literal_of s l.Yesterday h w = prints_one literal_in goes_on (codes "YESTERDAY") (sign.Yesterday (codes "YESTERDAY")) l.Yesterday (ends (codes "YESTERDAY") _ yesterday_reads) refl
literal_of s l.Tomorrow h w = prints_one literal_in goes_on (codes "TOMORROW") (sign.Tomorrow (codes "TOMORROW")) l.Tomorrow (ends (codes "TOMORROW") _ tomorrow_reads) refl

pub literal_prints : (y : List Sign) (literal : Literal) → g.literal.spells y literal → AreWritten y → Prints g.literal goes_on (printed_literal literal) literal
literal_prints [] literal h w = absurd h
literal_prints (s ∷ []) literal h w = literal_of s literal h w
literal_prints (s ∷ t ∷ y) literal h w = absurd h

-- ---- patterns
pub pattern_prints : (pattern : LikePattern) → Prints (one pattern_in) goes_on (quoted (flat_map printed_part pattern.parts)) pattern
pattern_prints pattern =
    prints_one pattern_in goes_on (quoted (flat_map printed_part pattern.parts)) (sign.Text (map piece_of pattern.parts)) pattern
    (reads_always goes_on _ _ (pattern_reads pattern.parts)) (ap (λ parts. Some (record { parts = parts })) (parts_back pattern.parts))

-- ---- numbers of rows
pub count_prints : (most : ℕ) (y : List Sign) (n : ℕ) → most ≤ 50000 → (one (count_in most)).spells y n → Prints (one (count_in most)) goes_on (decimal n) n
count_prints most [] n few h = absurd h
count_prints most (s ∷ []) n few h =
    let small = count_small most n s h in
    prints_one (count_in most) goes_on (decimal n) (sign.Number (pos (n * scale)) (Some n)) n (limit_reads n (omega arith)) (count_back most n (pos (n * scale)) small)
count_prints most (s ∷ t ∷ y) n few h = absurd h
