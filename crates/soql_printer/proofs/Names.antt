-- Names, from the signs that some characters have.
use Rattle.std.proofs.Common.{◌≡◌, ◌==◌, ◌||◌, ℕ, Bool, true, false, cond, if◌then◌else◌, List, [], ◌∷◌, Option, Some, None, refl, sym, ◌∙◌, ap, subst, codes}
use Rattle.base_grammar.specs.declared.classes.Class.{Class}
use Rattle.base_grammar.specs.declared.classes.Class.TheVariants.{Blank, Letters, Digits, Quote, Other}
use Rattle.base_grammar.specs.declared.token.Piece.{Piece}
use Rattle.base_grammar.specs.declared.token.Token.{Token}
use Rattle.base_grammar.specs.declared.token.Token.TheVariants as token
use Rattle.base_grammar.specs.Counts.{number_count}
use Rattle.base_grammar.specs.Tokens.{Passes, class_of, in_word, run_token, text_token, pieces_of, pieces_token, single_token, is_written, IsOfClass, IsToken}
use Rattle.base_value.specs.Numerals.{is_written_number}
use Rattle.base_value.specs.Dates.{is_written_day, is_written_moment}
use Rattle.base_value.specs.Reading.{read_value}
use Rattle.base_value.specs.declared.fail.ValueFail.{ValueFail}
use Rattle.base_value.specs.declared.value.Value.{Value}
use Rattle.base_value.specs.declared.value.Value.TheVariants as value
use Rattle.base_value.specs.declared.value.FieldType.TheVariants as type
use Rattle.std.specs.Prelude.{Result, Ok, ℤ}
use Rattle.soql.specs.grammar.Grammar.{name_in}
use Rattle.soql.specs.Lexis.{lexis, is_mark}
use Rattle.soql.specs.grammar.Signs.{sign_of, word_sign, word_or, condition_word, clause_word, name_sign, mark_sign, pair_sign, run_sign, number_sign, day_or, moment_in}
use Rattle.soql.specs.declared.grammar.sign.Sign.{Sign}
use Rattle.soql.specs.declared.grammar.sign.Sign.TheVariants as sign
use Rattle.soql_printer.proofs.Lexed.{Reads, word_reads}
use Rattle.soql_printer.proofs.Written.{IsWritten}

-- ---- words
-- the characters of a word
pub record IsWord (cs : List ℕ) : Type 0 where
  pub first : ℕ
  pub more : List ℕ
  pub is : cs ≡ first ∷ more
  pub letter : class_of lexis first ≡ Letters
  pub passes : Passes in_word more

no_word : (ws cs : List ℕ) → token.Word ws ≡ run_token cs → ⊥
unfolding run_token
no_word ws cs e = go (is_written_number cs) (is_written_day cs) (is_written_moment cs) e
  where
    go : (a b d : Bool) → token.Word ws ≡ (if a || (b || d) then token.Run cs else token.Bad) → ⊥
    go true b d e = absurd (cc)
    go false true d e = absurd (cc)
    go false false true e = absurd (cc)
    go false false false e = absurd (cc)

no_text : (ws : List ℕ) (ps : Option (List Piece)) → token.Word ws ≡ pieces_token ps → ⊥
no_text ws None e = absurd (cc)
no_text ws (Some ps) e = absurd (cc)

no_mark : (ws : List ℕ) (c : ℕ) → token.Word ws ≡ single_token lexis c → ⊥
unfolding single_token
no_mark ws c e = go (is_mark c) e
  where
    go : (b : Bool) → token.Word ws ≡ (if b then token.Mark c else token.Bad) → ⊥
    go true e = absurd (cc)
    go false e = absurd (cc)

word_of_class : (k : Class) (c : ℕ) (cs ws : List ℕ) → class_of lexis c ≡ k → IsOfClass lexis k c cs (token.Word ws) → IsWord ws
unfolding text_token
word_of_class Blank c cs ws e h = absurd h
word_of_class Letters c cs ws e h = let same : ws ≡ c ∷ cs = cc (h.1) in record { first = c; more = cs; is = same; letter = e; passes = h.0 }
word_of_class Digits c cs ws e h = absurd (no_word ws (c ∷ cs) h.1)
word_of_class Quote c cs ws e h = absurd (no_text ws (pieces_of lexis cs false) h.1)
word_of_class Other c [] ws e h = absurd (no_mark ws c h)
word_of_class Other c (d ∷ []) ws e h = let no = h.1 in absurd (cc)
word_of_class Other c (d ∷ x ∷ cs) ws e h = absurd h

word_is : (chars ws : List ℕ) → IsToken lexis chars (token.Word ws) → IsWord ws
word_is [] ws h = absurd h
word_is (c ∷ cs) ws h = word_of_class (class_of lexis c) c cs ws refl h

-- ---- what keywords are not
-- a function that has this value at a sign, if there is one
abbrev pub At : {B : Type 0} → (Sign → B) → B → Option Sign → Type 0
At f b None = Unit {0}
At f b (Some s) = f s ≡ b

at_if : {B : Type 0} (f : Sign → B) (b : B) (test : Bool) (s : Sign) (others : Option Sign) → f s ≡ b → At f b others → At f b (cond test (Some s) others)
at_if f b true s others h o = h
at_if f b false s others h o = o

pub either_if : {B : Type 0} (f : Sign → B) (b : B) (test : Bool) (s t : Sign) → f s ≡ b → f t ≡ b → f (cond test s t) ≡ b
either_if f b true s t h k = h
either_if f b false s t h k = k

pub at_or : {B : Type 0} (f : Sign → B) (b : B) (word : Option Sign) (other : Sign) → At f b word → f other ≡ b → f (word_or word other) ≡ b
at_or f b None other h k = k
at_or f b (Some s) other h k = h

module _ {B : Type 0} (f : Sign → B) (b : B) (and : f sign.And ≡ b) (or : f sign.Or ≡ b) (not : f sign.Not ≡ b) (in_ : f sign.In ≡ b) (like : f sign.Like ≡ b) (null : f sign.Null ≡ b)
    (truth : (t : Bool) → f (sign.Truth t) ≡ b) (cs : List ℕ) where
  pub at_condition_word : At f b (condition_word cs)
  unfolding condition_word
  at_condition_word =
      at_if f b (is_written (codes "AND") cs) sign.And _ and
      (at_if f b (is_written (codes "OR") cs) sign.Or _ or
      (at_if f b (is_written (codes "NOT") cs) sign.Not _ not
      (at_if f b (is_written (codes "IN") cs) sign.In _ in_
      (at_if f b (is_written (codes "LIKE") cs) sign.Like _ like
      (at_if f b (is_written (codes "NULL") cs) sign.Null _ null
      (at_if f b (is_written (codes "TRUE") cs) (sign.Truth true) _ (truth true)
      (at_if f b (is_written (codes "FALSE") cs) (sign.Truth false) None (truth false) tt)))))))

  module _ (select : f sign.Select ≡ b) (from : f sign.From ≡ b) (where_ : f sign.Where ≡ b) (order : f sign.Order ≡ b) (by : f sign.By ≡ b)
      (descending : (t : Bool) → f (sign.Descending t) ≡ b) (nulls : f sign.Nulls ≡ b) (last : (t : Bool) → f (sign.Last t) ≡ b) (limit : f sign.Limit ≡ b) (offset : f sign.Offset ≡ b) where
    pub at_clause_word : At f b (clause_word cs)
    unfolding clause_word
    at_clause_word =
        at_if f b (is_written (codes "SELECT") cs) sign.Select _ select
        (at_if f b (is_written (codes "FROM") cs) sign.From _ from
        (at_if f b (is_written (codes "WHERE") cs) sign.Where _ where_
        (at_if f b (is_written (codes "ORDER") cs) sign.Order _ order
        (at_if f b (is_written (codes "BY") cs) sign.By _ by
        (at_if f b (is_written (codes "ASC") cs) (sign.Descending false) _ (descending false)
        (at_if f b (is_written (codes "DESC") cs) (sign.Descending true) _ (descending true)
        (at_if f b (is_written (codes "NULLS") cs) sign.Nulls _ nulls
        (at_if f b (is_written (codes "FIRST") cs) (sign.Last false) _ (last false)
        (at_if f b (is_written (codes "LAST") cs) (sign.Last true) _ (last true)
        (at_if f b (is_written (codes "LIMIT") cs) sign.Limit _ limit
        (at_if f b (is_written (codes "OFFSET") cs) sign.Offset None offset tt)))))))))))

-- ---- names
name_of_name : (ws cs : List ℕ) → name_in (name_sign ws) ≡ Some cs → ws ≡ cs
unfolding name_sign
name_of_name ws cs h = go (is_written (codes "TODAY") ws) (is_written (codes "YESTERDAY") ws) (is_written (codes "TOMORROW") ws) h
  where
    go : (a b d : Bool) → name_in (if a then sign.Today ws else (if b then sign.Yesterday ws else (if d then sign.Tomorrow ws else sign.Name ws))) ≡ Some cs → ws ≡ cs
    go true b d h = cc
    go false true d h = cc
    go false false true h = cc
    go false false false h = cc

no_keyword : (cs : List ℕ) (word : Option Sign) (other : Sign) → At name_in None word → name_in (word_or word other) ≡ Some cs → name_in other ≡ Some cs
no_keyword cs None other none h = h
no_keyword cs (Some s) other none h = absurd (cc)

name_of_word : (ws cs : List ℕ) → name_in (word_sign ws) ≡ Some cs → ws ≡ cs
unfolding word_sign
name_of_word ws cs h =
    let second = no_keyword cs (condition_word ws) _ (at_condition_word name_in None refl refl refl refl refl refl (λ t. refl) ws) h in
    let third = no_keyword cs (clause_word ws) _ (at_clause_word name_in None refl refl refl refl refl refl (λ t. refl) ws refl refl refl refl refl (λ t. refl) refl (λ t. refl) refl refl) second in
    name_of_name ws cs third

not_run : (cs ws : List ℕ) (count : Option ℤ) → name_in (run_sign ws count) ≡ Some cs → ⊥
unfolding number_sign
not_run cs ws (Some count) h = absurd (cc)
not_run cs ws None h = go (read_value type.Day ws) (read_value type.Moment ws) h
  where
    go : (a b : Result Value ValueFail) → name_in (day_or (moment_in b) a) ≡ Some cs → ⊥
    go (Ok (value.Day d)) b h = absurd (cc)
    go _ (Ok (value.Moment s)) h = absurd (cc)
    go _ _ h = absurd (cc)

not_mark : (cs : List ℕ) (c : ℕ) → name_in (mark_sign c) ≡ None
unfolding mark_sign
not_mark cs c =
    either_if name_in None (c == 40) _ _ refl (either_if name_in None (c == 41) _ _ refl (either_if name_in None (c == 44) _ _ refl (either_if name_in None (c == 46) _ _ refl
    (either_if name_in None (c == 61) _ _ refl (either_if name_in None (c == 60) _ _ refl (either_if name_in None (c == 62) _ _ refl refl))))))

not_pair : (cs : List ℕ) (c : ℕ) → name_in (pair_sign c) ≡ None
unfolding pair_sign
not_pair cs c = either_if name_in None (c == 33) _ _ refl (either_if name_in None (c == 60) _ _ refl (either_if name_in None (c == 62) _ _ refl refl))

pub name_reads : (s : Sign) (cs : List ℕ) → IsWritten s → name_in s ≡ Some cs → Reads in_word cs (s ∷ [])
name_reads s cs w h = go w.chars w.token w.is w.same (sym (ap name_in w.same) ∙ h)
  where
    go : (chars : List ℕ) (t : Token) → IsToken lexis chars t → s ≡ sign_of t → name_in (sign_of t) ≡ Some cs → Reads in_word cs (s ∷ [])
    go chars (token.Word ws) is same h =
        let word = word_is chars ws is in
        let named = name_of_word ws cs h in
        let reads = word_reads word.first word.more word.letter word.passes in
        let P : List ℕ → Type 0 = λ z. Reads in_word z (word_sign z ∷ []) in
        let there : Reads in_word ws (word_sign ws ∷ []) = subst P (sym word.is) reads in
        let Q : Sign → Type 0 = λ z. Reads in_word ws (z ∷ []) in
        let R : List ℕ → Type 0 = λ z. Reads in_word z (s ∷ []) in
        subst R named (subst Q (sym same) there)
    go chars (token.Run ws) is same h = absurd (not_run cs ws (number_count ws) h)
    go chars (token.Text pieces) is same h = absurd (cc)
    go chars (token.Mark c) is same h = let none = not_mark cs c in absurd (cc)
    go chars (token.Pair c d) is same h = let none = not_pair cs c in absurd (cc)
    go chars token.Bad is same h = absurd (cc)
