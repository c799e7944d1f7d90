-- The signs of texts one after the other.
use Rattle.std.proofs.Common.{◌≡◌, ℕ, ◌+◌, Bool, true, false, List, [], ◌∷◌, ◌++◌, length, take, drop, refl, sym, ◌∙◌, ap, append_assoc, arith}
use Rattle.std.specs.List.{prefix_len}
use Rattle.std.proofs.lemmas.List.{take_at, drop_at}
use Rattle.base_grammar.specs.declared.classes.Class.{Class}
use Rattle.base_grammar.specs.declared.classes.Class.TheVariants.{Blank, Letters, Digits}
use Rattle.base_grammar.specs.Tokens.{Passes, is_blank, in_word, in_run, class_of, byte_len, run_token}
use Rattle.base_grammar.specs.Lexing.{front_len, token_at, token_len, token_of, tokens_of}
use Rattle.base_grammar.proofs.Fronts.{Fails}
use Rattle.base_grammar.proofs.Longest.{class_of-blank}
use Rattle.base_grammar.proofs.Tokenizing.{byte_len-append, tokens_of-cons}
use Rattle.soql.specs.Lexis.{lexis}
use Rattle.soql.specs.grammar.Signs.{sign_of, signs, word_sign}
use Rattle.soql.specs.declared.grammar.sign.Sign.{Sign}

-- ---- one token, or a blank
token_reads : (c : ℕ) (w rest : List ℕ) (at : ℕ) → is_blank c ≡ false → token_len lexis (class_of lexis c) c (w ++ rest) ≡ length w
    → signs (tokens_of lexis at (c ∷ (w ++ rest))) ≡ sign_of (token_of lexis (class_of lexis c) c w) ∷ signs (tokens_of lexis (at + byte_len (c ∷ w)) rest)
unfolding front_len token_at
token_reads c w rest at dark len =
    let n : front_len lexis (c ∷ (w ++ rest)) ≡ length (c ∷ w) = omega (arith, len) in
    let front : take (front_len lexis (c ∷ (w ++ rest))) (c ∷ (w ++ rest)) ≡ c ∷ w = take_at (c ∷ w) rest _ (sym n) in
    let back : drop (front_len lexis (c ∷ (w ++ rest))) (c ∷ (w ++ rest)) ≡ rest = drop_at (c ∷ w) rest _ (sym n) in
    ap signs (tokens_of-cons lexis at c (w ++ rest)) ∙ rw (front, back, dark) refl

blank_reads : (c : ℕ) (rest : List ℕ) (at : ℕ) → is_blank c ≡ true
    → signs (tokens_of lexis at (c ∷ rest)) ≡ signs (tokens_of lexis (at + byte_len (c ∷ [])) rest)
unfolding front_len token_at token_len
blank_reads c rest at blank =
    let n : front_len lexis (c ∷ rest) ≡ 1 = rw (class_of-blank lexis c blank) refl in
    ap signs (tokens_of-cons lexis at c rest) ∙ rw (n, blank) refl

-- ---- texts
-- nothing goes on with a mark
abbrev pub nothing : ℕ → Bool
nothing c = false

-- A text has these signs, whatever follows it but a character that passes the test.
pub record Reads (goes : ℕ → Bool) (cs : List ℕ) (ss : List Sign) : Type 0 where
  pub are : (at : ℕ) (rest : List ℕ) → Fails goes rest → signs (tokens_of lexis at (cs ++ rest)) ≡ ss ++ signs (tokens_of lexis (at + byte_len cs) rest)

pub fails_nothing : (cs : List ℕ) → Fails nothing cs
fails_nothing [] = tt
fails_nothing (c ∷ cs) = refl

pub fails_append : (goes : ℕ → Bool) (cs rest : List ℕ) → Fails goes cs → Fails goes rest → Fails goes (cs ++ rest)
fails_append goes [] rest f h = h
fails_append goes (c ∷ cs) rest f h = f

pub reads_none : (goes : ℕ → Bool) → Reads goes [] []
reads_none goes = record { are = λ at rest f. let here : at ≡ at + byte_len [] = omega arith in ap (λ n. signs (tokens_of lexis n rest)) here }

-- one text before another
pub reads_before : (g h : ℕ → Bool) (a b : List ℕ) (s t : List Sign) → ((rest : List ℕ) → Fails h rest → Fails g (b ++ rest)) → Reads g a s → Reads h b t → Reads h (a ++ b) (s ++ t)
reads_before g h a b s t apart p q = record {
  are = λ at rest f.
      let there : at + byte_len a + byte_len b ≡ at + byte_len (a ++ b) = omega (arith, byte_len-append a b) in
      ap (λ cs. signs (tokens_of lexis at cs)) (append_assoc a b rest)
      ∙ p.are at (b ++ rest) (apart rest f)
      ∙ ap (λ us. s ++ us) (q.are (at + byte_len a) rest f ∙ ap (λ n. t ++ signs (tokens_of lexis n rest)) there)
      ∙ sym (append_assoc s t (signs (tokens_of lexis (at + byte_len (a ++ b)) rest)));
}

pub reads_append : (goes : ℕ → Bool) (a b : List ℕ) (s t : List Sign) → Fails goes b → Reads goes a s → Reads goes b t → Reads goes (a ++ b) (s ++ t)
reads_append goes a b s t f p q = reads_before goes goes a b s t (λ rest h. fails_append goes b rest f h) p q

-- a mark, or what ends in a blank, before a text
pub reads_then : (goes : ℕ → Bool) (a b : List ℕ) (s t : List Sign) → Reads nothing a s → Reads goes b t → Reads goes (a ++ b) (s ++ t)
reads_then goes a b s t p q = reads_before nothing goes a b s t (λ rest h. fails_nothing (b ++ rest)) p q

-- fewer characters may follow
pub reads_wider : (g h : ℕ → Bool) (a : List ℕ) (s : List Sign) → ((c : ℕ) → h c ≡ false → g c ≡ false) → Reads g a s → Reads h a s
reads_wider g h a s wider p = record { are = λ at rest f. p.are at rest (go rest f) }
  where
    go : (rest : List ℕ) → Fails h rest → Fails g rest
    go [] f = tt
    go (c ∷ rest) f = wider c f

pub reads_always : (goes : ℕ → Bool) (a : List ℕ) (s : List Sign) → Reads nothing a s → Reads goes a s
reads_always goes a s p = reads_wider nothing goes a s (λ c h. refl) p

pub reads_same : (goes : ℕ → Bool) (a b : List ℕ) (s t : List Sign) → a ≡ b → s ≡ t → Reads goes a s → Reads goes b t
reads_same goes a b s t e f p = rw (← e, ← f) p

-- ---- blanks
pub reads_blank : (goes : ℕ → Bool) (a : List ℕ) (s : List Sign) → Reads goes a s → Reads goes (32 ∷ a) s
unfolding is_blank
reads_blank goes a s p = record {
  are = λ at rest f.
      let there : at + byte_len (32 ∷ []) + byte_len a ≡ at + byte_len (32 ∷ a) = omega (arith, byte_len-append (32 ∷ []) a) in
      blank_reads 32 (a ++ rest) at refl ∙ p.are (at + byte_len (32 ∷ [])) rest f ∙ ap (λ n. s ++ signs (tokens_of lexis n rest)) there;
}

pub blank_at_end : Reads nothing (32 ∷ []) []
blank_at_end = reads_blank nothing [] [] (reads_none nothing)

-- ---- words and runs
prefix_all : (p : ℕ → Bool) (w rest : List ℕ) → Passes p w → Fails p rest → prefix_len p (w ++ rest) ≡ length w
prefix_all p [] [] h f = refl
prefix_all p [] (c ∷ rest) h f = rw f refl
prefix_all p (c ∷ w) rest h f = rw (h.0, prefix_all p w rest h.1 f) (omega arith)

dark : (c : ℕ) (k : Class) → class_of lexis c ≡ k → (k ≡ Blank → ⊥) → is_blank c ≡ false
dark c k e other = go (is_blank c) refl
  where
    go : (b : Bool) → is_blank c ≡ b → b ≡ false
    go true h = absurd (other (sym e ∙ class_of-blank lexis c h))
    go false h = refl

pub word_reads : (c : ℕ) (w : List ℕ) → class_of lexis c ≡ Letters → Passes in_word w → Reads in_word (c ∷ w) (word_sign (c ∷ w) ∷ [])
unfolding token_len token_of
word_reads c w e h = record {
  are = λ at rest f. token_reads c w rest at (dark c Letters e (λ x. cc)) (rw e (prefix_all in_word w rest h f)) ∙ rw e refl;
}

pub run_reads : (c : ℕ) (w : List ℕ) → class_of lexis c ≡ Digits → Passes in_run w → Reads in_run (c ∷ w) (sign_of (run_token (c ∷ w)) ∷ [])
unfolding token_len token_of
run_reads c w e h = record {
  are = λ at rest f. token_reads c w rest at (dark c Digits e (λ x. cc)) (rw e (prefix_all in_run w rest h f)) ∙ rw e refl;
}

-- a single token by its length
pub one_reads : (goes : ℕ → Bool) (c : ℕ) (w : List ℕ) (k : Class) → class_of lexis c ≡ k → (k ≡ Blank → ⊥)
    → ((rest : List ℕ) → Fails goes rest → token_len lexis k c (w ++ rest) ≡ length w)
    → Reads goes (c ∷ w) (sign_of (token_of lexis k c w) ∷ [])
one_reads goes c w k e other len = record {
  are = λ at rest f. token_reads c w rest at (dark c k e other) (rw e (len rest f)) ∙ rw e refl;
}
