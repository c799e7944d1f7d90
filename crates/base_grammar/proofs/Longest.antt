-- The longest token at a place, by the class of its first character.
use Rattle.std.proofs.Common.{◌≡◌, ℕ, Bool, true, false, List, [], ◌∷◌, ◌++◌, length, take, drop, refl, sym, ◌∙◌, ap, append_assoc, length-append, length-take-le, take-append-drop, arith, subst, if◌then◌else◌}
use Rattle.std.specs.List.{prefix_len}
use Rattle.base_grammar.specs.declared.classes.Class.{Class}
use Rattle.base_grammar.specs.declared.classes.Class.TheVariants.{Blank, Letters, Digits, Quote, Other}
use Rattle.base_grammar.specs.declared.token.Token.{Token}
use Rattle.base_grammar.specs.declared.token.Token.TheVariants as t
use Rattle.base_grammar.specs.Tokens.{Passes, is_blank, is_letter, begins_run, class_of, in_word, in_run, run_token, Lexis, text_len, text_token, single_token, IsMark, IsLongest}
use Rattle.base_grammar.specs.Lexing.{mark_len, mark_token, token_len, token_of}
use Rattle.base_grammar.proofs.Fronts.{Fails, no_more, passes_prefix, fails_behind}
use Rattle.base_grammar.proofs.Texts.{text_len-append, text_len-le-length}

module _ (lexis : Lexis) where
  longest_word : (c : ℕ) (w rest : List ℕ) → class_of lexis c ≡ Letters → Passes in_word w → Fails in_word rest → IsLongest lexis (c ∷ w) rest (t.Word (c ∷ w))
  longest_word c w rest e h f = record {
    is = rw e (h, refl);
    longest = λ more after other s g. no_more in_word w rest more after f s (rw e at g).0;
  }

  longest_run : (c : ℕ) (w rest : List ℕ) → class_of lexis c ≡ Digits → Passes in_run w → Fails in_run rest → IsLongest lexis (c ∷ w) rest (run_token (c ∷ w))
  longest_run c w rest e h f = record {
    is = rw e (h, refl);
    longest = λ more after other s g. no_more in_run w rest more after f s (rw e at g).0;
  }

  -- no text has a longer one as its beginning
  text_ends : (w rest more after : List ℕ) → text_len lexis (w ++ rest) false ≡ length w → rest ≡ more ++ after
      → text_len lexis (w ++ more) false ≡ length (w ++ more) → more ≡ []
  text_ends w rest [] after e s g = refl
  text_ends w rest (d ∷ more) after e s g =
      let whole : text_len lexis ((w ++ (d ∷ more)) ++ after) false ≡ length w = ap (λ z. text_len lexis z false) (append_assoc w (d ∷ more) after ∙ ap (λ z. w ++ z) (sym s)) ∙ e in
      absurd (omega (arith, whole, text_len-append lexis (w ++ (d ∷ more)) after false, length-append w (d ∷ more)))

  longest_text : (c : ℕ) (w rest : List ℕ) → class_of lexis c ≡ Quote → text_len lexis (w ++ rest) false ≡ length w → IsLongest lexis (c ∷ w) rest (text_token lexis w)
  longest_text c w rest e h = record {
    is = rw e (omega (arith, text_len-append lexis w rest false), refl);
    longest = λ more after other s g. text_ends w rest more after h s (rw e at g).0;
  }

  longest_pair : (c d : ℕ) (rest : List ℕ) → class_of lexis c ≡ Other → lexis.is_pair c d ≡ true → IsLongest lexis (c ∷ d ∷ []) rest (t.Pair c d)
  longest_pair c d rest e h = record {
    is = rw e (h, refl);
    longest = λ more after other s g. go more other (rw e at g);
  }
    where
      go : (more : List ℕ) (other : Token) → IsMark lexis c (d ∷ more) other → more ≡ []
      go [] other h = refl
      go (x ∷ more) other h = absurd h

  longest_single : (c : ℕ) (rest : List ℕ) → class_of lexis c ≡ Other → ((x : ℕ) (after : List ℕ) → rest ≡ x ∷ after → lexis.is_pair c x ≡ false) → IsLongest lexis (c ∷ []) rest (single_token lexis c)
  longest_single c rest e not_pair = record {
    is = rw e refl;
    longest = λ more after other s g. go more after other s (rw e at g);
  }
    where
      go : (more after : List ℕ) (other : Token) → rest ≡ more ++ after → IsMark lexis c more other → more ≡ []
      go [] after other s h = refl
      go (x ∷ []) after other s h = let none = not_pair x after s in let some = h.0 in absurd (cc)
      go (x ∷ y ∷ more) after other s h = absurd h

  mark_alone : (c : ℕ) → mark_token lexis c [] ≡ single_token lexis c
  unfolding mark_token
  mark_alone c = refl

  mark_two : (c d : ℕ) (cs : List ℕ) → mark_token lexis c (d ∷ cs) ≡ t.Pair c d
  unfolding mark_token
  mark_two c d cs = refl

  mark_of : (c d : ℕ) (cs : List ℕ) (b : Bool) → class_of lexis c ≡ Other → lexis.is_pair c d ≡ b
      → IsLongest lexis (c ∷ take (if b then 1 else 0) (d ∷ cs)) (drop (if b then 1 else 0) (d ∷ cs)) (mark_token lexis c (take (if b then 1 else 0) (d ∷ cs)))
  mark_of c d cs true e h = rw (mark_two c d []) (longest_pair c d cs e h)
  mark_of c d cs false e h = rw mark_alone (longest_single c (d ∷ cs) e other)
    where
      other : (x : ℕ) (after : List ℕ) → d ∷ cs ≡ x ∷ after → lexis.is_pair c x ≡ false
      other x after s = let same : d ≡ x = cc in let P : ℕ → Type 0 = λ z. lexis.is_pair c z ≡ false in subst P same h

  longest_mark : (c : ℕ) (cs : List ℕ) → class_of lexis c ≡ Other → IsLongest lexis (c ∷ take (mark_len lexis c cs) cs) (drop (mark_len lexis c cs) cs) (mark_token lexis c (take (mark_len lexis c cs) cs))
  unfolding mark_len
  longest_mark c [] e = rw mark_alone (longest_single c [] e (λ x after s. absurd (cc)))
  longest_mark c (d ∷ cs) e = mark_of c d cs (lexis.is_pair c d) e refl

  pub longest_of : (k : Class) (c : ℕ) (cs : List ℕ) → class_of lexis c ≡ k → (k ≡ Blank → ⊥)
      → IsLongest lexis (c ∷ take (token_len lexis k c cs) cs) (drop (token_len lexis k c cs) cs) (token_of lexis k c (take (token_len lexis k c cs) cs))
  unfolding token_len token_of
  longest_of Blank c cs e dark = absurd (dark refl)
  longest_of Letters c cs e dark = longest_word c (take (prefix_len in_word cs) cs) (drop (prefix_len in_word cs) cs) e (passes_prefix in_word cs) (fails_behind in_word cs)
  longest_of Digits c cs e dark = longest_run c (take (prefix_len in_run cs) cs) (drop (prefix_len in_run cs) cs) e (passes_prefix in_run cs) (fails_behind in_run cs)
  longest_of Quote c cs e dark =
      let n = text_len lexis cs false in
      longest_text c (take n cs) (drop n cs) e
      (ap (λ z. text_len lexis z false) (take-append-drop n cs) ∙ sym (length-take-le n cs (text_len-le-length lexis cs false)))
  longest_of Other c cs e dark = longest_mark c cs e

  pub class_of-blank : (c : ℕ) → is_blank c ≡ true → class_of lexis c ≡ Blank
  unfolding class_of
  class_of-blank c h = rw h refl

  pub not_blank : (c : ℕ) → is_blank c ≡ false → class_of lexis c ≡ Blank → ⊥
  unfolding class_of
  not_blank c h e = let k = rw h at e in go (is_letter c) (begins_run c) (lexis.is_quote c) k
    where
      go : (a b d : Bool) → (if a then Letters else (if b then Digits else (if d then Quote else Other))) ≡ Blank → ⊥
      go true b d h = absurd (cc)
      go false true d h = absurd (cc)
      go false false true h = absurd (cc)
      go false false false h = absurd (cc)
