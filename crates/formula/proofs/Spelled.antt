-- What is computed of a text is what the text spells.
use Rattle.std.proofs.Common.{◌≡◌, ℕ, ◌-◌, Bool, List, [], ◌∷◌, length, Some, None, Ok, Err, false, refl, sym, ◌∙◌, ap, subst, arith, slice_index_or}
use Rattle.base_grammar.specs.Exact.{left}
use Rattle.base_grammar.specs.Lexing.{tokens_of}
use Rattle.base_grammar.specs.Place.{IsPlace, if_last, starts, whole_of}
use Rattle.base_grammar.specs.Reader.{Outcome}
use Rattle.base_grammar.specs.declared.token.Placed.{Placed}
use Rattle.base_grammar.proofs.Meets.{meets}
use Rattle.base_grammar.proofs.Unique.{one_list}
use Rattle.base_grammar.proofs.Verdict as v
use Rattle.formula.specs.declared.formula.Formula.{Formula}
use Rattle.formula.specs.declared.formula.NamedField.{NamedField}
use Rattle.formula.specs.grammar.Grammar as g
use Rattle.formula.specs.grammar.Reading as read
use Rattle.formula.specs.grammar.Signs.{kind, lexis, signs}
use Rattle.formula.specs.grammar.Spelling.{IsRefusedAt, Spells, formula_in, place_in}
use Rattle.formula.specs.declared.grammar.sign.Sign.{Sign}
use Rattle.formula.proofs.Instances.{firsts, whole_exact}

ended : (f h : Formula) (rest : List Sign) (o : Outcome Sign Formula) → o ≡ Ok (h, rest) → if_last h rest ≡ Some f → o ≡ Ok (f, [])
ended f h [] o same e = let equal : h ≡ f = cc in same ∙ ap (λ x. Ok (x, [])) equal
ended f h (sign ∷ more) o same e = absurd (cc)

whole_of-some : (o : Outcome Sign Formula) (f : Formula) → whole_of o ≡ Some f → o ≡ Ok (f, [])
whole_of-some (Ok got) f e = ended f got.0 got.1 (Ok got) refl e
whole_of-some (Err left) f e = absurd (cc)

module _ (criteria : Bool) (fields : List NamedField) (text : List ℕ) where
  pub spelled : (f : Formula) → formula_in criteria fields text ≡ Some f → Spells criteria fields text f
  unfolding formula_in
  spelled f e =
      let all = tokens_of lexis 0 text in
      let ts = signs criteria fields all in
      (all, meets lexis 0 text, v.read_whole kind g.whole read.whole firsts [] false whole_exact ts f (whole_of-some (read.whole ts) f e))

  pub computed : (f : Formula) → Spells criteria fields text f → formula_in criteria fields text ≡ Some f
  unfolding formula_in
  computed f h =
      let all = tokens_of lexis 0 text in
      let P : List Placed → Type 0 = λ us. g.whole.spells (signs criteria fields us) f in
      let sp = subst P (one_list lexis 0 text h.0 all h.1 (meets lexis 0 text)) h.2 in
      ap whole_of (v.spelled_whole kind g.whole read.whole firsts [] false whole_exact (signs criteria fields all) f sp)

  -- a text that spells none is refused at the place that is computed
  pub refused : (end : ℕ) → formula_in criteria fields text ≡ None → IsRefusedAt criteria fields text end (place_in criteria fields text end)
  unfolding formula_in place_in
  refused end e = (all, meets lexis 0 text, by (read.whole ts) refl)
    where
      all : List Placed
      all = tokens_of lexis 0 text

      ts : List Sign
      ts = signs criteria fields all

      by : (o : Outcome Sign Formula) → read.whole ts ≡ o → IsPlace g.whole ts (starts all) end (slice_index_or (starts all) (length ts - left o) end)
      by (Ok got) h = v.place_rest kind g.whole read.whole firsts [] false whole_exact ts got.1 got.0 (starts all) end h
      by (Err n) h = v.place_stuck kind g.whole read.whole firsts [] false whole_exact ts n (starts all) end h

  -- a text is refused at one place
  pub one_place : (end p q : ℕ) → IsRefusedAt criteria fields text end p → IsRefusedAt criteria fields text end q → p ≡ q
  one_place end p q h k =
      let P : List Placed → Type 0 = λ us. IsPlace g.whole (signs criteria fields us) (starts us) end q in
      same_place (signs criteria fields h.0) (starts h.0) h.2 (subst P (one_list lexis 0 text k.0 h.0 k.1 h.1) k.2)
    where
      same_place : (ts : List Sign) (ss : List ℕ) → IsPlace g.whole ts ss end p → IsPlace g.whole ts ss end q → p ≡ q
      same_place ts ss a b =
          let more = a.greatest b.count b.within b.opens in
          let fewer = b.greatest a.count a.within a.opens in
          let same : a.count ≡ b.count = omega arith in
          a.at ∙ ap (λ n. slice_index_or ss n end) same ∙ sym b.at
