-- Rules that are judged one after the other, and the verdict by them.
use Rattle.std.proofs.Common.{◌≡◌, ◌∙◌, List, [], ◌∷◌, None, refl, sym, ap, subst}
use Rattle.std.specs.Prelude.{Err, IsErrAnd, Ok, Result}
use Rattle.store_edit.specs.Edits.{FailsBy}
use Rattle.model.specs.Rules.{Rule, first_refusal}
use Rattle.model.specs.Tenant.{Tenant}
use Rattle.model.specs.Verdict.{Verdict, unless}
use Rattle.store_abstraction.specs.declared.fail.EditFail.{EditFail}
use Rattle.store_abstraction.specs.declared.fail.EditFail.TheVariants.{Refused, Store}
use Rattle.store_edit.specs.Judging.{FailsRule, Passes}

-- ---- one step

module _ {X : Type 0} (rule : Rule) (P : X → Type 0) (r : Result X EditFail) where
  -- a failure is passed on
  pub passed_on : (e : EditFail) → IsErrAnd r (λ y. y ≡ e) → FailsRule rule e → Passes rule P r
  passed_on e = by r
    where
      by : (r : Result X EditFail) → IsErrAnd r (λ y. y ≡ e) → FailsRule rule e → Passes rule P r
      by (Ok x) passed h = absurd passed
      by (Err y) passed h = subst (FailsRule rule) (sym passed) h

-- ---- one step after the other

pub fails_here : (a : Rule) (rest : List Rule) (e : EditFail) → FailsRule a e → FailsRule (first_refusal (a ∷ rest)) e
fails_here a rest (Refused r) h = ap (λ (x : Rule). first_refusal (x ∷ rest)) h
fails_here a rest (Store s) h = h

pub fails_next : (a : Rule) (rest : List Rule) (e : EditFail) → a ≡ None → FailsRule (first_refusal rest) e → FailsRule (first_refusal (a ∷ rest)) e
fails_next a rest e none h = subst (λ (x : Rule). FailsRule x e) (sym (ap (λ (x : Rule). first_refusal (x ∷ rest)) none)) h

pub none_next : (a : Rule) (rest : List Rule) → a ≡ None → first_refusal rest ≡ None → first_refusal (a ∷ rest) ≡ None
none_next a rest none h = ap (λ (x : Rule). first_refusal (x ∷ rest)) none ∙ h

-- ---- the verdict

pub rule_fails : (rule : Rule) (t : Tenant) (v : Verdict) (e : EditFail) → FailsRule rule e → FailsBy (unless rule t v) e
rule_fails rule t v (Refused r) h = ap (λ (x : Rule). (unless x t v).answer) h
rule_fails rule t v (Store s) h = h

pub accepted : (rule : Rule) (t : Tenant) (v : Verdict) → rule ≡ None → unless rule t v ≡ v
accepted rule t v none = ap (λ (x : Rule). unless x t v) none

-- ---- where a later rule of several fails, and where none refuses

pub second_fails : (a b : Rule) (rest : List Rule) (e : EditFail) → a ≡ None → FailsRule b e → FailsRule (first_refusal (a ∷ b ∷ rest)) e
second_fails a b rest e one h = fails_next a (b ∷ rest) e one (fails_here b rest e h)

pub third_fails : (a b c : Rule) (rest : List Rule) (e : EditFail) → a ≡ None → b ≡ None → FailsRule c e → FailsRule (first_refusal (a ∷ b ∷ c ∷ rest)) e
third_fails a b c rest e one two h = fails_next a (b ∷ c ∷ rest) e one (second_fails b c rest e two h)

pub fourth_fails : (a b c d : Rule) (rest : List Rule) (e : EditFail) → a ≡ None → b ≡ None → c ≡ None → FailsRule d e → FailsRule (first_refusal (a ∷ b ∷ c ∷ d ∷ rest)) e
fourth_fails a b c d rest e one two three h = fails_next a (b ∷ c ∷ d ∷ rest) e one (third_fails b c d rest e two three h)

pub fifth_fails : (a b c d f : Rule) (rest : List Rule) (e : EditFail) → a ≡ None → b ≡ None → c ≡ None → d ≡ None → FailsRule f e → FailsRule (first_refusal (a ∷ b ∷ c ∷ d ∷ f ∷ rest)) e
fifth_fails a b c d f rest e one two three four h = fails_next a (b ∷ c ∷ d ∷ f ∷ rest) e one (fourth_fails b c d f rest e two three four h)

pub four_pass : (a b c d : Rule) → a ≡ None → b ≡ None → c ≡ None → d ≡ None → first_refusal (a ∷ b ∷ c ∷ d ∷ []) ≡ None
four_pass a b c d one two three four = none_next a (b ∷ c ∷ d ∷ []) one (none_next b (c ∷ d ∷ []) two (none_next c (d ∷ []) three (none_next d [] four refl)))

pub five_pass : (a b c d f : Rule) → a ≡ None → b ≡ None → c ≡ None → d ≡ None → f ≡ None → first_refusal (a ∷ b ∷ c ∷ d ∷ f ∷ []) ≡ None
five_pass a b c d f one two three four five = none_next a (b ∷ c ∷ d ∷ f ∷ []) one (four_pass b c d f two three four five)
