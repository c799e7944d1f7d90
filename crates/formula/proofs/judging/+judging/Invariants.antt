use Rattle.std.proofs.Common.{◌≡◌, drop, option_map}
use Rattle.std.specs.List.{list_all, list_any}
use Rattle.formula.specs.Meaning as spec
use Rattle.formula.proofs.judging.+judging.Given as goal

abbrev pub invariant-all_hold-loop-formula : goal.invariant-all_hold-loop-formula
invariant-all_hold-loop-formula l =
    list_all (λ f. spec.holds f l.new.values (option_map (λ r. r.now.values) l.old)) l.formulas
    ≡ list_all (λ f. spec.holds f l.new.values (option_map (λ r. r.now.values) l.old)) (drop l.formula-index l.formulas)

abbrev pub invariant-some_hold-loop-formula : goal.invariant-some_hold-loop-formula
invariant-some_hold-loop-formula l =
    list_any (λ f. spec.holds f l.new.values (option_map (λ r. r.now.values) l.old)) l.formulas
    ≡ list_any (λ f. spec.holds f l.new.values (option_map (λ r. r.now.values) l.old)) (drop l.formula-index l.formulas)
