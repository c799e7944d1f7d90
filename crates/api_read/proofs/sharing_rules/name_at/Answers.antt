use Rattle.std.proofs.Common.{[], List, Option, ap, arith, length, sym, ◌≤◌, ℕ}
use Rattle.std.specs.Str.{chars}
use Rattle.std.proofs.lemmas.Bool.Decides.{nat_tests}
use Rattle.std.proofs.lemmas.Option.{slice_get_past}
use Rattle.model.specs.Cases.{in_case}
use Rattle.store_abstraction.specs.declared.layout.Layout.{Layout}
use Rattle.api_read.proofs.sharing_rules.name_at.Goals as goal

pub returns-in-None : goal.returns-in-None
unfolding chars
returns-in-None c =
    let past : length c.args.objects.now ≤ c.args.number = grind (arith, nat_tests, c.in-None.ensures.lookup.0) in
    let none : List ℕ = [] in
    sym (ap (λ (o : Option Layout). in_case o none (λ l. l.name)) (slice_get_past c.args.objects.now c.args.number past))
