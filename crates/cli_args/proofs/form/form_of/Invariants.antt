use Rattle.std.proofs.Common.{◌≢◌, take}
use Rattle.std.specs.Prelude.{All}
use Rattle.cli_args.proofs.form.form_of.Given as goal

-- no form before this one has the name
abbrev pub invariant-loop-form : goal.invariant-loop-form
invariant-loop-form l = All (λ form. form.name.now ≢ l.name) (take l.form-index l.form-items)
