use Rattle.std.proofs.Common.{◌≡◌, ◌≢◌, None, rules, arith}
use Rattle.cli_args.specs.declared.form.Form.{Form}
use Rattle.cli_args.specs.declared.form.Operands.TheVariants.{Count}
use Rattle.cli_args.proofs.Forms.{one_more, unknown_by_names}
use Rattle.cli_args.proofs.form.form_of.Goals as goal

-- the loop has passed every form
pub returns-clause-none : goal.returns-clause-none
returns-clause-none c =
    let whole : c.loop-form.form-index ≡ 8 = omega arith in
    let passed = rw whole at c.loop-form.invariant in
    let any : Form = record { name = c.args.name; form = c.args.name; operands = Count; secret = None } in
    unknown_by_names c.args.name.now (passed 0 any (omega arith)) (passed 1 any (omega arith)) (passed 2 any (omega arith)) (passed 3 any (omega arith)) (passed 4 any (omega arith)) (passed 5 any (omega arith)) (passed 6 any (omega arith)) (passed 7 any (omega arith))

pub loop-form-preserved : goal.loop-form-preserved
loop-form-preserved c =
    let any : Form = record { name = c.args.name; form = c.args.name; operands = Count; secret = None } in
    one_more (λ form. form.name.now ≢ c.args.name.now) _ c.loop-form.form-index any c.loop-form.invariant c.loop-form-test.true (search rules)
