use Rattle.std.proofs.Common.{IsTrue, subst, sym}
use Rattle.std.specs.Str.{chars}
use Rattle.model.specs.NewFields.{add_field}
use Rattle.model.specs.declared.metadata_bodies.NewField.{NewField}
use Rattle.cmd_sandbox.specs.Making.{StepsOwn}
use Rattle.model_invariant.specs.Fit.{is_fit_field}
use Rattle.cmd_csvq.proofs.Making.{column_fits}
use Rattle.cmd_csvq.proofs.columns.make_column.Goals as goal

pub make_field-requires : goal.make_field-requires
make_field-requires c = subst (λ (n : NewField). IsTrue (is_fit_field n)) (sym c.in_ok-new.ensures) (column_fits (chars c.args.name.now))

pub returns : goal.returns
returns c now a made =
    subst (λ (n : NewField). StepsOwn now c.make_field.new.draft a (add_field a.tenant n) c.make_field.result) c.in_ok-new.ensures
    (c.make_field.ensures now a made)
