use Rattle.std.proofs.Common.{IsTrue, subst, sym}
use Rattle.model.specs.Metadata.{add_object}
use Rattle.model.specs.declared.metadata_bodies.NewObject.{NewObject}
use Rattle.cmd_sandbox.specs.Making.{StepsOwn}
use Rattle.model_invariant.specs.Fit.{is_fit_object}
use Rattle.cmd_csvq.proofs.Making.{object_fits}
use Rattle.cmd_csvq.proofs.organisation.make_object_of_rows.Goals as goal

pub make_object-requires : goal.make_object-requires
make_object-requires c = subst (λ (n : NewObject). IsTrue (is_fit_object n)) (sym c.in_ok-new.ensures) object_fits

pub returns : goal.returns
returns c now a made =
    subst (λ (n : NewObject). StepsOwn now c.make_object.new.draft a (add_object a.tenant n) c.make_object.result) c.in_ok-new.ensures
    (c.make_object.ensures now a made)
