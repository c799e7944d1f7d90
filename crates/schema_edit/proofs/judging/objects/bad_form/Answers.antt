use Rattle.std.proofs.Common.{[], ◌∷◌, refl}
use Rattle.std.specs.Prelude.{codes}
use Rattle.model.specs.Cases.{in_case}
use Rattle.model.specs.Metadata.{master_names}
use Rattle.model.specs.Names.{bad_name, is_custom_name}
use Rattle.model.specs.Rules.{MemberRules}
use Rattle.schema_edit.proofs.ObjectEdits.{early_object}
use Rattle.schema_edit.proofs.judging.objects.bad_form.Goals as goal

pub returns : goal.returns
returns c =
    λ t.
    let b = c.args.new.now in
    let forms : MemberRules = (codes "name", bad_name is_custom_name b.name) ∷ in_case b.master [] master_names in
    early_object t b c.as_slice.result.now c.in_body_order.result c.as_slice.ensures (c.in_body_order.ensures forms refl)
