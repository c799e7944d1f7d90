use Rattle.std.proofs.Common.{◌∙◌, List, ap, map, sym}
use Rattle.base_json.specs.declared.tree.Member.{Member}
use Rattle.base_value.specs.Texts.{lower}
use Rattle.model.specs.Members.{member_names}
use Rattle.api_input.specs.inner.Spelled.{body_of}
use Rattle.api_input.proofs.Folded.{are_new, none_seen, one_seen}
use Rattle.api_input.proofs.members.differ_in_any_case.Goals as goal

pub members-init : goal.members-init
members-init c = none_seen c.new-names.result (map lower (member_names (body_of c.args.members.now))) c.new-names.ensures.empty

pub members-preserved : goal.members-preserved
members-preserved c =
    sym (one_seen c.members.names c.insert.new.self c.in_ok-lower_name.field-0 _ (map lower (member_names (body_of c.in-Some.more.now))) c.in_ok-insert.field-0
    c.in_ok-lower_name.ensures c.if-not-branch.false c.in_ok-insert.ensures.added c.in_ok-insert.ensures.updates)
    ∙ ap (λ (ms : List Member). are_new c.members.names (map lower (member_names (body_of ms)))) (sym c.in-Some.ensures.cases.0)
    ∙ c.members.invariant
