use Rattle.std.proofs.Common.{◌≡◌, ◌∷◌, ◌∙◌, subst, sym}
use Rattle.schema_rules.specs.Objects.{object_of_layout}
use Rattle.record_input.proofs.BadMembers.{Passed, known_first, passed_more, passed_none}
use Rattle.record_input.proofs.members.bad_fields.Goals as goal

pub names-init : goal.names-init
names-init c plain t finds = passed_none t (object_of_layout c.args.layout.now) c.args.given.now finds

pub names-preserved : goal.names-preserved
names-preserved c plain t finds =
    let o = object_of_layout c.args.layout.now in
    let x = c.args.given.now in
    let first = c.in-Some.first.now in
    let more = c.in-Some.more.now in
    let front : c.names.rest.now ≡ first ∷ more = c.in-Some.ensures.cases.0 in
    let passed = subst (Passed t o x) front (c.names.invariant plain t finds) in
    passed_more t o x first more passed (sym (c.in_ok-refusal.ensures plain.key t (known_first t o x first more passed)) ∙ c.in-None.is)
