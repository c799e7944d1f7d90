use Rattle.std.proofs.Common.{reverse, List, ◌++◌, ◌∙◌, ap}
use Rattle.model.specs.declared.record_bodies.Assignment.{Assignment}
use Rattle.api_input.specs.inner.Given.{given_by}
use Rattle.api_input.specs.inner.Spelled.{body_of}
use Rattle.api_input.proofs.Taken.{last_given, last_passed}
use Rattle.api_input.proofs.records.values_of.Goals as goal

pub members-preserved-in-Continue-1 : goal.members-preserved-in-Continue-1
members-preserved-in-Continue-1 c =
    ap (λ (vs : List Assignment). given_by (body_of c.pop.new.self) ++ reverse vs) c.in_ok-push.ensures.items
    ∙ last_given _ c.members.rest c.pop.new.self c.in-Some.member c.members.values.items c.is_text.result c.in-Some.ensures c.is_text.ensures.same c.if-not-is_text.true c.members.invariant

pub members-preserved : goal.members-preserved
members-preserved c = last_passed _ c.members.rest c.pop.new.self c.in-Some.member c.members.values.items c.is_text.result c.in-Some.ensures c.is_text.ensures.same c.if-not-is_text.false c.members.invariant
