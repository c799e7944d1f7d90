use Rattle.std.proofs.Common.{◌∙◌, List, ap, map, sym}
use Rattle.model_requests.specs.PeopleForms.{identity_of}
use Rattle.model.specs.declared.people_bodies.Spelled.{Spelled}
use Rattle.api_input.proofs.Folded.{are_new, none_seen, one_seen}
use Rattle.api_input.proofs.principals.all_differ.Goals as goal

pub principals-init : goal.principals-init
principals-init c = none_seen c.new-seen.result (map identity_of c.args.principals.now) c.new-seen.ensures.empty

pub principals-preserved : goal.principals-preserved
principals-preserved c =
    sym (one_seen c.principals.seen c.insert.new.self c.in_ok-identity.field-0 (identity_of c.in-Some.principal.now) (map identity_of c.in-Some.more.now) c.in_ok-insert.field-0
    c.in_ok-identity.ensures c.if-not-branch.false c.in_ok-insert.ensures.added c.in_ok-insert.ensures.updates)
    ∙ ap (λ (ps : List Spelled). are_new c.principals.seen (map identity_of ps)) (sym c.in-Some.ensures.cases.0)
    ∙ c.principals.invariant
