use Rattle.std.proofs.Common.{◌≡◌, ◌∙◌, ℕ, of_z, pos, rules, sym, to_z, w64}
use Rattle.std.proofs.lemmas.Int.{to_z-of_z}
use Rattle.std.specs.Prelude.{FitsSigned}
use Rattle.cmd_export.proofs.Exported.{child_refused, without_child}
use Rattle.cmd_export.proofs.export.export_query.Goals as goal

pub returns-then-has_child-clause-what : goal.returns-then-has_child-clause-what
returns-then-has_child-clause-what g c told p a s asking = child_refused a c.args.query.now (sym c.has_child.ensures ∙ c.if-has_child.true)

pub returns-clause-what : goal.returns-clause-what
returns-clause-what g c told p a s asking =
    let small : FitsSigned w64 c.moment.result = search rules in
    let now : to_z w64 (of_z w64 c.moment.result) ≡ pos c.args.now = to_z-of_z w64 c.moment.result small ∙ c.moment.ensures in
    without_child a c.args.query.now c.answer_named.result (sym c.has_child.ensures ∙ c.if-has_child.false)
    (c.answer_named.ensures.what told p a s (record { user = asking.user; admin = asking.admin; now = asking.now ∙ sym now }))
