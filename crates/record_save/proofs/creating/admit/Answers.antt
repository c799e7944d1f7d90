use Rattle.std.proofs.Common.{◌∙◌, ap, sym, w64}
use Rattle.std.proofs.lemmas.Int.{to_z-of_z}
use Rattle.std.specs.Option.{option_or}
use Rattle.model.specs.declared.record.Record.{Record}
use Rattle.model.specs.Creates.{empty_record}
use Rattle.model.specs.Rules.{first_refusal}
use Rattle.schema_rules.specs.Objects.{numbered_in}
use Rattle.record_save.specs.inner.Judged.{limit_rule, others_rules}
use Rattle.record_save.proofs.Judging.{refused_first, refused_none}
use Rattle.record_save.proofs.creating.admit.Goals as goal

pub returns-clause-admits : goal.returns-clause-admits
returns-clause-admits g c told q a s its who user now id =
    let x = c.args.counts.now in
    let l = c.args.layout.now in
    let new = c.args.new.now in
    let empty = c.in_ok-empty.ensures.same a user (now ∙ sym (to_z-of_z w64 c.args.now c.ranges.now)) id in
    refused_first (others_rules l (empty_record a (numbered_in l)) new a) c.in_ok-others.others (limit_rule x.row x.object) c.in-Some.refusal
    (c.in_ok-others.ensures.finds told q a s its who ∙ ap (λ (r : Record). first_refusal (others_rules l r new a)) empty)
    (ap (option_or c.in_ok-others.others) (sym c.over_limits.ensures) ∙ sym c.or.ensures ∙ c.in-Some.is)

pub returns-in-None-clause-admits : goal.returns-in-None-clause-admits
returns-in-None-clause-admits g c told q a s its who user now id =
    let x = c.args.counts.now in
    let l = c.args.layout.now in
    let new = c.args.new.now in
    let empty = c.in_ok-empty.ensures.same a user (now ∙ sym (to_z-of_z w64 c.args.now c.ranges.now)) id in
    refused_none (others_rules l (empty_record a (numbered_in l)) new a) c.in_ok-others.others (limit_rule x.row x.object)
    (c.in_ok-others.ensures.finds told q a s its who ∙ ap (λ (r : Record). first_refusal (others_rules l r new a)) empty)
    (ap (option_or c.in_ok-others.others) (sym c.over_limits.ensures) ∙ sym c.or.ensures ∙ c.in-None.is)
