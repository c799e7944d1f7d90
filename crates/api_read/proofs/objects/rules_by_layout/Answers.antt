use Rattle.std.proofs.Common.{◌∙◌, List, Ok, ap, subst, sym}
use Rattle.schema_rules.specs.Rows.{rule_rows}
use Rattle.store_abstraction.specs.Layouts.{FindsOf}
use Rattle.store_kv.specs.Draft.{tables_of}
use Rattle.store_rows.specs.declared.validation.ValidationRow.{ValidationRow}
use Rattle.api_read.specs.inner.Settings.{rules_by_rows}
use Rattle.api_read.proofs.ObjectsTold.{stopped_of, told_again}
use Rattle.api_read.proofs.objects.rules_by_layout.Goals as goal

pub returns-in-Ok-clause-tells : goal.returns-in-Ok-clause-tells
returns-in-Ok-clause-tells g c told q t s is =
    let l = c.args.layout.now in
    let rows = c.as_slice.result.now in
    told_again (Ok (rules_by_rows l.name (rule_rows l.org l.object t))) (Ok (rules_by_rows l.name rows)) c.rules_told.result
    (ap (λ (rows : List ValidationRow). Ok (rules_by_rows l.name rows)) (sym (c.as_slice.ensures ∙ c.in-Ok.ensures.finds told q t s is)))
    c.rules_told.ensures.value

pub returns-in-Err-clause-tells : goal.returns-in-Err-clause-tells
returns-in-Err-clause-tells g c told q t s is =
    let l = c.args.layout.now in
    let m = tables_of g.K.Keeper.state c.args.draft.now in
    stopped_of l (rule_rows l.org l.object) m (Ok (rules_by_rows l.name (rule_rows l.org l.object t))) q t c.in-Err.fail s is
    (subst (FindsOf l (rule_rows l.org l.object) m) c.in-Err.is (c.rules_of.ensures.finds told))
