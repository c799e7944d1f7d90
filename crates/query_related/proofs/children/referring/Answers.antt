use Rattle.std.proofs.Common.{◌∙◌, ◌≤◌, ℕ, subst, sym}
use Rattle.store_kv.specs.Draft.{tables_of}
use Rattle.query_related.proofs.Referring.{by_page, of_no_field}
use Rattle.query_related.proofs.children.referring.Goals as goal

pub returns-then-field-len-clause-finds : goal.returns-then-field-len-clause-finds
returns-then-field-len-clause-finds g c told q t u s its who =
    c.new.ensures
    ∙ sym (of_no_field q t c.args.layout.now s.sound its u c.args.field c.args.target.now (subst (λ (n : ℕ). n ≤ c.args.field) c.len.ensures c.if-field-len.true))

pub returns-in-Ok-clause-finds : goal.returns-in-Ok-clause-finds
returns-in-Ok-clause-finds g c told =
    by_page c.args.layout.now (g.R.Rights.whose c.args.rights.now) (tables_of g.K.Keeper.state c.args.draft.now) c.args.field c.args.target.now
    c.in-Ok.page (c.in-Ok.ensures.finds told) c.few_of.result c.few_of.ensures
