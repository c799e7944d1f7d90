use Rattle.std.proofs.Common.{◌≡◌, ◌∙◌, Some, subst, sym}
use Rattle.std.proofs.lemmas.Result.{IfErr-at_err}
use Rattle.store_edit.proofs.Reading.{not_damaged, two_reads}
use Rattle.store_edit.specs.Edits.{FailsBy}
use Rattle.store_kv.specs.Draft.{tables_of}
use Rattle.store_kv.specs.Tables.{Tables}
use Rattle.store_rows.specs.declared.fail.StoreFail.TheVariants.{Memory}
use Rattle.store_abstraction.specs.Fails.{of_store}
use Rattle.store_abstraction.specs.Layouts.{own_layouts}
use Rattle.store_abstraction.specs.Local.{StandsIn}
use Rattle.schema_edit.specs.Judging.{layouts_in}
use Rattle.schema_edit.proofs.Editing.{refused_so}
use Rattle.schema_edit.proofs.ObjectEdits.{accepts_none, layouts_are, not_memory}
use Rattle.schema_edit.proofs.edits.accepting.accepting_layouts.Goals as goal

pub returns-in_err-refuse_early-clause-accepts : goal.returns-in_err-refuse_early-clause-accepts
returns-in_err-refuse_early-clause-accepts g c told q t s =
    let v = g.A.Addition.verdict c.args.new.now t in
    accepts_none c.args.org q t v c.in_err-refuse_early.field-0.0 c.from_residual.result c.from_residual.ensures.1
    (IfErr-at_err (FailsBy v) c.in_err-refuse_early.was (c.refuse_early.ensures.fails told q t s))

pub returns-in_err-all-clause-accepts : goal.returns-in_err-all-clause-accepts
returns-in_err-all-clause-accepts g c told q t s =
    let state = g.K.Keeper.state in
    let org = c.args.org in
    let v = g.A.Addition.verdict c.args.new.now t in
    let calls = c.call_laws.ensures in
    let reads = two_reads state calls.told_first calls.told_then calls.tables c.args.draft.now c.refuse_early.new.draft c.layouts.new.draft c.refuse_early.ensures.calls c.layouts.ensures.calls told in
    accepts_none org q t v (of_store c.in_err-all.field-0.0) c.from_residual-in_err-all.result c.from_residual-in_err-all.ensures.1
    (not_damaged org q (tables_of state c.refuse_early.new.draft) t v c.layouts.result c.in_err-all.field-0.0 c.in_err-all.was
    (subst (λ (m : Tables). StandsIn org q m (Some t)) (sym reads.same) s) (own_layouts org) (c.layouts.ensures.finds reads.then))

pub returns-in_err-refusal-clause-accepts : goal.returns-in_err-refusal-clause-accepts
returns-in_err-refusal-clause-accepts g c told q t s =
    let v = g.A.Addition.verdict c.args.new.now t in
    accepts_none c.args.org q t v (of_store Memory) c.from_residual-in_err-refusal.result c.from_residual-in_err-refusal.ensures.1 (not_memory v)

pub returns-in-Some-clause-accepts : goal.returns-in-Some-clause-accepts
returns-in-Some-clause-accepts g c told q t s =
    let state = g.K.Keeper.state in
    let org = c.args.org in
    let calls = c.call_laws.ensures in
    let reads = two_reads state calls.told_first calls.told_then calls.tables c.args.draft.now c.refuse_early.new.draft c.layouts.new.draft c.refuse_early.ensures.calls c.layouts.ensures.calls told in
    let stands = subst (λ (m : Tables). StandsIn org q m (Some t)) (sym reads.same) s in
    let is : c.as_slice.result.now ≡ layouts_in org q t = c.as_slice.ensures ∙ layouts_are org q (tables_of state c.refuse_early.new.draft) t c.layouts.result c.in_ok-all.all c.in_ok-all.was (c.layouts.ensures.finds reads.then) stands in
    refused_so (g.A.Addition.verdict c.args.new.now t) c.in-Some.refusal (sym c.in-Some.is ∙ c.in_ok-refusal.ensures t (org, q, is))

pub returns-clause-accepts : goal.returns-clause-accepts
returns-clause-accepts g c told q t s =
    let state = g.K.Keeper.state in
    let org = c.args.org in
    let calls = c.call_laws.ensures in
    let reads = two_reads state calls.told_first calls.told_then calls.tables c.args.draft.now c.refuse_early.new.draft c.layouts.new.draft c.refuse_early.ensures.calls c.layouts.ensures.calls told in
    let stands = subst (λ (m : Tables). StandsIn org q m (Some t)) (sym reads.same) s in
    let all = layouts_are org q (tables_of state c.refuse_early.new.draft) t c.layouts.result c.in_ok-all.all c.in_ok-all.was (c.layouts.ensures.finds reads.then) stands in
    (all, sym c.in_default.is ∙ c.in_ok-refusal.ensures t (org, q, c.as_slice.ensures ∙ all))
