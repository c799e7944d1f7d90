use Rattle.std.proofs.Common.{◌∙◌, arith, subst, sym}
use Rattle.store_edit.proofs.Judged.{done_so, passed_on}
use Rattle.store_edit.proofs.Reading.{found_before, two_reads}
use Rattle.store_kv.specs.Draft.{tables_of}
use Rattle.model.specs.Metadata.{add_object}
use Rattle.model.specs.Paths.{Asked}
use Rattle.store_abstraction.specs.Fails.{of_store}
use Rattle.store_abstraction.specs.Layouts.{own_row}
use Rattle.schema_edit.specs.inner.NewRows.{changes_of}
use Rattle.schema_edit.specs.Judging.{AcceptsBy}
use Rattle.schema_edit.proofs.NewObjects.{Laws, ObjectPlanned, object_own, object_takes, spelled}
use Rattle.schema_edit.proofs.ObjectEdits.{org_missed, org_row_is, refusal_is, rows_fail}
use Rattle.schema_edit.proofs.edits.objects.AddObjectEdit.judge.Goals as goal

pub returns-in_err-all-clause-what : goal.returns-in_err-all-clause-what
returns-in_err-all-clause-what g c told =
    let org = c.args.org in
    let b = c.args.self.now.new.now in
    passed_on org (λ (a : Asked). add_object a.tenant b) ObjectPlanned _ (tables_of g.K.Keeper.state c.args.draft.now) c.in_err-all.field-0.0 c.from_residual.result c.from_residual.ensures.1
    (λ q a s f. subst (AcceptsBy org q a.tenant (add_object a.tenant b)) c.in_err-all.was (c.accepting_layouts.ensures.accepts told q a.tenant s))

pub returns-in_err-row-clause-what : goal.returns-in_err-row-clause-what
returns-in_err-row-clause-what g c told =
    let state = g.K.Keeper.state in
    let org = c.args.org in
    let b = c.args.self.now.new.now in
    let m = tables_of state c.args.draft.now in
    let calls = c.call_laws.ensures in
    let reads = two_reads state calls.told_first calls.told_then calls.tables c.args.draft.now c.accepting_layouts.new.draft c.org_there.new.draft c.accepting_layouts.ensures.calls c.org_there.ensures.calls told in
    let found = found_before state org (own_row org) c.org_there.result reads (c.org_there.ensures.finds reads.then).0 in
    passed_on org (λ (a : Asked). add_object a.tenant b) ObjectPlanned _ m (of_store c.in_err-row.field-0.0) c.from_residual-in_err-row.result c.from_residual-in_err-row.ensures.1
    (λ q a s f. org_missed org q m a.tenant (add_object a.tenant b) c.org_there.result c.in_err-row.field-0.0 c.in_err-row.was found s)

pub returns-in_err-rows-clause-what : goal.returns-in_err-rows-clause-what
returns-in_err-rows-clause-what g c told =
    let state = g.K.Keeper.state in
    let org = c.args.org in
    let b = c.args.self.now.new.now in
    let calls = c.call_laws.ensures in
    let reads = two_reads state calls.told_first calls.told_then calls.tables c.args.draft.now c.accepting_layouts.new.draft c.org_there.new.draft c.accepting_layouts.ensures.calls c.org_there.ensures.calls told in
    let laws : Laws = record { sound = c.objects_sound.ensures.add_object; slots = c.slot_laws.ensures.object; rows = c.metadata_laws.ensures.object; object_fits = c.metadata_laws.ensures.object_fits; field_fits = c.metadata_laws.ensures.field_fits } in
    passed_on org (λ (a : Asked). add_object a.tenant b) ObjectPlanned _ (tables_of state c.args.draft.now) (of_store c.in_err-rows.field-0.0) c.from_residual-in_err-rows.result c.from_residual-in_err-rows.ensures.1
    (λ q a s f.
    let accepted = subst (AcceptsBy org q a.tenant (add_object a.tenant b)) c.in_ok-all.was (c.accepting_layouts.ensures.accepts reads.first q a.tenant s) in
    let held = spelled laws org (omega arith) q a.tenant b c.as_slice.result.now (c.as_slice.ensures ∙ accepted.0) s.plan s.sound f (accepted.1 ∙ sym (refusal_is a.tenant b)) in
    rows_fail (add_object a.tenant b) c.rows_of.result c.in_err-rows.field-0.0 (c.rows_of.ensures.damaged held) c.in_err-rows.was)

pub returns-clause-what : goal.returns-clause-what
returns-clause-what g c told =
    let state = g.K.Keeper.state in
    let org = c.args.org in
    let b = c.args.self.now.new.now in
    let m = tables_of state c.args.draft.now in
    let row = c.in_ok-row.row in
    let rows = c.in_ok-rows.rows in
    let calls = c.call_laws.ensures in
    let reads = two_reads state calls.told_first calls.told_then calls.tables c.args.draft.now c.accepting_layouts.new.draft c.org_there.new.draft c.accepting_layouts.ensures.calls c.org_there.ensures.calls told in
    let found = found_before state org (own_row org) c.org_there.result reads (c.org_there.ensures.finds reads.then).0 in
    let laws : Laws = record { sound = c.objects_sound.ensures.add_object; slots = c.slot_laws.ensures.object; rows = c.metadata_laws.ensures.object; object_fits = c.metadata_laws.ensures.object_fits; field_fits = c.metadata_laws.ensures.field_fits } in
    done_so org (λ (a : Asked). add_object a.tenant b) ObjectPlanned _ m (changes_of rows) c.decided.result c.decided.ensures.made c.decided.ensures.cause
    (object_own org c.as_slice.result.now row b rows c.in_ok-rows.ensures.fits c.in_ok-rows.ensures.same (c.in_ok-row.ensures.finds reads.then).1)
    (λ q a s f.
    let accepted = subst (AcceptsBy org q a.tenant (add_object a.tenant b)) c.in_ok-all.was (c.accepting_layouts.ensures.accepts reads.first q a.tenant s) in
    object_takes laws org (omega arith) q a.tenant b c.as_slice.result.now row rows s.plan s.sound f (accepted.1 ∙ sym (refusal_is a.tenant b)) (c.as_slice.ensures ∙ accepted.0)
    (org_row_is org q m a.tenant c.org_there.result row c.in_ok-row.was found s) c.in_ok-rows.ensures.same)
