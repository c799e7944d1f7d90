use Rattle.std.proofs.Common.{◌≡◌, ◌∙◌, List, None, Some, arith, refl, subst, sym}
use Rattle.std.specs.Str.{chars}
use Rattle.store_edit.proofs.Judged.{done_so, passed_on}
use Rattle.store_edit.proofs.Reading.{found_before, two_reads}
use Rattle.store_kv.specs.Draft.{tables_of}
use Rattle.store_rows.specs.declared.fail.StoreFail.TheVariants.{Damaged}
use Rattle.model.specs.NewFields.{add_field}
use Rattle.model.specs.Paths.{Asked}
use Rattle.store_abstraction.specs.declared.layout.Layout.{Layout}
use Rattle.store_abstraction.specs.Fails.{of_store}
use Rattle.store_abstraction.specs.Layouts.{own_object_row}
use Rattle.schema_edit.specs.inner.FieldRows.{changes_of}
use Rattle.schema_edit.specs.inner.Relations.{layout_by_name}
use Rattle.schema_edit.specs.Judging.{AcceptsBy}
use Rattle.schema_edit.specs.Slots.{FieldPlanned}
use Rattle.schema_edit.proofs.FieldStands.{few_counted, field_own, field_spelled, field_takes, field_targets, no_layout, row_missed, row_read}
use Rattle.schema_edit.proofs.ObjectEdits.{rows_fail}
use Rattle.schema_edit.proofs.Steps.{at_name}
use Rattle.schema_edit.proofs.edits.fields.AddFieldEdit.judge.Goals as goal

pub returns-in_err-all-clause-what : goal.returns-in_err-all-clause-what
returns-in_err-all-clause-what g c told =
    let org = c.args.org in
    let b = c.args.self.now.new.now in
    passed_on org (λ (a : Asked). add_field a.tenant b) (FieldPlanned b) _ (tables_of g.K.Keeper.state c.args.draft.now) c.in_err-all.field-0.0 c.from_residual.result c.from_residual.ensures.1
    (λ q a s f. subst (AcceptsBy org q a.tenant (add_field a.tenant b)) c.in_err-all.was (c.accepting_layouts.ensures.accepts told q a.tenant s))

pub returns-in_default-clause-what : goal.returns-in_default-clause-what
returns-in_default-clause-what g c told =
    let org = c.args.org in
    let b = c.args.self.now.new.now in
    passed_on org (λ (a : Asked). add_field a.tenant b) (FieldPlanned b) _ (tables_of g.K.Keeper.state c.args.draft.now) (of_store Damaged) _ refl
    (λ q a s f.
    let accepted = subst (AcceptsBy org q a.tenant (add_field a.tenant b)) c.in_ok-all.was (c.accepting_layouts.ensures.accepts told q a.tenant s) in
    let named = at_name c.as_slice.result.now (chars c.as_str.result.now) b.object None c.as_str.ensures.characters c.in_default.ensures in
    absurd (no_layout c.objects_sound.ensures.add_field org q a.tenant b c.as_slice.result.now s.sound s.plan f (c.as_slice.ensures ∙ accepted.0) accepted.1 named))

pub returns-in_err-row-clause-what : goal.returns-in_err-row-clause-what
returns-in_err-row-clause-what g c told =
    let state = g.K.Keeper.state in
    let org = c.args.org in
    let b = c.args.self.now.new.now in
    let m = tables_of state c.args.draft.now in
    let calls = c.call_laws.ensures in
    let l = c.in-Some.layout.now in
    let reads = two_reads state calls.told_first calls.told_then calls.tables c.args.draft.now c.accepting_layouts.new.draft c.object_there.new.draft c.accepting_layouts.ensures.calls c.object_there.ensures.calls told in
    let found = found_before state org (own_object_row org l.object) c.object_there.result reads (c.object_there.ensures.finds reads.then).0 in
    passed_on org (λ (a : Asked). add_field a.tenant b) (FieldPlanned b) _ m (of_store c.in_err-row.field-0.0) c.from_residual-in_err-row.result c.from_residual-in_err-row.ensures.1
    (λ q a s f.
    let accepted = subst (AcceptsBy org q a.tenant (add_field a.tenant b)) c.in_ok-all.was (c.accepting_layouts.ensures.accepts reads.first q a.tenant s) in
    let named = at_name c.as_slice.result.now (chars c.as_str.result.now) b.object (Some l) c.as_str.ensures.characters c.in-Some.ensures in
    row_missed c.objects_sound.ensures.add_field org q a.tenant b c.as_slice.result.now s.sound s.plan f (c.as_slice.ensures ∙ accepted.0) accepted.1 m l (add_field a.tenant b) c.object_there.result c.in_err-row.field-0.0 s named found c.in_err-row.was)

pub returns-in_err-rows-clause-what : goal.returns-in_err-rows-clause-what
returns-in_err-rows-clause-what g c told =
    let state = g.K.Keeper.state in
    let org = c.args.org in
    let b = c.args.self.now.new.now in
    let m = tables_of state c.args.draft.now in
    let calls = c.call_laws.ensures in
    let l = c.in-Some.layout.now in
    let row = c.in_ok-row.row in
    let reads = two_reads state calls.told_first calls.told_then calls.tables c.args.draft.now c.accepting_layouts.new.draft c.object_there.new.draft c.accepting_layouts.ensures.calls c.object_there.ensures.calls told in
    let found = found_before state org (own_object_row org l.object) c.object_there.result reads (c.object_there.ensures.finds reads.then).0 in
    passed_on org (λ (a : Asked). add_field a.tenant b) (FieldPlanned b) _ m (of_store c.in_err-rows.field-0.0) c.from_residual-in_err-rows.result c.from_residual-in_err-rows.ensures.1
    (λ q a s f.
    let accepted = subst (AcceptsBy org q a.tenant (add_field a.tenant b)) c.in_ok-all.was (c.accepting_layouts.ensures.accepts reads.first q a.tenant s) in
    let ls = c.as_slice-2.result.now in
    let is = c.as_slice-2.ensures ∙ accepted.0 in
    let sound = c.objects_sound.ensures.add_field in
    let named_1 = at_name c.as_slice.result.now (chars c.as_str.result.now) b.object (Some l) c.as_str.ensures.characters c.in-Some.ensures in
    let named : layout_by_name ls b.object ≡ Some l = subst (λ (ls : List Layout). layout_by_name ls b.object ≡ Some l) (c.as_slice.ensures ∙ sym c.as_slice-2.ensures) named_1 in
    let old = row_read sound org q a.tenant b ls s.sound s.plan f is accepted.1 m l c.object_there.result row s named found c.in_ok-row.was in
    let spelled = field_spelled sound org q a.tenant b ls s.sound s.plan f is accepted.1 c.metadata_laws.ensures.field_fits c.slot_laws.ensures.free c.slot_laws.ensures.field (omega arith) in
    let few = few_counted sound org q a.tenant b ls s.sound s.plan f is accepted.1 row old in
    let targets = field_targets sound org q a.tenant b ls s.sound s.plan f is accepted.1 in
    rows_fail (add_field a.tenant b) c.rows_of.result c.in_err-rows.field-0.0 (c.rows_of.ensures.damaged targets.0 targets.1 targets.2 spelled few) c.in_err-rows.was)

pub returns-clause-what : goal.returns-clause-what
returns-clause-what g c told =
    let state = g.K.Keeper.state in
    let org = c.args.org in
    let b = c.args.self.now.new.now in
    let m = tables_of state c.args.draft.now in
    let calls = c.call_laws.ensures in
    let l = c.in-Some.layout.now in
    let row = c.in_ok-row.row in
    let rows = c.in_ok-rows.rows in
    let reads = two_reads state calls.told_first calls.told_then calls.tables c.args.draft.now c.accepting_layouts.new.draft c.object_there.new.draft c.accepting_layouts.ensures.calls c.object_there.ensures.calls told in
    let found = found_before state org (own_object_row org l.object) c.object_there.result reads (c.object_there.ensures.finds reads.then).0 in
    done_so org (λ (a : Asked). add_field a.tenant b) (FieldPlanned b) _ m (changes_of rows) c.decided.result c.decided.ensures.made c.decided.ensures.cause
    (field_own org l.object row rows c.in_ok-rows.ensures.fits c.in_ok-rows.ensures.own (c.in_ok-row.ensures.finds reads.then).1)
    (λ q a s f.
    let accepted = subst (AcceptsBy org q a.tenant (add_field a.tenant b)) c.in_ok-all.was (c.accepting_layouts.ensures.accepts reads.first q a.tenant s) in
    let ls = c.as_slice-2.result.now in
    let is = c.as_slice-2.ensures ∙ accepted.0 in
    let sound = c.objects_sound.ensures.add_field in
    let named_1 = at_name c.as_slice.result.now (chars c.as_str.result.now) b.object (Some l) c.as_str.ensures.characters c.in-Some.ensures in
    let named : layout_by_name ls b.object ≡ Some l = subst (λ (ls : List Layout). layout_by_name ls b.object ≡ Some l) (c.as_slice.ensures ∙ sym c.as_slice-2.ensures) named_1 in
    let old = row_read sound org q a.tenant b ls s.sound s.plan f is accepted.1 m l c.object_there.result row s named found c.in_ok-row.was in
    field_takes sound org q a.tenant b ls s.sound s.plan f is accepted.1 c.metadata_laws.ensures.field c.metadata_laws.ensures.object_fits c.metadata_laws.ensures.field_fits c.metadata_laws.ensures.counted
    c.slot_laws.ensures.free c.slot_laws.ensures.seen c.slot_laws.ensures.field (omega arith) l row rows named old c.in_ok-rows.ensures.same)
