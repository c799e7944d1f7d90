use Rattle.std.proofs.Common.{◌≡◌, ◌∙◌, ◌<◌, ◌^◌, Some, ap, arith, subst, sym, w64}
use Rattle.std.proofs.lemmas.Int.{to_z-of_z}
use Rattle.std.specs.Prelude.{Err}
use Rattle.record_input.specs.Given.{all_given, key_of}
use Rattle.store_kv.specs.Tables.{Tables}
use Rattle.store_rows.specs.declared.org.OrgRow.{OrgRow}
use Rattle.model.specs.declared.record.Record.{Record}
use Rattle.model.specs.Creates.{empty_record}
use Rattle.model.specs.Objects.{record_prefix}
use Rattle.store_abstraction.specs.Calls.{ended_edit}
use Rattle.store_abstraction.specs.declared.layout.Layout.{Layout}
use Rattle.store_abstraction.specs.Local.{StandsIn}
use Rattle.base_value.specs.Id.{made}
use Rattle.record_save.specs.inner.Giving.{Alters}
use Rattle.record_save.proofs.Accepting.{admit_behind, object_layout, proposed_of}
use Rattle.record_save.proofs.GivenRules.{finds_there, reads_there}
use Rattle.record_save.proofs.Judging.{admitted, passed, passed_calls, read_so, unadmitted, unproposed, unread}
use Rattle.record_save.proofs.creating.accept.Goals as goal

pub returns-in_err-counts-clause-accepts : goal.returns-in_err-counts-clause-accepts
returns-in_err-counts-clause-accepts g c told q a o s at f well finds =
    let l = c.args.layout.now in
    let given = c.args.given.now in
    unread l.org a o (key_of given) given.body.now c.read_counts.result c.in_err-counts.field-0.0 c.from_residual.result (c.read_counts.ensures.reads told q a.tenant o s at) c.in_err-counts.was c.from_residual.ensures.1

pub returns-in_err-new-clause-accepts : goal.returns-in_err-new-clause-accepts
returns-in_err-new-clause-accepts g c told q a o s at f well finds =
    let l = c.args.layout.now in
    let given = c.args.given.now in
    let key = key_of given in
    let x = c.in_ok-counts.counts in
    let e = c.in_err-new.field-0.0 in
    let are = read_so l.org a o key given.body.now c.read_counts.result x (c.read_counts.ensures.reads told q a.tenant o s at) c.in_ok-counts.was in
    let now = f.now ∙ sym (to_z-of_z w64 c.args.now c.ranges.now) in
    let low : a.tenant.counter < 10 ^ 15 = omega (arith, s.sound.counter) in
    let proposes = proposed_of l.org q a o l key given.body.now c.proposed.result at.layout
    (c.proposed.ensures.proposes a f.user now (ap (λ (r : OrgRow). r.counter) are.row) low (reads_there l.org q a o l (all_given given) at.layout well) (finds_there l.org q a.tenant o l given at.layout finds)) in
    passed l.org a o key given.body.now e c.from_residual-in_err-new.result c.from_residual-in_err-new.ensures.1
    (unproposed l.org a o key given.body.now c.proposed.result e proposes c.in_err-new.was)

pub returns-in_err-admit-clause-accepts : goal.returns-in_err-admit-clause-accepts
returns-in_err-admit-clause-accepts g c told q a o s at f well finds =
    let state = g.K.Keeper.state in
    let l = c.args.layout.now in
    let given = c.args.given.now in
    let key = key_of given in
    let x = c.in_ok-counts.counts in
    let new = c.in_ok-new.new in
    let tells = c.draft_laws.ensures.both 0 168 c.args.draft.now c.read_counts.new.draft c.admit.new.draft c.read_counts.ensures.calls.reads c.admit.ensures.calls.reads told in
    let are = read_so l.org a o key given.body.now c.read_counts.result x (c.read_counts.ensures.reads tells.0 q a.tenant o s at) c.in_ok-counts.was in
    let now = f.now ∙ sym (to_z-of_z w64 c.args.now c.ranges.now) in
    let low : a.tenant.counter < 10 ^ 15 = omega (arith, s.sound.counter) in
    let proposes = proposed_of l.org q a o l key given.body.now c.proposed.result at.layout
    (c.proposed.ensures.proposes a f.user now (ap (λ (r : OrgRow). r.counter) are.row) low (reads_there l.org q a o l (all_given given) at.layout well) (finds_there l.org q a.tenant o l given at.layout finds)) in
    let so = subst (Alters a o.object key given.body.now (empty_record a o)) c.in_ok-new.was proposes in
    let stands = subst (λ (m : Tables). StandsIn l.org q m (Some a.tenant)) (sym tells.2) s in
    let its = object_layout l.org q a.tenant o l at in
    let id : new.id ≡ made (record_prefix l.object) a.tenant.counter = ap (λ (r : Record). r.id) so.1 ∙ ap (λ (l : Layout). made (record_prefix l.object) a.tenant.counter) (sym at.layout) in
    let e = c.in_err-admit.field-0.0 in
    passed l.org a o key given.body.now e c.from_residual-in_err-admit.result c.from_residual-in_err-admit.ensures.1
    (unadmitted l.org a o key given.body.now l x new so (admit_behind l.org q a o l x new at are) c.admit.result e
    (c.admit.ensures.admits tells.1 q a stands its f.rights f.user now id) c.in_err-admit.was)

pub returns-in_err-admit-clause-calls : goal.returns-in_err-admit-clause-calls
returns-in_err-admit-clause-calls g c =
    let e = c.in_err-admit.field-0.0 in
    passed_calls g.K.Keeper.state c.args.draft.now c.admit.new.draft 168 e c.from_residual-in_err-admit.result c.from_residual-in_err-admit.ensures.1
    (c.call_laws.ensures.then 0 168 (ended_edit {X = Unit {0}} (Err e)) c.args.draft.now c.read_counts.new.draft c.admit.new.draft c.in_ok-counts.ensures.calls c.in_err-admit.ensures.calls)

pub returns-clause-accepts : goal.returns-clause-accepts
returns-clause-accepts g c told q a o s at f well finds =
    let state = g.K.Keeper.state in
    let l = c.args.layout.now in
    let given = c.args.given.now in
    let key = key_of given in
    let x = c.in_ok-counts.counts in
    let new = c.in_ok-new.new in
    let tells = c.draft_laws.ensures.both 0 168 c.args.draft.now c.read_counts.new.draft c.admit.new.draft c.read_counts.ensures.calls.reads c.admit.ensures.calls.reads told in
    let are = read_so l.org a o key given.body.now c.read_counts.result x (c.read_counts.ensures.reads tells.0 q a.tenant o s at) c.in_ok-counts.was in
    let now = f.now ∙ sym (to_z-of_z w64 c.args.now c.ranges.now) in
    let low : a.tenant.counter < 10 ^ 15 = omega (arith, s.sound.counter) in
    let proposes = proposed_of l.org q a o l key given.body.now c.proposed.result at.layout
    (c.proposed.ensures.proposes a f.user now (ap (λ (r : OrgRow). r.counter) are.row) low (reads_there l.org q a o l (all_given given) at.layout well) (finds_there l.org q a.tenant o l given at.layout finds)) in
    let so = subst (Alters a o.object key given.body.now (empty_record a o)) c.in_ok-new.was proposes in
    let stands = subst (λ (m : Tables). StandsIn l.org q m (Some a.tenant)) (sym tells.2) s in
    let its = object_layout l.org q a.tenant o l at in
    let id : new.id ≡ made (record_prefix l.object) a.tenant.counter = ap (λ (r : Record). r.id) so.1 ∙ ap (λ (l : Layout). made (record_prefix l.object) a.tenant.counter) (sym at.layout) in
    record {
      counts = are;
      new = so.1;
      free = admitted l.org a o key given.body.now l x new so (admit_behind l.org q a o l x new at are) c.admit.result c.in_ok-admit.field-0
          (c.admit.ensures.admits tells.1 q a stands its f.rights f.user now id) c.in_ok-admit.was;
    }
