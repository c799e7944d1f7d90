use Rattle.std.proofs.Common.{ℕ, Some, ap, subst, sym}
use Rattle.store_kv.specs.Draft.{tables_of}
use Rattle.store_kv.specs.Tables.{Tables}
use Rattle.store_abstraction.specs.declared.layout.Layout.{Layout}
use Rattle.store_abstraction.specs.Layouts.{IsLayout}
use Rattle.store_abstraction.specs.Local.{StandsIn}
use Rattle.record_target.proofs.Naming.{named_is, named_passed, unfound}
use Rattle.record_target.proofs.Objects.{named_so}
use Rattle.record_target.proofs.Spelled.{its_layout}
use Rattle.record_target.proofs.named.find_named.Goals as goal

pub returns-in_err-kept-clause-finds : goal.returns-in_err-kept-clause-finds
returns-in_err-kept-clause-finds g c told q a s =
    let state = g.K.Keeper.state in
    let org = c.args.org in
    let name = c.args.name.now in
    let key = c.args.key.now in
    let l = c.in_ok-layout.layout in
    let b = c.ready_layout.new.draft in
    let tells = c.draft_laws.ensures.both 0 1 c.args.draft.now b c.named_record.new.draft c.ready_layout.ensures.calls.reads c.named_record.ensures.calls.reads told in
    let on = named_so org q a.tenant name c.ready_layout.result l (c.ready_layout.ensures.names tells.0 q a.tenant s) c.in_ok-layout.was in
    let its = subst (IsLayout q a.tenant) (sym on.2) (its_layout org q a.tenant on.0 (c.object_laws.ensures.named a.tenant name on.0 on.1)) in
    let stands = subst (λ (n : ℕ). StandsIn n q (tables_of state b) (Some a.tenant)) (sym (ap (λ (l : Layout). l.org) on.2)) (subst (λ (m : Tables). StandsIn org q m (Some a.tenant)) (sym tells.2) s) in
    let names = c.named_record.ensures.names tells.1 q a.tenant stands its in
    named_passed org q a name key c.in_err-kept.field-0.0 c.from_residual-in_err-kept.result c.from_residual-in_err-kept.ensures.1 (unfound org q a name key l on c.named_record.result c.in_err-kept.field-0.0 names c.in_err-kept.was)

pub returns-clause-finds : goal.returns-clause-finds
returns-clause-finds g c told q a s =
    let state = g.K.Keeper.state in
    let org = c.args.org in
    let name = c.args.name.now in
    let key = c.args.key.now in
    let l = c.in_ok-layout.layout in
    let b = c.ready_layout.new.draft in
    let tells = c.draft_laws.ensures.both 0 1 c.args.draft.now b c.named_record.new.draft c.ready_layout.ensures.calls.reads c.named_record.ensures.calls.reads told in
    let on = named_so org q a.tenant name c.ready_layout.result l (c.ready_layout.ensures.names tells.0 q a.tenant s) c.in_ok-layout.was in
    let its = subst (IsLayout q a.tenant) (sym on.2) (its_layout org q a.tenant on.0 (c.object_laws.ensures.named a.tenant name on.0 on.1)) in
    let stands = subst (λ (n : ℕ). StandsIn n q (tables_of state b) (Some a.tenant)) (sym (ap (λ (l : Layout). l.org) on.2)) (subst (λ (m : Tables). StandsIn org q m (Some a.tenant)) (sym tells.2) s) in
    named_is org q a name key l on c.named_record.result c.in_ok-kept.kept (c.named_record.ensures.names tells.1 q a.tenant stands its) c.in_ok-kept.was
