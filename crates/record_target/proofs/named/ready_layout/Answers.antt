use Rattle.std.proofs.Common.{◌∙◌, sym}
use Rattle.record_target.proofs.Ready.{ready_there}
use Rattle.record_target.proofs.Objects.{named_so}
use Rattle.record_target.proofs.named.ready_layout.Goals as goal

pub returns-else-is_ready-clause-names : goal.returns-else-is_ready-clause-names
returns-else-is_ready-clause-names g c told q t s =
    let org = c.args.org in
    let name = c.args.name.now in
    let l = c.in_ok-layout.layout in
    let on = named_so org q t name c.layout_there.result l (c.layout_there.ensures.names told q t s) c.in_ok-layout.was in
    λ _. ready_there c.data_laws.ensures.typed c.pivot_laws.ensures.converting c.object_laws.ensures.named org q t name l s.sound on (sym c.is_ready.ensures ∙ c.if-is_ready.false)
