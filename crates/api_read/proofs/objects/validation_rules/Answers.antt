use Rattle.std.proofs.Common.{ℕ, Some, Ok, subst, sym}
use Rattle.model_reads.specs.SettingsJson.{validation_rules_json}
use Rattle.store_abstraction.specs.Local.{StandsIn}
use Rattle.store_edit.specs.Naming.{NamesLayout}
use Rattle.store_edit.proofs.Reading.{two_reads}
use Rattle.store_kv.specs.Draft.{tables_of}
use Rattle.store_kv.specs.Tables.{Tables}
use Rattle.api_read.proofs.ObjectsTold.{named_is, rules_told_so, unnamed}
use Rattle.api_read.proofs.objects.validation_rules.Goals as goal

pub returns-in-Ok-clause-tells : goal.returns-in-Ok-clause-tells
returns-in-Ok-clause-tells g c told q t s =
    let org = c.args.org in
    let name = c.args.object.now in
    let calls = c.call_laws.ensures in
    let b = c.layout_there.new.draft in
    let reads = two_reads g.K.Keeper.state calls.told_first calls.told_then calls.tables c.args.draft.now b c.rules_by_layout.new.draft c.layout_there.ensures.calls c.rules_by_layout.ensures.calls told in
    let is = named_is org q t name c.in-Ok.layout (subst (NamesLayout org q t name) c.in-Ok.is (c.layout_there.ensures.names reads.first q t s)) in
    let stands = subst (λ (m : Tables). StandsIn org q m (Some t)) (sym reads.same) s in
    let here = subst (λ (n : ℕ). StandsIn n q (tables_of g.K.Keeper.state b) (Some t)) (sym is.organisation) stands in
    rules_told_so org q t name c.in-Ok.layout c.rules_by_layout.result is (c.rules_by_layout.ensures.tells reads.then q t here is.layout)

pub returns-in-Err-clause-tells : goal.returns-in-Err-clause-tells
returns-in-Err-clause-tells g c told q t s =
    let org = c.args.org in
    let name = c.args.object.now in
    unnamed org q t name (λ o. Ok (validation_rules_json o.object)) c.in-Err.fail (subst (NamesLayout org q t name) c.in-Err.is (c.layout_there.ensures.names told q t s))
