use Rattle.std.proofs.Common.{◌∙◌, Ok, Some, map, subst, sym}
use Rattle.std.specs.Prelude.{codes}
use Rattle.store_kv.specs.Draft.{tables_of}
use Rattle.store_kv.specs.Tables.{Tables}
use Rattle.model_reads.specs.PeopleJson.{listed}
use Rattle.model_reads.specs.SettingsJson.{sharing_rule_json}
use Rattle.people_rows.specs.sharing.SharingRules.{sharing_rows}
use Rattle.store_abstraction.specs.Layouts.{own_layouts}
use Rattle.store_abstraction.specs.Local.{FindsIn, StandsIn}
use Rattle.store_edit.proofs.Reading.{two_reads}
use Rattle.api_read.proofs.CallerReads.{failed_so, no_memory, unread}
use Rattle.api_read.proofs.PeopleReads.{unlisted}
use Rattle.api_read.proofs.PeopleTold.{rows_are}
use Rattle.api_read.proofs.RulesTold.{rules_told}
use Rattle.api_read.proofs.sharing_rules.sharing_rules.Goals as goal

pub returns-in_err-objects-clause-tells : goal.returns-in_err-objects-clause-tells
returns-in_err-objects-clause-tells g c told q t s =
    let org = c.args.org in
    let m = tables_of g.K.Keeper.state c.args.draft.now in
    let e = c.in_err-objects.field-0.0 in
    failed_so (Ok (listed (codes "sharingRules") (map (sharing_rule_json t) t.sharing_rules))) c.from_residual.result e c.from_residual.ensures.1
    (unread org q m t (own_layouts org) c.layouts.result e (c.layouts.ensures.finds told) c.in_err-objects.was s)

pub returns-in_err-rows-clause-tells : goal.returns-in_err-rows-clause-tells
returns-in_err-rows-clause-tells g c told q t s =
    let state = g.K.Keeper.state in
    let laws = c.call_laws.ensures in
    let org = c.args.org in
    let b = c.layouts.new.draft in
    let e = c.in_err-rows.field-0.0 in
    let reads = two_reads state laws.told_first laws.told_then laws.tables c.args.draft.now b c.sharing_rules_of.new.draft c.layouts.ensures.calls c.sharing_rules_of.ensures.calls told in
    let stands = subst (λ (m : Tables). StandsIn org q m (Some t)) (sym reads.same) s in
    failed_so (Ok (listed (codes "sharingRules") (map (sharing_rule_json t) t.sharing_rules))) c.from_residual-in_err-rows.result e c.from_residual-in_err-rows.ensures.1
    (unlisted org q (tables_of state b) t (λ q t. sharing_rows org t) c.sharing_rules_of.result e (c.sharing_rules_of.ensures.finds reads.then) c.in_err-rows.was stands)

pub returns-in_err-listed_rules-clause-tells : goal.returns-in_err-listed_rules-clause-tells
returns-in_err-listed_rules-clause-tells g c told q t s =
    no_memory (Ok (listed (codes "sharingRules") (map (sharing_rule_json t) t.sharing_rules))) c.from_residual-in_err-listed_rules.result c.from_residual-in_err-listed_rules.ensures.1

pub returns-clause-tells : goal.returns-clause-tells
returns-clause-tells g c told q t s =
    let state = g.K.Keeper.state in
    let laws = c.call_laws.ensures in
    let org = c.args.org in
    let a = c.args.draft.now in
    let b = c.layouts.new.draft in
    let reads = two_reads state laws.told_first laws.told_then laws.tables a b c.sharing_rules_of.new.draft c.layouts.ensures.calls c.sharing_rules_of.ensures.calls told in
    let stands = subst (λ (m : Tables). StandsIn org q m (Some t)) (sym reads.same) s in
    let objects = c.as_slice.ensures ∙ subst (FindsIn org (own_layouts org) (tables_of state a)) c.in_ok-objects.was (c.layouts.ensures.finds reads.first) q (Some t) s in
    rules_told org q t c.in_ok-listed_rules.field-0 c.as_slice.result.now c.as_slice-2.result.now c.in_ok-listed_rules.ensures objects
    (rows_are org q (tables_of state b) t (λ q t. sharing_rows org t) c.sharing_rules_of.result c.in_ok-rows.rows c.as_slice-2.result.now (c.sharing_rules_of.ensures.finds reads.then) c.in_ok-rows.was stands c.as_slice-2.ensures.value)
