use Rattle.std.proofs.Common.{arith}
use Rattle.store_edit.proofs.Judged.{done_so}
use Rattle.store_kv.specs.Draft.{tables_of}
use Rattle.model.specs.Paths.{Asked}
use Rattle.model.specs.SharingRules.{add_sharing_rule}
use Rattle.access_rules.specs.inner.Adding.{changes_of}
use Rattle.access_rules.proofs.Putting.{SamePlan}
use Rattle.access_rules.proofs.RuleComes.{ComesLaws, comes_own, comes_takes}
use Rattle.access_rules.proofs.adding.AddSharingRuleEdit.judge.Goals as goal

pub returns-clause-what : goal.returns-clause-what
returns-clause-what g c told =
    let org = c.args.org in
    let b = c.args.self.now.new.now in
    let rows = c.in_ok-rows.rows in
    let own = c.in_ok-rows.ensures.own told in
    let laws : ComesLaws = record {
      org = record { fits = c.roster_laws.ensures.org_fits; counted = c.roster_laws.ensures.counted; plan = c.roster_laws.ensures.plan };
      rest = c.sharing_laws.ensures.rule;
      row = c.sharing_laws.ensures.rule_row;
      found = c.sharing_laws.ensures.found;
      more = c.sharing_laws.ensures.more;
      has = c.sharing_laws.ensures.has;
      fits = c.sharing_laws.ensures.fits;
      sound = c.sharing_sound.ensures.add_rule;
    } in
    done_so org (λ (a : Asked). add_sharing_rule a.tenant b) SamePlan _ (tables_of g.K.Keeper.state c.args.draft.now) (changes_of rows) c.decided.result c.decided.ensures.made c.decided.ensures.cause
    (comes_own org b.name rows c.in_ok-rows.ensures.fits own.0 own.1)
    (λ q a s f. comes_takes laws org q a.tenant b rows (omega arith) s.plan s.sound f c.in_ok-rows.ensures.fits.utf8 (c.in_ok-rows.ensures.adds told q a.tenant s f))
