use Rattle.std.proofs.Common.{arith}
use Rattle.store_edit.proofs.Judged.{done_so}
use Rattle.store_kv.specs.Draft.{tables_of}
use Rattle.model.specs.Paths.{Asked}
use Rattle.model.specs.SharingRules.{remove_sharing_rule}
use Rattle.access_rules.specs.inner.Removing.{changes_of}
use Rattle.access_rules.proofs.Putting.{SamePlan}
use Rattle.access_rules.proofs.RuleGone.{GoneLaws, gone_own, gone_takes}
use Rattle.access_rules.proofs.removing.RemoveSharingRuleEdit.judge.Goals as goal

pub returns-clause-what : goal.returns-clause-what
returns-clause-what g c told =
    let org = c.args.org in
    let name = c.args.self.now.name.now in
    let left = c.in_ok-left.left in
    let fits = c.in_ok-left.ensures.fits in
    let laws : GoneLaws = record {
      org = record { fits = c.roster_laws.ensures.org_fits; counted = c.roster_laws.ensures.counted; plan = c.roster_laws.ensures.plan };
      rest = c.sharing_laws.ensures.no_rule;
      row = c.sharing_laws.ensures.no_rule_row;
      sound = c.sharing_sound.ensures.remove_rule;
    } in
    done_so org (λ (a : Asked). remove_sharing_rule a.tenant name) SamePlan (λ a. Unit {0}) (tables_of g.K.Keeper.state c.args.draft.now) (changes_of left) c.decided.result c.decided.ensures.made c.decided.ensures.cause
    (gone_own org name left fits (c.in_ok-left.ensures.own told))
    (λ q a s f.
    let passes = c.in_ok-left.ensures.passes told q a.tenant s in
    gone_takes laws org q a.tenant name left (omega arith) s.plan s.sound passes.0 passes.1 fits)
