use Rattle.std.proofs.Common.{◌∙◌, Err, ap, subst, sym}
use Rattle.std.specs.Str.{chars}
use Rattle.sha2.specs.Sha256.{sha256}
use Rattle.store_kv.specs.Draft.{tables_of}
use Rattle.model.specs.Organisations.{org_verdict}
use Rattle.store_abstraction.specs.Operations.{Edits}
use Rattle.commands.specs.OrgAdd.{org_does}
use Rattle.commands.proofs.Judging.{judged_done, judged_failed, judged_full}
use Rattle.commands.proofs.org_add.OrgAddTableWork.judge.Goals as goal

pub returns-in_ok-org_printout-in-Ok-clause-judged : goal.returns-in_ok-org_printout-in-Ok-clause-judged
returns-in_ok-org_printout-in-Ok-clause-judged g c told w s counted =
    let after = tables_of g.K.Keeper.state c.add_org.new.draft in
    let name = c.args.self.now.name.now in
    let secret = c.args.self.now.secret.now in
    let edits = subst (Edits (org_verdict (chars name) (sha256 secret)) w after) c.in-Ok.is (c.add_org.ensures.adds told w s counted) in
    judged_done w name secret (sym c.is_name.ensures ∙ c.if-not-is_name.false) (sym c.is_secret.ensures ∙ c.if-not-is_secret.false) after c.in-Ok.org edits.0 c.in_ok-org_printout-in-Ok.field-0 edits.1 c.in_ok-org_printout-in-Ok.ensures edits.2

pub returns-in_ok-printout_of_refusal-in-Err-Refused-clause-judged : goal.returns-in_ok-printout_of_refusal-in-Err-Refused-clause-judged
returns-in_ok-printout_of_refusal-in-Err-Refused-clause-judged g c told w s counted =
    let after = tables_of g.K.Keeper.state c.add_org.new.draft in
    let name = c.args.self.now.name.now in
    let secret = c.args.self.now.secret.now in
    let edits = subst (Edits (org_verdict (chars name) (sha256 secret)) w after) (c.in-Err-Refused.is ∙ ap Err c.in-Err-Refused.field-0-is) (c.add_org.ensures.adds told w s counted) in
    judged_full w name secret (sym c.is_name.ensures ∙ c.if-not-is_name.false) (sym c.is_secret.ensures ∙ c.if-not-is_secret.false) after c.in-Err-Refused.refusal c.in_ok-printout_of_refusal-in-Err-Refused.field-0 edits c.in_ok-printout_of_refusal-in-Err-Refused.ensures

pub returns-in-Err-Store-clause-judged : goal.returns-in-Err-Store-clause-judged
returns-in-Err-Store-clause-judged g c told w s counted =
    let after = tables_of g.K.Keeper.state c.add_org.new.draft in
    let name = c.args.self.now.name.now in
    let secret = c.args.self.now.secret.now in
    let edits = subst (Edits (org_verdict (chars name) (sha256 secret)) w after) (c.in-Err-Store.is ∙ ap Err c.in-Err-Store.field-0-is) (c.add_org.ensures.adds told w s counted) in
    judged_failed (org_verdict (chars name) (sha256 secret)) (org_does name secret) w after after c.in-Err-Store.fail edits
