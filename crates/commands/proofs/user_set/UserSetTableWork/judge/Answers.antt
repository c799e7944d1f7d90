use Rattle.std.proofs.Common.{◌∙◌, Err, ap, subst}
use Rattle.std.specs.Str.{chars}
use Rattle.cmd_user_set.specs.UserSet.{user_set_verdict}
use Rattle.store_kv.specs.Draft.{tables_of}
use Rattle.store_abstraction.specs.Operations.{Edits}
use Rattle.commands.specs.UserSet.{user_set_does}
use Rattle.commands.proofs.Judging.{judged_failed, judged_not_set, judged_set}
use Rattle.commands.proofs.user_set.UserSetTableWork.judge.Goals as goal

pub returns-in_ok-printout_of_user-in-Ok-clause-judged : goal.returns-in_ok-printout_of_user-in-Ok-clause-judged
returns-in_ok-printout_of_user-in-Ok-clause-judged g c told w s counted =
    let after = tables_of g.K.Keeper.state c.set_user_key.new.draft in
    let u = c.args.self.now in
    let edits = subst (Edits (user_set_verdict (chars u.org.now) (chars u.user.now) (chars u.secret.now)) w after) c.in-Ok.is (c.set_user_key.ensures.sets told w s) in
    judged_set u.org.now u.user.now u.secret.now w after c.in-Ok.ids c.in_ok-printout_of_user-in-Ok.field-0 edits c.in_ok-printout_of_user-in-Ok.ensures

pub returns-in_ok-printout_of_refusal-in-Err-Refused-clause-judged : goal.returns-in_ok-printout_of_refusal-in-Err-Refused-clause-judged
returns-in_ok-printout_of_refusal-in-Err-Refused-clause-judged g c told w s counted =
    let after = tables_of g.K.Keeper.state c.set_user_key.new.draft in
    let u = c.args.self.now in
    let edits = subst (Edits (user_set_verdict (chars u.org.now) (chars u.user.now) (chars u.secret.now)) w after) (c.in-Err-Refused.is ∙ ap Err c.in-Err-Refused.field-0-is) (c.set_user_key.ensures.sets told w s) in
    judged_not_set u.org.now u.user.now u.secret.now w after c.in-Err-Refused.refusal c.in_ok-printout_of_refusal-in-Err-Refused.field-0 edits c.in_ok-printout_of_refusal-in-Err-Refused.ensures

pub returns-in-Err-Store-clause-judged : goal.returns-in-Err-Store-clause-judged
returns-in-Err-Store-clause-judged g c told w s counted =
    let after = tables_of g.K.Keeper.state c.set_user_key.new.draft in
    let u = c.args.self.now in
    let verdict = user_set_verdict (chars u.org.now) (chars u.user.now) (chars u.secret.now) in
    let edits = subst (Edits verdict w after) (c.in-Err-Store.is ∙ ap Err c.in-Err-Store.field-0-is) (c.set_user_key.ensures.sets told w s) in
    judged_failed verdict (user_set_does u.org.now u.user.now u.secret.now) w after after c.in-Err-Store.fail edits
