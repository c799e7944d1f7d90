use Rattle.std.proofs.Common.{◌≡◌, ◌∙◌, true, false, sym, ap, subst}
use Rattle.std.specs.Str.{chars}
use Rattle.store_kv.specs.Draft.{tables_of}
use Rattle.model.specs.Organisations.{is_secret}
use Rattle.cmd_user_set.specs.UserSet.{key_change}
use Rattle.cmd_user_set.specs.inner.Named.{ChangesKey}
use Rattle.cmd_user_set.proofs.Secrets.{same_secret}
use Rattle.cmd_user_set.proofs.Setting.{changed_so, not_secret}
use Rattle.cmd_user_set.proofs.key.change_key.Goals as goal

pub returns-then-not-is_secret-clause-what : goal.returns-then-not-is_secret-clause-what
returns-then-not-is_secret-clause-what g c told =
    let secret = chars c.args.secret.now in
    let no : is_secret secret ≡ false = ap is_secret (sym c.in_ok-secret.ensures) ∙ (sym (same_secret c.in_ok-secret.secret c.as_str.result.now c.as_str.ensures.bytes c.as_str.ensures.characters) ∙ (sym c.is_secret.ensures ∙ c.if-not-is_secret.true)) in
    not_secret c.args.org (chars c.args.user.now) secret (tables_of g.K.Keeper.state c.args.draft.now) no

pub returns-clause-what : goal.returns-clause-what
returns-clause-what g c told =
    let state = g.K.Keeper.state in
    let secret = chars c.args.secret.now in
    let yes : is_secret secret ≡ true = ap is_secret (sym c.in_ok-secret.ensures) ∙ (sym (same_secret c.in_ok-secret.secret c.as_str.result.now c.as_str.ensures.bytes c.as_str.ensures.characters) ∙ (sym c.is_secret.ensures ∙ c.if-not-is_secret.false)) in
    let before = tables_of state c.args.draft.now in
    let after = tables_of state c.make_edit.new.draft in
    subst (λ u. ChangesKey c.args.org u secret before after c.make_edit.result) c.in_ok-user.ensures
    (changed_so c.args.org c.in_ok-user.user secret before after yes c.key_change-change.result c.make_edit.result (c.key_change-change.ensures ∙ ap key_change c.in_ok-secret.ensures)
    (c.make_edit.ensures.what told))
