use Rattle.std.proofs.Common.{◌∙◌, refl, sym, ap, arith}
use Rattle.store_kv.specs.Draft.{tables_of}
use Rattle.cmd_user_set.specs.UserSet.{user_with_id}
use Rattle.cmd_user_set.proofs.Finding.{none_found, not_found, some_found}
use Rattle.cmd_user_set.proofs.named.user_there.Goals as goal

pub returns-in-Ok-Some-clause-finds : goal.returns-in-Ok-Some-clause-finds
returns-in-Ok-Some-clause-finds g c told w s =
    let same = c.in-Ok.ensures.1 in
    ap (λ n. user_with_id w (n, c.args.id)) (sym same) ∙ some_found c.local_laws.ensures.each (tables_of g.K.Keeper.state c.args.draft.now) w s c.in-Ok.org c.args.id (omega arith) c.in-Ok-Some.field-0 c.in-Ok-Some.field-0-0 c.in-Ok-Some.field-0-is (c.in-Ok-Some.ensures.finds told)

pub returns-in-Ok-None-clause-finds : goal.returns-in-Ok-None-clause-finds
returns-in-Ok-None-clause-finds g c told w s = (
  ap (λ n. user_with_id w (n, c.args.id)) (sym c.in-Ok.ensures.1)
      ∙ none_found c.local_laws.ensures.each (tables_of g.K.Keeper.state c.args.draft.now) w s c.in-Ok.org c.args.id (omega arith) c.in-Ok-None.field-0 c.in-Ok-None.field-0-is (c.in-Ok-None.ensures.finds told),
  refl,
)

pub returns-clause-finds : goal.returns-clause-finds
returns-clause-finds g c told w s =
    not_found c.local_laws.ensures.each (tables_of g.K.Keeper.state c.args.draft.now) w s c.in-Ok.org c.args.id (omega arith) (user_with_id w (c.args.number, c.args.id)) c.in-Err.fail (c.in-Err.ensures.finds told)
