use Rattle.std.proofs.Common.{subst, sym, w64, ℤ}
use Rattle.std.proofs.lemmas.Int.{to_z-of_z}
use Rattle.query_json.specs.Answers.{IsAskedOver}
use Rattle.store_kv.specs.Draft.{tables_of}
use Rattle.api.proofs.Refusing.{answer_of}
use Rattle.api.proofs.asking.JsonRepliesQueryForm.related.Goals as goal

pub returns-clause-what : goal.returns-clause-what
returns-clause-what g c told p a is =
    let l = c.args.layout.now in
    let m = tables_of g.K.Keeper.state c.args.draft.now in
    answer_of a c.args.query.now c.answer_related.result (c.answer_related.ensures.what told p a
    (subst (λ (now : ℤ). IsAskedOver c.args.layouts.now l (g.S.Sight.sees c.args.sight.now l) (g.R.Rights.whose c.args.rights.now) now c.args.query.now m p a) (sym (to_z-of_z w64 c.args.now c.ranges.now)) is))
