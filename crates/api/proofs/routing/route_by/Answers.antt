use Rattle.std.proofs.Common.{ap, sym, ◌∙◌}
use Rattle.std.proofs.lemmas.Result.{IfOk-weaker}
use Rattle.matchit.specs.Seek.{first}
use Rattle.api.proofs.Finding.{found-parts, lost}
use Rattle.api.proofs.routing.route_by.Goals as goal

pub returns-in-Ok : goal.returns-in-Ok
returns-in-Ok c = λ target is_path is_query.
    let path = c.args.path.now in
    let is = ap (λ rs. first rs path) (sym c.requires) ∙ c.in-Ok.ensures.found in
    let h = found-parts c.args.method.now path c.args.query.now target _ _ c.iter.result c.utf8.path is_path is_query is c.in-Ok.ensures.path c.iter.ensures.value in
    IfOk-weaker c.route_at.result _ _ (λ r e. e ∙ h.1) (c.route_at.ensures h.0)

pub returns-in-Err : goal.returns-in-Err
returns-in-Err c = λ target is_path is_query.
    let path = c.args.path.now in
    lost c.args.method.now path target c.utf8.path is_path (ap (λ rs. first rs path) (sym c.requires) ∙ c.in-Err.ensures.missing)
