use Rattle.std.proofs.Common.{◌∙◌, ◌-◌, ℕ, [], ◌∷◌, ap, ap₂}
use Rattle.std.specs.Prelude.{codes}
use Rattle.std.specs.Str.{chars}
use Rattle.base_json_tree.specs.Words.{member, number, object}
use Rattle.api_read.proofs.CallerTold.{two_members}
use Rattle.api_read.proofs.caller.limit_json.Goals as goal

pub returns : goal.returns
unfolding chars
returns c =
    let most = c.number-most.ensures in
    let more = c.saturating_sub-more.ensures ∙ ap (λ (n : ℕ). n - c.args.count) most in
    two_members c.new-members.result c.number.new.self c.number-2.new.self c.finish.result (member (codes "Max") (number c.number-most.result)) (member (codes "Remaining") (number c.saturating_sub-more.result))
    c.new-members.ensures c.in_ok-number.ensures c.in_ok-number-2.ensures c.finish.ensures
    ∙ ap₂ (λ (a b : ℕ). object (member (codes "Max") (number a) ∷ member (codes "Remaining") (number b) ∷ [])) most more
