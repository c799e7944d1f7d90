use Rattle.std.proofs.Common.{rules, ◌∙◌}
use Rattle.std.specs.Cmp.Lexicographic.{slice_cmp}
use Rattle.std.specs.Ordering.{nat_cmp}
use Rattle.std.proofs.lemmas.Fn.{always_returns_same}
use Rattle.access_closure.specs.Places.{user_row_id}
use Rattle.access_closure.proofs.Found.{searched}
use Rattle.access_closure.proofs.people.user_place.Goals as goal

-- the closure compares a row's id
pub returns : goal.returns
returns c = λ rise.
    let facts = c.binary_search_by.ensures in
    let found = facts.position (λ row. slice_cmp nat_cmp row.id c.args.id.now) (always_returns_same _ _ _ (λ a r f called. search rules)) in
    c.ok.ensures.value ∙ searched user_row_id c.args.users.now c.args.id.now c.binary_search_by.result rise facts.bound found
