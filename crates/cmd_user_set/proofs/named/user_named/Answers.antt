use Rattle.std.proofs.Common.{◌≡◌, ◌∙◌, ℕ, List, Option, Some, None, Ok, sym, subst}
use Rattle.std.specs.Option.{ok_or, option_and_then}
use Rattle.store_abstraction.specs.declared.fail.EditFail.{EditFail}
use Rattle.cmd_user_set.specs.UserSet.{user_with_id}
use Rattle.cmd_user_set.specs.inner.Named.{FindsUser}
use Rattle.cmd_user_set.proofs.named.user_named.Goals as goal

-- what is there where none is an error
some_there : (o : Option (ℕ × List ℕ)) (e : EditFail) (x : ℕ × List ℕ) → Ok x ≡ ok_or o e → o ≡ Some x
some_there None e x is = absurd cc
some_there (Some y) e x is = cc

pub returns-clause-finds : goal.returns-clause-finds
returns-clause-finds g c told w s =
    subst (λ o. FindsUser (option_and_then (user_with_id w) o) c.user_there.result)
    (sym (some_there c.named_ids.result _ (c.in_ok-number.number, c.in_ok-number.id) c.in_ok-number.ensures.value) ∙ c.named_ids.ensures)
    (c.user_there.ensures.finds told w s)
