-- The changes of an update, those of its shares and those of the record.
use Rattle.std.proofs.Common.{◌≡◌, ◌∙◌, List, [], ◌∷◌, ◌++◌, map, refl, ap}
use Rattle.store_edit.specs.Rows.{AreSpelled, spelled}
use Rattle.store_kv.specs.declared.keeper.Change.{Change as Spelled}
use Rattle.store_abstraction.specs.Changes.{Change}
use Rattle.record_save.specs.inner.Judged.{HaveKeys}

both_spelled : (xs ys : List Change) → map spelled xs ++ map spelled ys ≡ map spelled (xs ++ ys)
both_spelled [] ys = refl
both_spelled (x ∷ xs) ys = ap (λ (cs : List Spelled). spelled x ∷ cs) (both_spelled xs ys)

-- one after the other
pub made_both : (xs ys : List Change) (first items : List Spelled) → first ≡ map spelled xs → items ≡ first ++ map spelled ys → AreSpelled (xs ++ ys) items
made_both xs ys first items is then = then ∙ ap (λ (cs : List Spelled). cs ++ map spelled ys) is ∙ both_spelled xs ys

pub keys_both : (xs ys : List Change) → HaveKeys xs → HaveKeys ys → HaveKeys (xs ++ ys)
keys_both [] ys a b = b
keys_both (x ∷ xs) ys a b = (a.0, keys_both xs ys a.1 b)
