-- Rules that refuse nothing.
use Rattle.std.proofs.Common.{◌≡◌, Bool, true, false, List, ◌∷◌, Option, Some, None, is_none, refl}
use Rattle.model.specs.declared.refusal.Refusal.{Refusal}
use Rattle.model.specs.Rules as model
use Rattle.model.specs.Rules.{first_refusal, refuse_if}
use Rattle.query_check.specs.declared.columns.Column.{Column}

pub first_none : (r : model.Rule) (rs : List model.Rule) → first_refusal (r ∷ rs) ≡ None → r ≡ None
first_none None rs e = refl
first_none (Some q) rs e = absurd cc

pub rest_none : (r : model.Rule) (rs : List model.Rule) → first_refusal (r ∷ rs) ≡ None → first_refusal rs ≡ None
rest_none None rs e = e
rest_none (Some q) rs e = absurd cc

pub not_refused : (b : Bool) (q : Refusal) → refuse_if b q ≡ None → b ≡ false
not_refused true q e = absurd cc
not_refused false q e = refl

pub some_column : (o : Option Column) → is_none o ≡ false → (c : Column) × (o ≡ Some c)
some_column None e = absurd cc
some_column (Some c) e = (c, refl)
