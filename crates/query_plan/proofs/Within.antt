-- The conditions within another, as a row and as a list.
use Rattle.std.proofs.Common.{◌≡◌, not, ◌&&◌, ◌||◌, List, Option, refl, ap, ◌∙◌}
use Rattle.std.specs.List.{list_all, list_any}
use Rattle.std.specs.Prelude.{Result, Ok, Err, IfOk}
use Rattle.base_lemmas.proofs.Bools.{and-true as and_true}
use Rattle.store_codec.specs.declared.fail.CodecFail.{CodecFail}
use Rattle.store_codec.specs.declared.fail.CodecFail.TheVariants.{Damaged, Memory}
use mathlib.Core.Former.{Count}
use denote.Hole.Carrier.{hidden}
use Rattle.query_plan.specs.declared.check.Check.{Check, Not, And, Or, And', Or', Row_of-Check, end_of-Check, more_of-Check, items-the_row-Check, items_hidden-the_row-Check-1}
use Rattle.query_plan.specs.declared.check.Check.TheBlock.{hidden-the_row-Check-0}
use Rattle.model.specs.declared.record.Record.{Record}
use Rattle.query_plan.specs.Checks.{all_checks, check_holds, some_checks}
use Rattle.query_plan.specs.Given.{GivesJust}

abbrev row_of : Check → (n : Count) × Row_of-Check n
row_of (And' _ row) = (_, row)
row_of (Or' _ row) = (_, row)
row_of _ = (_, end_of-Check)

module _ (far : List (Option Record)) (r : Record) where
  all_in_row : (n : _) (row : Row_of-Check n) → all_checks far r row ≡ list_all (check_holds far r) (items-the_row-Check n row)
  all_in_row n end_of-Check = refl
  all_in_row n (more_of-Check part rest) = ap (λ b. check_holds far r part && b) (all_in_row _ rest)

  some_in_row : (n : _) (row : Row_of-Check n) → some_checks far r row ≡ list_any (check_holds far r) (items-the_row-Check n row)
  some_in_row n end_of-Check = refl
  some_in_row n (more_of-Check part rest) = ap (λ b. check_holds far r part || b) (some_in_row _ rest)

  pub holds_not : (c : Check) → check_holds far r (Not c) ≡ not (check_holds far r c)
  unfolding hidden-the_row-Check-0 hidden
  holds_not c = ap not (and_true (check_holds far r c))

  pub holds_and : (cs : List Check) → check_holds far r (And cs) ≡ list_all (check_holds far r) cs
  holds_and cs =
      let row = row_of (And cs) in
      all_in_row row.0 row.1 ∙ ap (list_all (check_holds far r)) (items_hidden-the_row-Check-1 cs)

  pub holds_or : (cs : List Check) → check_holds far r (Or cs) ≡ list_any (check_holds far r) cs
  holds_or cs =
      let row = row_of (Or cs) in
      some_in_row row.0 row.1 ∙ ap (list_any (check_holds far r)) (items_hidden-the_row-Check-1 cs)

-- one thing that is given for another that is the same
pub gives_so : {X : Type 0} {x y : X} (result : Result X CodecFail) → x ≡ y → GivesJust x result → GivesJust y result
gives_so (Ok z) e g = g ∙ e
gives_so (Err Damaged) e g = g
gives_so (Err Memory) e g = tt

-- one fact of what was returned for another
pub if_ok : {A E : Type 0} {P Q : A → Type 0} (r : Result A E) → ((x : A) → P x → Q x) → IfOk r P → IfOk r Q
if_ok (Ok x) f h = f x h
if_ok (Err e) f h = h
