-- Answers of lines, which change nothing.
use Rattle.std.specs.Prelude.{◌≡◌, ◌≢◌, ◌⊎◌, ℕ, true, List, Result, Ok, Err, ℤ}
use Rattle.store_kv.specs.Tables.{Tables}
use Rattle.store_rows.specs.declared.fail.StoreFail.{StoreFail}
use Rattle.store_rows.specs.declared.fail.StoreFail.TheVariants.{Damaged}
use Rattle.soql.specs.declared.query.Query.{Query}
use Rattle.model.specs.Paths.{Asked}
use Rattle.model.specs.declared.refusal.Refusal.{Refusal}
use Rattle.access_traits.specs.Rights.{Whose}
use Rattle.store_abstraction.specs.Plan.{OrgPlan}
use Rattle.store_abstraction.specs.declared.layout.Layout.{Layout}
use Rattle.model.specs.Flat.{is_flat}
use Rattle.query_check.specs.Reaching.{Reaches}
use Rattle.query_json.specs.Answers.{IsAskedOf}
use Rattle.query_csv.specs.Lines.{query_lines}

-- the lines of the query, or why it is refused; the rows of a tenant are never damaged
abbrev pub IsLines : Asked → Query → Result (Result (List ℕ) Refusal) StoreFail → Type 0
IsLines a q (Ok lines) = lines ≡ query_lines a q
IsLines a q (Err e) = e ≢ Damaged

-- who asks at this moment, in a tenant for which the organisation's rows stand and whose object this is, sees so and has these rights,
-- unless the query is over this object alone, and by these layouts the query is judged
pub record IsAskedBy (layouts : List Layout) (l : Layout) (sees whose : Whose) (moment : ℤ) (q : Query) (m : Tables) (p : OrgPlan) (a : Asked) : Type 0 where
  pub asked : IsAskedOf l sees moment q m p a
  pub reaches : Reaches l.org p a.tenant layouts q
  pub rights : (is_flat q ≡ true) ⊎ whose a.tenant a.user

-- the lines of any query of this object
abbrev pub AnswersLines : List Layout → Layout → (sees whose : Whose) → (moment : ℤ) → Query → Tables → Result (Result (List ℕ) Refusal) StoreFail → Type 0
AnswersLines layouts l sees whose moment q m result =
    (p : OrgPlan) (a : Asked) → IsAskedBy layouts l sees whose moment q m p a → IsLines a q result
