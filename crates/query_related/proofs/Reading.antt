-- What is found by an id and the level is the record, if the user may read it.
use Rattle.std.proofs.Common.{◌≡◌, ℕ, cond, List, Option, Some, None, sym, ap, subst, ◌∙◌}
use Rattle.std.specs.Prelude.{Result, Ok, Err}
use Rattle.std.specs.Option.{option_and_then}
use Rattle.store_kv.specs.Tables.{Tables}
use Rattle.store_rows.specs.declared.fail.StoreFail.{StoreFail}
use Rattle.store_rows.specs.declared.fail.StoreFail.TheVariants.{Damaged, Keeper, Memory}
use Rattle.model.specs.declared.record.Record.{Record}
use Rattle.model.specs.Cases.{in_case}
use Rattle.model.specs.Levels.{at_least, level}
use Rattle.model.specs.Rights.{record_of_object}
use Rattle.model.specs.Tenant.{Tenant}
use Rattle.access_traits.specs.Rights.{FindsFor, Whose, level_there}
use Rattle.store_abstraction.specs.declared.layout.Layout.{Layout}
use Rattle.store_abstraction.specs.Layouts.{FindsOf}
use Rattle.store_abstraction.specs.Local.{StandsIn}
use Rattle.store_abstraction.specs.Plan.{OrgPlan}
use Rattle.base_value.specs.declared.sharing.Level.{Level}
use Rattle.base_value.specs.declared.sharing.Level.TheVariants.{Nothing, Read}
use Rattle.query_related.specs.parents.Parents.{FindsReadable, if_readable_by}
use Rattle.query_related.specs.parents.inner.Reading.{kept_if_readable}

module _ (l : Layout) (whose : Whose) (m : Tables) (id : List ℕ) (r : Record) (found : FindsOf l (λ t. record_of_object t l.object id) m (Ok (Some r))) (n : Tables) (same : n ≡ m) where
  over : (q : OrgPlan) (t : Tenant) → StandsIn l.org q m (Some t) → StandsIn l.org q n (Some t)
  over q t s = subst (λ (x : Tables). StandsIn l.org q x (Some t)) (sym same) s

  by_level : (x : Result Level StoreFail) → FindsFor l.org whose (λ t u. level_there t u l.object id) n x
      → FindsReadable l whose (λ t. record_of_object t l.object id) m (kept_if_readable x r)
  by_level (Ok x) h = λ q t u s its who.
      let there = found q t s its in
      let its_level : x ≡ level t u r = h q t u (over q t s) who ∙ ap (λ (o : Option Record). in_case o Nothing (level t u)) (sym there) in
      ap (λ (y : Level). cond {A = Option Record} (at_least Read y) (Some r) None) its_level
      ∙ ap (option_and_then (if_readable_by t u)) there
  by_level (Err Damaged) h = λ q t u s its who. h q t u (over q t s) who
  by_level (Err Keeper) h = tt
  by_level (Err Memory) h = tt

  -- a record was found, and then the level on it
  pub read : (x : Result Level StoreFail) → FindsFor l.org whose (λ t u. level_there t u l.object id) n x
      → (result : Result (Option Record) StoreFail) → result ≡ kept_if_readable x r → FindsReadable l whose (λ t. record_of_object t l.object id) m result
  read x h result is = subst (FindsReadable l whose (λ t. record_of_object t l.object id) m) (sym is) (by_level x h)
