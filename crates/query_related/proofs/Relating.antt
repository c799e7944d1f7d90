-- What is found by a row is found by what is seen of it.
use Rattle.std.proofs.Common.{◌≡◌, ℕ, List, Option, Some, sym}
use Rattle.std.specs.Prelude.{Result, Ok, Err}
use Rattle.record_read.proofs.Rising.{has_filter}
use Rattle.store_kv.specs.Tables.{Tables}
use Rattle.store_rows.specs.declared.fail.StoreFail.{StoreFail}
use Rattle.store_rows.specs.declared.fail.StoreFail.TheVariants.{Damaged, Keeper, Memory}
use Rattle.model.specs.declared.record.Record.{Record}
use Rattle.model.specs.Objects.{is_of}
use Rattle.model.specs.Paths.{Asked}
use Rattle.query_related.specs.parents.Branches.{FindsOfRow}
use Rattle.access_traits.specs.Rights.{Whose}
use Rattle.store_abstraction.specs.Layouts.{own_layouts}
use Rattle.store_abstraction.specs.declared.layout.Layout.{Layout}
use Rattle.query_related.specs.Children.{FindsOfTarget}
use Rattle.query_exec.specs.Relatives.{Asking, FindsOfSeen}

module _ {X : Type 0} (l : Layout) (layouts : List Layout) (whose : Whose) (item : Option Record) (value : Asked → Record → X) (m : Tables) where
  -- of whom it is so
  abbrev own : Asking
  own org q a = (layouts ≡ own_layouts org q (Some a.tenant)) × whose a.tenant a.user

  pub row_seen : (x : Result X StoreFail) → FindsOfRow layouts whose item value m x → FindsOfSeen l own item value m x
  row_seen (Ok y) h = λ q a r s its who has is. h l.org q a r s who.0 who.1 (has_filter (is_of l.object) a.tenant.records r has).0 is
  row_seen (Err Damaged) h = λ q a r s its who has is. h l.org q a r s who.0 who.1 (has_filter (is_of l.object) a.tenant.records r has).0 is
  row_seen (Err Keeper) h = tt
  row_seen (Err Memory) h = tt

  pub target_seen : (id : List ℕ) → ((r : Record) → item ≡ Some r → id ≡ r.id) → (x : Result X StoreFail) → FindsOfTarget layouts whose id value m x → FindsOfSeen l own item value m x
  target_seen id named (Ok y) h = λ q a r s its who has is. h l.org q a s who.0 who.1 r (sym (named r is))
  target_seen id named (Err Damaged) h = λ q a r s its who has is. h l.org q a s who.0 who.1 r (sym (named r is))
  target_seen id named (Err Keeper) h = tt
  target_seen id named (Err Memory) h = tt
