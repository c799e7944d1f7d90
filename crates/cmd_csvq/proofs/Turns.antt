-- What an input comes to, by how far its organisation was made.
use Rattle.std.proofs.Common.{◌≡◌, ◌∙◌, ◌≤◌, ◌<◌, arith, ℕ, Bool, true, false, cond, List, [], ◌∷◌, length, map, take, Option, Some, None, Result, Ok, Err, nat_le, refl, sym, ap, subst, pos}
use Rattle.std.proofs.lemmas.Bool.Decides.{nat_tests}
use Rattle.std.specs.Prelude.{IsErr}
use Rattle.std.specs.Result.{IsErrAnd}
use Rattle.csv.specs.Records.{Row, fields_of}
use Rattle.store_kv.specs.Draft.{Held}
use Rattle.store_kv.specs.Memory.{InMemory}
use Rattle.store_rows.specs.declared.fail.StoreFail.{StoreFail}
use Rattle.store_rows.specs.declared.fail.StoreFail.TheVariants.{Memory}
use Rattle.soql.specs.declared.query.Query.{Query}
use Rattle.base_csv.specs.Place.{TellsPlace}
use Rattle.base_csv.specs.Table.{first_refused, table_of}
use Rattle.base_csv.specs.declared.fail.TableFail.{TableFail}
use Rattle.base_csv.specs.declared.fail.TableFail.TheVariants as table
use Rattle.model.specs.Cases.{in_case}
use Rattle.model.specs.Limits.{input_limit}
use Rattle.model.specs.Metadata.{add_object}
use Rattle.model.specs.Paths.{Asked}
use Rattle.model.specs.declared.refusal.Refusal.{Refusal}
use Rattle.model.specs.declared.refusal.Refusal.TheVariants.{CsvRefused, InputTooLarge}
use Rattle.cmd_sandbox.specs.Making.{IsOwned}
use Rattle.cmd_sandbox.specs.Own.{asker, past, refusal_of}
use Rattle.cmd_csvq.specs.Organisation.{new_rows, with_columns}
use Rattle.cmd_csvq.specs.Outcomes.{columns_outcome, input_outcome, table_outcome}
use Rattle.cmd_csvq.specs.declared.outcome.Outcome.{Outcome}
use Rattle.cmd_csvq.specs.declared.outcome.Outcome.TheVariants.{Refused}
use Rattle.cmd_csvq.specs.inner.Making.{Goes}
use Rattle.cmd_csvq.proofs.Cutting.{cut_table}

-- what is handed on that a call came to
pub handed_on : {Y : Type 0} (P : Result Y StoreFail → Type 0) (out : Result Y StoreFail) (e : StoreFail) → IsErr out × IsErrAnd out (λ x. x ≡ e) → P (Err e) → P out
handed_on P (Ok y) e out h = absurd out.1
handed_on P (Err x) e out h = subst (λ (z : StoreFail). P (Err z)) (sym out.1) h

module _ {X : Type 0} (now : ℕ) (m : Held InMemory) where
  pub goes_wrong : (r : Result Asked X) (y : X) → Goes now m r (Ok (Some y)) → r ≡ Err y
  goes_wrong (Ok b) y h = absurd h
  goes_wrong (Err x) y h = ap Err (sym h)

  -- it stopped
  pub goes_out : (r : Result Asked X) (e : StoreFail) → e ≡ Memory → Goes now m r (Err e)
  goes_out (Ok b) e h = h
  goes_out (Err x) e h = h

  pub went_out : (r : Result Asked X) (e : StoreFail) → Goes now m r (Err e) → e ≡ Memory
  went_out (Ok b) e h = h
  went_out (Err x) e h = h

  pub goes_well : (r : Result Asked X) → Goes now m r (Ok None) → (b : Asked) × (r ≡ Ok b) × IsOwned now m b
  goes_well (Ok b) h = (b, refl, h)
  goes_well (Err x) h = absurd h

module _ (q : Query) (now : ℕ) (heading : List (List ℕ)) (rows : List (List (List ℕ))) where
  -- what it comes to by the verdict on the object
  pub by_object : (refused : Option Refusal) → refusal_of (add_object (asker (pos now)).tenant new_rows).answer ≡ refused
      → in_case refused (columns_outcome q heading rows (with_columns false (past (asker (pos now)) (add_object (asker (pos now)).tenant new_rows)) heading)) Refused
      ≡ table_outcome q (pos now) (heading ∷ rows)
  by_object refused e =
      sym (ap (λ (x : Option Refusal). in_case x (columns_outcome q heading rows (with_columns false (past (asker (pos now)) (add_object (asker (pos now)).tenant new_rows)) heading)) Refused) e)

pub no_record : (q : Query) (now : ℕ) (records : List Row) → length records ≡ 0 → Refused (CsvRefused 0) ≡ table_outcome q (pos now) (map fields_of records)
no_record q now [] e = refl
no_record q now (r ∷ rs) e = absurd (omega arith)

-- ---- the bytes of an input

pub told_row : (bytes : List ℕ) (fail : TableFail) (row line column : ℕ) → fail ≡ table.Refused row line column → TellsPlace bytes fail → first_refused bytes ≡ Some row
told_row bytes fail row line column is told = by (subst (TellsPlace bytes) is told)
  where
    by : TellsPlace bytes (table.Refused row line column) → first_refused bytes ≡ Some row
    by h = h.refused

module _ (q : Query) (now : ℕ) (bytes : List ℕ) where
  abbrev by_length : Bool → Outcome
  by_length small = cond small (in_case (first_refused bytes) (table_outcome q (pos now) (table_of bytes)) (λ row. Refused (CsvRefused row))) (Refused InputTooLarge)

  small_so : length bytes ≤ input_limit → nat_le (length bytes) input_limit ≡ true
  small_so h = grind (arith, nat_tests)

  large_so : input_limit < length bytes → nat_le (length bytes) input_limit ≡ false
  large_so h = grind (arith, nat_tests)

  pub too_large : input_limit < length bytes → Refused InputTooLarge ≡ input_outcome q (pos now) bytes
  too_large h = sym (ap by_length (large_so h))

  by_record : length bytes ≤ input_limit → (refused : Option ℕ) → first_refused bytes ≡ refused
      → input_outcome q (pos now) bytes ≡ in_case refused (table_outcome q (pos now) (table_of bytes)) (λ row. Refused (CsvRefused row))
  by_record h refused e =
      ap by_length (small_so h) ∙ ap (λ (x : Option ℕ). in_case x (table_outcome q (pos now) (table_of bytes)) (λ row. Refused (CsvRefused row))) e

  pub record_refused : length bytes ≤ input_limit → (row : ℕ) → first_refused bytes ≡ Some row → Refused (CsvRefused row) ≡ input_outcome q (pos now) bytes
  record_refused h row e = sym (by_record h (Some row) e)

  pub table_answered : length bytes ≤ input_limit → first_refused bytes ≡ None → (records : List (List (List ℕ))) → records ≡ take 50002 (table_of bytes)
      → table_outcome q (pos now) records ≡ input_outcome q (pos now) bytes
  table_answered h e records is = ap (table_outcome q (pos now)) is ∙ cut_table q (pos now) (table_of bytes) ∙ sym (by_record h None e)
