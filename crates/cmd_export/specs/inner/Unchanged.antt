-- Reads, as what is asked.
use Rattle.std.specs.Prelude.{List, ℕ, Result, Ok, Err}
use Rattle.store_rows.specs.declared.fail.StoreFail.{StoreFail}
use Rattle.model.specs.declared.refusal.Refusal.{Refusal}
use Rattle.model.specs.declared.refusal.Refusal.TheVariants.{MalformedQuery}
use Rattle.query_run.specs.Forms.{IsAnswer}
use Rattle.soql.specs.declared.query.Query.{Query}
use Rattle.store_abstraction.specs.declared.judged.Judged.{Judged}
use Rattle.store_abstraction.specs.declared.judged.Judged.TheVariants.{Same}

-- lines, or a refusal
abbrev pub Answer : Type 0
Answer = Result (List ℕ) Refusal

-- it is this; or the work on the tables stopped
abbrev pub IsExport : Answer → Result Answer StoreFail → Type 0
IsExport x result = IsAnswer x result

-- nothing is to be changed
abbrev pub unchanged : Result Answer StoreFail → Result (Judged Answer) StoreFail
unchanged (Ok x) = Ok (Same x)
unchanged (Err e) = Err e

-- a query, or the refusal of a text that spells none
abbrev pub query_read : Result Query ℕ → Result Query Refusal
query_read (Ok q) = Ok q
query_read (Err place) = Err (MalformedQuery place)
