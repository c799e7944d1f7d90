-- An update, judged: by other records and rules, and by what the record was.
use Rattle.std.specs.Prelude.{◌≡◌, ◌≢◌, List, ◌∷◌, ◌++◌, None, Some, Result, Ok, Err}
use Rattle.store_rows.specs.declared.fail.StoreFail.TheVariants.{Damaged}
use Rattle.store_rows.specs.declared.share.ShareRow.{ShareRow}
use Rattle.model.specs.Edits.{bad_target}
use Rattle.model.specs.Paths.{Asked}
use Rattle.model.specs.Rules.{Rule, first_refusal}
use Rattle.model.specs.declared.record.Record.{Record}
use Rattle.schema_rules.specs.Objects.{numbered_in}
use Rattle.store_abstraction.specs.declared.fail.EditFail.{EditFail}
use Rattle.store_abstraction.specs.declared.fail.EditFail.TheVariants.{Refused, Store}
use Rattle.store_abstraction.specs.declared.layout.Layout.{Layout}
use Rattle.record_save.specs.inner.Ended.{EndsShares}
use Rattle.record_save.specs.inner.Judged.{own_rules}
use Rattle.record_save.specs.inner.Staying.{staying_rules}

-- the object's own and that on unique values, behind those on what the record keeps
abbrev pub kept_rules : Layout → (old new : Record) → Asked → List Rule
kept_rules l old new a = staying_rules l old new a.tenant ++ own_rules l (Some old) new a

-- the same behind that on what the record refers to
abbrev pub altered_rules : Layout → (old new : Record) → Asked → List Rule
altered_rules l old new a = bad_target a (numbered_in l) old new ∷ kept_rules l old new a

-- none of them refuses the record, and these shares end; or the refusal of the first that does
abbrev pub AdmitsAltered : Asked → Layout → (old new : Record) → Result (List ShareRow) EditFail → Type 0
AdmitsAltered a l old new (Ok rows) = (None ≡ first_refusal (altered_rules l old new a)) × EndsShares l.org a.tenant old new (Ok rows)
AdmitsAltered a l old new (Err (Refused r)) = Some r ≡ first_refusal (altered_rules l old new a)
AdmitsAltered a l old new (Err (Store e)) = e ≢ Damaged
