-- How the making of a reply ends, by what is told.
use Rattle.std.specs.Prelude.{◌≡◌, Result, Ok, Err}
use Rattle.base_json.specs.declared.tree.Json.{Json}
use Rattle.model.specs.declared.reply.Reply.{Reply}
use Rattle.store_abstraction.specs.Calls.{ended, fell}
use Rattle.store_abstraction.specs.declared.fail.EditFail.{EditFail}
use Rattle.store_abstraction.specs.declared.fail.EditFail.TheVariants.{Refused, Store}
use Rattle.store_rows.specs.declared.fail.StoreFail.{StoreFail}

-- what stopped the work on the tables stops the reply, and else no keeper has failed
abbrev pub EndsAs : Result Json EditFail → Result Reply StoreFail → Type 0
EndsAs (Ok v) result = ended result ≡ fell → ⊥
EndsAs (Err (Refused r)) result = ended result ≡ fell → ⊥
EndsAs (Err (Store e)) result = result ≡ Err e
