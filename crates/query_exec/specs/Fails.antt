-- What the failures of the layers below are to the writing of rows, and how a call ended.
use Rattle.std.specs.Prelude.{Result, Ok, Err}
use Rattle.store_rows.specs.Fails as keys
use Rattle.store_rows.specs.declared.fail.StoreFail.{StoreFail}
use Rattle.store_codec.specs.declared.fail.CodecFail.{CodecFail}
use Rattle.store_abstraction.specs.Calls.{Ending, done, ended_by}
use Rattle.query_exec.specs.declared.fail.ExecFail.{ExecFail}
use Rattle.query_exec.specs.declared.fail.ExecFail.TheVariants.{Store, TooLarge}

abbrev pub of_store : StoreFail → ExecFail
of_store fail = Store fail

abbrev pub of_codec : CodecFail → ExecFail
of_codec fail = Store (keys.of_codec fail)

-- rows that are too large are an answer, as a refusal is: every call of the keeper returned `Ok`
abbrev pub ended_exec : {X : Type 0} → Result X ExecFail → Ending
ended_exec (Ok x) = done
ended_exec (Err TooLarge) = done
ended_exec (Err (Store e)) = ended_by e
