-- Answers that change nothing.
use Rattle.std.specs.Prelude.{Result, Ok, Err}
use Rattle.store_rows.specs.declared.fail.StoreFail.{StoreFail}
use Rattle.model.specs.declared.reply.Reply.{Reply}
use Rattle.store_abstraction.specs.declared.judged.Judged.{Judged}
use Rattle.store_abstraction.specs.declared.judged.Judged.TheVariants.{Same}
pub use Rattle.query_json.specs.Answers.{AnswersBy, Refuses}

-- a reply, as one that goes with no change
abbrev pub unchanged : Result Reply StoreFail → Result (Judged Reply) StoreFail
unchanged (Ok r) = Ok (Same r)
unchanged (Err e) = Err e
