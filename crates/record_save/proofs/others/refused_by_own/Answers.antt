use Rattle.std.proofs.Common.{Bor, Option}
use Rattle.std.specs.Option.{option_map}
use Rattle.store_kv.specs.Draft.{tables_of}
use Rattle.model.specs.declared.record.Record.{Record}
use Rattle.record_save.proofs.OtherRules.{own_failed}
use Rattle.record_save.proofs.others.refused_by_own.Goals as goal

pub returns-in-Err-clause-finds : goal.returns-in-Err-clause-finds
returns-in-Err-clause-finds g c told =
    let old : Option Record = option_map {T = Bor Record} {U = Record} (λ r. r.now) c.args.old in
    own_failed c.args.layout.now (g.R.Rights.whose c.args.rights.now) old c.args.new.now (tables_of g.K.Keeper.state c.args.draft.now) c.in-Err.fail (c.in-Err.ensures.finds told)
