use Rattle.std.proofs.Common.{refl, subst, w64}
use Rattle.std.proofs.lemmas.Int.{to_z-of_z}
use Rattle.std.specs.Prelude.{ℤ}
use Rattle.base_lemmas.proofs.Lists.{slice_get_as_read as read_there}
use Rattle.store_kv.specs.Draft.{tables_of}
use Rattle.record_save.proofs.Deciding.{decides, stopped}
use Rattle.record_save.proofs.Keys.{type_at}
use Rattle.record_save.proofs.Plain.{plain_with}
use Rattle.record_save.specs.upsert.inner.Deciding.{DecidesByKey}
use Rattle.record_save.proofs.upsert.upserting.decide_by_key.Goals as goal

pub returns-in_err-kept-clause-what : goal.returns-in_err-kept-clause-what
returns-in_err-kept-clause-what g c told =
    stopped c.args.layout.now (g.R.Rights.whose c.args.rights.now) c.args.user c.args.now c.args.body.now c.args.found.now c.args.key.now (tables_of g.K.Keeper.state c.args.draft.now) c.in_err-kept.field-0.0 c.from_residual.result c.from_residual.ensures.1
    (c.in_err-kept.ensures.finds told)

pub decide_given-requires-clause-plain : goal.decide_given-requires-clause-plain
decide_given-requires-clause-plain g c =
    let l = c.args.layout.now in
    let number = c.args.key.now.number in
    let f = c.index-fields-number.result in
    plain_with c.args.body c.args.found _
    (type_at l number f c.requires.ready.usable.types (read_there l.fields c.as_slice-fields.result.now number f c.as_slice-fields.ensures c.requires.field c.index-fields-number.is))

pub returns-clause-what : goal.returns-clause-what
returns-clause-what g c told =
    let state = g.K.Keeper.state in
    let l = c.args.layout.now in
    let k = c.args.key.now in
    let f = c.index-fields-number.result in
    let a = c.args.draft.now in
    let b = c.found_record.new.draft in
    let at = read_there l.fields c.as_slice-fields.result.now k.number f c.as_slice-fields.ensures c.requires.field c.index-fields-number.is in
    let tells = c.draft_laws.ensures.both 1 172 a b c.decide_given.new.draft c.found_record.ensures.calls.reads c.decide_given.ensures.calls.reads told in
    subst (λ (z : ℤ). DecidesByKey l (g.R.Rights.whose c.args.rights.now) c.args.user z c.args.body.now c.args.found.now k (tables_of state a) c.decide_given.result) (to_z-of_z w64 c.args.now c.ranges.now)
    (decides l (g.R.Rights.whose c.args.rights.now) c.args.user _ c.args.body.now c.args.found.now k (tables_of state a) (tables_of state b) f at tells.2 _ refl refl refl c.in_ok-kept.kept
    (c.in_ok-kept.ensures.finds tells.0) c.decide_given.result (c.decide_given.ensures.what tells.1))
