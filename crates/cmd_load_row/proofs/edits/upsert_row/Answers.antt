use Rattle.std.proofs.Common.{◌≡◌, ◌∙◌, arith, of_z, pos, refl, rules, to_z, w64}
use Rattle.std.proofs.lemmas.Int.{to_z-of_z}
use Rattle.std.specs.Prelude.{FitsSigned}
use Rattle.store_kv.specs.Draft.{tables_of}
use Rattle.model_requests.specs.Requests.{upserts}
use Rattle.model.specs.Verdict.{upserted}
use Rattle.record_save.specs.declared.upsert.upsert.Upserted.{Upserted}
use Rattle.cmd_load_row.specs.inner.Edits.{KnowsFound}
use Rattle.cmd_load_row.proofs.Editing.{FitLaws, drafts_seen, row_edited, seen_itself, upsert_fits}
use Rattle.cmd_load_row.proofs.edits.upsert_row.Goals as goal

pub returns-clause-what : goal.returns-clause-what
returns-clause-what g c told =
    let state = g.K.Keeper.state in
    let whose = g.R.Rights.whose c.args.rights.now in
    let caller = c.args.caller.now in
    let object = c.args.object.now in
    let key = c.args.key.now in
    let text = c.args.text in
    let given = c.args.given.now in
    let found = c.args.found.now in
    let laws : FitLaws = record { read = c.value_laws.ensures.read; ids = c.id_laws.ensures.made; given = c.fit_laws.ensures.given; key = c.fit_laws.ensures.key } in
    let small : FitsSigned w64 c.moment.result = search rules in
    let at : to_z w64 (of_z w64 c.moment.result) ≡ pos c.args.now = to_z-of_z w64 c.moment.result small ∙ c.moment.ensures in
    row_edited (λ (x : Upserted). x) (λ x. upserted x.id x.created) (λ x number. refl) caller.org (KnowsFound whose caller c.args.now object given found) (upserts object key text given) _ _ _ (tables_of state c.args.draft.now) (tables_of state c.make_edit.new.draft) c.make_edit.result c.make_edit.result
    (seen_itself c.make_edit.result) (λ a. refl) (λ a. c.refusal_laws.ensures.refused a (upserts object key text given))
    (λ a sound knows. upsert_fits laws whose caller c.args.now _ object given found at c.requires.moment c.requires.spelled key text c.requires.text a sound knows)
    (c.make_edit.ensures.what told)

pub returns-clause-drafts : goal.returns-clause-drafts
returns-clause-drafts g c =
    let laws = c.call_laws.ensures in
    drafts_seen g.K.Keeper.state (record { weaker = laws.weaker; none = laws.none; makes = laws.makes; most = laws.most }) (λ (x : Upserted). x) _ _ _ c.args.draft.now c.make_edit.new.draft c.make_edit.result c.make_edit.result (seen_itself c.make_edit.result)
    (omega arith) (omega arith) (omega arith) c.make_edit.ensures.makes
