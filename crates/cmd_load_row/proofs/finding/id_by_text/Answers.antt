use Rattle.std.proofs.Common.{List, subst, sym, ℕ}
use Rattle.std.proofs.lemmas.Str.{scalars-chars}
use Rattle.std.specs.Prelude.{Option, Result}
use Rattle.std.specs.Str.{chars}
use Rattle.base_lemmas.proofs.Lists.{slice_get_as_read as read_there}
use Rattle.store_kv.specs.Draft.{tables_of}
use Rattle.store_rows.specs.declared.fail.StoreFail.{StoreFail}
use Rattle.store_abstraction.specs.Calls.{Calls, ended}
use Rattle.cmd_load_row.specs.inner.Finding.{FindsId}
use Rattle.cmd_load_row.proofs.Searched.{has_unique, id_found, none_read, unread_calls}
use Rattle.cmd_load_row.proofs.finding.id_by_text.Goals as goal

pub unique_find-requires-clause-unique : goal.unique_find-requires-clause-unique
unique_find-requires-clause-unique g c =
    let l = c.args.target.now in
    let number = c.args.number in
    let f = c.index-fields-number.result in
    let at = read_there l.fields c.as_slice-fields.result.now number f c.as_slice-fields.ensures c.requires.field c.index-fields-number.is in
    has_unique l number f at c.in-Ok.value c.requires.unique
    (c.value_laws.ensures.read f.kind (chars c.args.text.now) c.in-Ok.value (scalars-chars c.args.text.now c.utf8.text) c.in-Ok.ensures)

pub returns-in-Ok-clause-finds : goal.returns-in-Ok-clause-finds
returns-in-Ok-clause-finds g c told q t s laid =
    let l = c.args.target.now in
    let number = c.args.number in
    let f = c.index-fields-number.result in
    let at = read_there l.fields c.as_slice-fields.result.now number f c.as_slice-fields.ensures c.requires.field c.index-fields-number.is in
    id_found l number f at (chars c.args.text.now) c.in-Ok.value (tables_of g.K.Keeper.state c.args.draft.now) c.unique_find.result c.in-Ok.ensures (c.unique_find.ensures.finds told) q t s laid

pub returns-in-Err-clause-finds : goal.returns-in-Err-clause-finds
returns-in-Err-clause-finds g c told q t s laid =
    let l = c.args.target.now in
    let number = c.args.number in
    let f = c.index-fields-number.result in
    let text = chars c.args.text.now in
    let at = read_there l.fields c.as_slice-fields.result.now number f c.as_slice-fields.ensures c.requires.field c.index-fields-number.is in
    subst (FindsId t l number text) (sym c.unread.ensures) (none_read l number f at t text c.in-Err.fail c.in-Err.ensures)

pub returns-in-Err-clause-calls : goal.returns-in-Err-clause-calls
returns-in-Err-clause-calls g c =
    let state = g.K.Keeper.state in
    let a = c.args.draft.now in
    subst (λ (r : Result (Option (List ℕ)) StoreFail). Calls state 0 (ended r) a a) (sym c.unread.ensures) (unread_calls state c.call_laws.ensures.weaker c.call_laws.ensures.none c.in-Err.fail a)
