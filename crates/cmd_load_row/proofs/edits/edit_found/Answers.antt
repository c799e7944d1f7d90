use Rattle.std.proofs.Common.{Bor, List, Option, subst, sym, ℕ}
use Rattle.std.specs.Option.{option_map}
use Rattle.store_kv.specs.Draft.{tables_of}
use Rattle.cmd_load_row.specs.inner.Edits.{EditsRow, KnowsFound, asked_for}
use Rattle.cmd_load_row.proofs.edits.edit_found.Goals as goal

pub returns-in-None-clause-what : goal.returns-in-None-clause-what
returns-in-None-clause-what g c told =
    let state = g.K.Keeper.state in
    let caller = c.args.caller.now in
    let object = c.args.object.now in
    let given = c.args.given.now in
    let asks = KnowsFound (g.R.Rights.whose c.args.rights.now) caller c.args.now object given c.args.found.now in
    subst (λ (k : Option (Bor (List ℕ))). EditsRow caller.org asks (asked_for object (option_map (λ (x : Bor (List ℕ)). x.now) k) c.args.text given) (tables_of state c.args.draft.now) (tables_of state c.create_row.new.draft) c.create_row.result)
    (sym c.in-None.is) (c.create_row.ensures.what told)

pub returns-in-Some-clause-what : goal.returns-in-Some-clause-what
returns-in-Some-clause-what g c told =
    let state = g.K.Keeper.state in
    let caller = c.args.caller.now in
    let object = c.args.object.now in
    let given = c.args.given.now in
    let asks = KnowsFound (g.R.Rights.whose c.args.rights.now) caller c.args.now object given c.args.found.now in
    subst (λ (k : Option (Bor (List ℕ))). EditsRow caller.org asks (asked_for object (option_map (λ (x : Bor (List ℕ)). x.now) k) c.args.text given) (tables_of state c.args.draft.now) (tables_of state c.upsert_row.new.draft) c.upsert_row.result)
    (sym c.in-Some.is) (c.upsert_row.ensures.what told)
