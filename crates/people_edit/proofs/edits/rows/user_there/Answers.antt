use Rattle.std.proofs.Common.{◌≡◌, ℕ, List, arith, ap, refl}
use Rattle.std.specs.FinMap as map
use Rattle.std.specs.Option.{option_map}
use Rattle.store_kv.specs.Draft.{tables_of}
use Rattle.store_rows.specs.Forms.{FitsForm}
use Rattle.store_rows.specs.Keys.{User, spell}
use Rattle.store_rows.specs.Rows.{user_form}
use Rattle.model.specs.World.{user_at, users_in}
use Rattle.store_abstraction.specs.Metadata.{user_of}
use Rattle.store_abstraction.proofs.Called.{calls_of}
use Rattle.store_abstraction.proofs.Found.{key_found}
use Rattle.store_abstraction.proofs.Places.{PrefixLaws}
use Rattle.store_abstraction.proofs.Users.{user_finds}
use Rattle.people_edit.proofs.Changing.{found_calls, found_has, found_so, there_passes}
use Rattle.people_edit.proofs.edits.rows.user_there.Goals as goal

pub returns-clause-passes : goal.returns-clause-passes
returns-clause-passes g c told q t s =
    let m = tables_of g.K.Keeper.state c.args.draft.now in
    let org = c.args.org in
    let i = c.args.id.now in
    let laws : PrefixLaws = record { interval = c.key_laws.ensures.interval; unbounded = c.key_laws.ensures.unbounded; bytes = c.table_laws.ensures.bytes } in
    there_passes (user_of org) (user_at t.users i) org (λ q t. option_map (user_of org) (user_at (users_in t) i)) q t m c.row_at.result c.found.result refl s
    (user_finds laws c.key_laws.ensures.exact c.row_laws.ensures.found c.id_laws.ensures.made c.name_laws.ensures.text c.name_laws.ensures.short m org i (omega arith) c.as_bytes.ensures.id c.row_at.result (c.row_at.ensures.row told)) c.found.ensures

pub returns-clause-own : goal.returns-clause-own
returns-clause-own g c told =
    let m = tables_of g.K.Keeper.state c.args.draft.now in
    let org = c.args.org in
    let i = c.args.id.now in
    found_so (λ u. user_form.keyed u ≡ (org, (tt, i))) (λ u. u.org ≡ org) c.found.result (λ u e. ap (λ (k : ℕ × (Unit {0} × List ℕ)). k.0) e)
    (found_has (λ u. user_form.keyed u ≡ (org, (tt, i))) c.row_at.result c.found.result (key_found user_form (org, (tt, i)) (map.get m (spell (User org i))) c.row_at.result (c.row_at.ensures.row told)) c.found.ensures)

pub returns-clause-fits : goal.returns-clause-fits
returns-clause-fits g c = found_has (FitsForm user_form) c.row_at.result c.found.result c.row_at.ensures.fits c.found.ensures

pub returns-clause-calls : goal.returns-clause-calls
returns-clause-calls g c =
    let read = c.row_at.ensures in
    found_calls g.K.Keeper.state c.args.draft.now c.row_at.new.draft c.row_at.result c.found.result (calls_of g.K.Keeper.state 0 c.args.draft.now c.row_at.new.draft c.row_at.result read.reads read.stays read.cause read.quiet) c.found.ensures
