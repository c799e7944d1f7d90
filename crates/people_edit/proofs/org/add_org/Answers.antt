use Rattle.std.proofs.Common.{◌≡◌, ◌∙◌, ◌+◌, ◌<◌, List, ℕ, length, refl, sym, ap, arith}
use Rattle.std.specs.Str.{chars}
use Rattle.sha2.specs.Sha256.{sha256}
use Rattle.store_kv.specs.Draft.{tables_of}
use Rattle.model.specs.declared.limit.Limit.TheVariants as limit
use Rattle.model.specs.Limits.{limit_number}
use Rattle.model.specs.World.{user_prefix}
use Rattle.people_edit.specs.People.{with_rows}
use Rattle.people_edit.proofs.Adding.{added}
use Rattle.people_edit.proofs.NewOrg.{org_stands}
use Rattle.people_edit.proofs.org.add_org.Goals as goal

pub returns-in-Ok-clause-adds : goal.returns-in-Ok-clause-adds
returns-in-Ok-clause-adds g c told w s counted =
    let before = tables_of g.K.Keeper.state c.args.draft.now in
    let after = tables_of g.K.Keeper.state c.put_rows.new.draft in
    let name = chars c.args.name.now in
    let digest = sha256 c.args.secret.now in
    let count = c.args.organisations in
    let rows : after ≡ with_rows (count + 1) name digest before = c.in-Ok.ensures.ok ∙ ap (λ (x : List ℕ). with_rows (count + 1) name x before) c.digest_of.ensures.value in
    let few : length w < limit_number limit.Organisations = omega (arith, counted, c.if-from-number.false, c.from.ensures, c.number.ensures) in
    let stands =
    org_stands c.organisation_laws.ensures.fresh c.table_laws.ensures.put c.table_laws.ensures.same c.stands_laws.ensures.past c.stands_laws.ensures.appended (c.id_laws.ensures.made user_prefix 0 refl refl) before w name digest
    s few c.requires.name (ap length (sym c.digest_of.ensures.value) ∙ c.digest_of.ensures.size) in
    added before after w name digest count (sym counted) few stands rows
