use Rattle.std.proofs.Common.{◌≡◌, [], ◌∙◌, ◌∷◌, ℕ, true, List, None, Option, ap, refl, arith, subst}
use Rattle.sha2.specs.Sha256.{sha256}
use Rattle.store_edit.proofs.Judged.{made_so}
use Rattle.store_edit.specs.Rows.{change_to}
use Rattle.store_kv.specs.Draft.{tables_of}
use Rattle.store_rows.specs.declared.user.UserRow.{UserRow}
use Rattle.store_rows.specs.Rows.{org_form, user_form}
use Rattle.model.specs.Organisations.{is_secret}
use Rattle.model.specs.Paths.{Asked}
use Rattle.model.specs.People.{add_user, new_user, new_user_rules, with_user}
use Rattle.model.specs.Rules.{first_refusal}
use Rattle.model.specs.Verdict.{accept, made_new}
use Rattle.std.specs.Prelude.{IsTrue}
use Rattle.store_abstraction.specs.Metadata.{org_of}
use Rattle.people_edit.specs.declared.edits.kind.Kind.TheVariants as kind
use Rattle.people_edit.specs.inner.Drawing.{IsDrawn, new_rules}
use Rattle.store_edit.specs.Judging.{FailsRule}
use Rattle.people_edit.proofs.Deciding.{decides_not}
use Rattle.people_edit.proofs.Joining.{SamePlan, new_own}
use Rattle.people_edit.proofs.NewOnes.{UserLaws, secret_bytes, user_row_fits, user_takes}
use Rattle.people_edit.proofs.edits.users.AddUserEdit.judge.Goals as goal

pub returns-in_err-drawn-clause-what : goal.returns-in_err-drawn-clause-what
returns-in_err-drawn-clause-what g c told =
    let b = c.args.self.now.new.now in
    decides_not {answered = λ (id : List ℕ). made_new id} c.args.org (λ (a : Asked). first_refusal (new_user_rules a.tenant b)) (λ (a : Asked). accept (made_new (new_user a.tenant b).id) (with_user (new_user a.tenant b) a.tenant))
    (λ a. IsTrue (is_secret b.secret)) (tables_of g.K.Keeper.state c.args.draft.now) c.in_err-drawn.field-0.0 c.from_residual.result c.from_residual.ensures.1
    (λ q a s. subst (λ (role : Option (List ℕ)). FailsRule (first_refusal (new_rules kind.User (org_of c.args.org a.tenant) a.tenant b.name role)) c.in_err-drawn.field-0.0) c.as_ref.ensures.value (c.in_err-drawn.ensures.draws told q a.tenant s))

pub two_rows-requires-clause-row : goal.two_rows-requires-clause-row
two_rows-requires-clause-row g c =
    user_row_fits c.name_laws.ensures.text c.name_laws.ensures.short c.args.org c.args.self.now.new.now.name c.in_ok-copy.field-0 c.digest_of.result c.args.self.now.new.now.admin c.in_ok-drawn.drawn (omega arith) c.in_ok-drawn.ensures.fits c.in_ok-copy.ensures c.digest_of.ensures.size

pub returns-clause-what : goal.returns-clause-what
returns-clause-what g c told =
    let state = g.K.Keeper.state in
    let b = c.args.self.now.new.now in
    let org = c.args.org in
    let drawn = c.in_ok-drawn.drawn in
    let row : UserRow = record { org = org; id = drawn.id; name = c.in_ok-copy.field-0; digest = c.digest_of.result; role = drawn.role; admin = b.admin; active = true } in
    let laws : UserLaws = record {
      org = record { fits = c.roster_laws.ensures.org_fits; counted = c.roster_laws.ensures.counted; plan = c.roster_laws.ensures.plan };
      rows = c.roster_laws.ensures.user;
      own = c.roster_laws.ensures.user_row;
      none = c.roster_laws.ensures.no_user;
      fits = c.roster_laws.ensures.user_fits;
      sound = c.people_sound.ensures.add_user;
    } in
    made_so {answered = λ (id : List ℕ). made_new id} org (λ (a : Asked). add_user a.tenant b) SamePlan (λ a. IsTrue (is_secret b.secret)) (tables_of state c.args.draft.now) drawn.id (change_to org_form drawn.org ∷ change_to user_form row ∷ [])
    c.two_rows.result c.two_rows.ensures.answers c.two_rows.ensures.made c.two_rows.ensures.cause
    (new_own user_form org b.name drawn row c.in_ok-drawn.ensures.fits (c.in_ok-drawn.ensures.own told)
    (user_row_fits c.name_laws.ensures.text c.name_laws.ensures.short org b.name c.in_ok-copy.field-0 c.digest_of.result b.admin drawn (omega arith) c.in_ok-drawn.ensures.fits c.in_ok-copy.ensures c.digest_of.ensures.size) refl)
    (λ q a s f.
    let draws = subst (λ (role : Option (List ℕ)). (first_refusal (new_rules kind.User (org_of org a.tenant) a.tenant b.name role) ≡ None) × IsDrawn kind.User org a.tenant role drawn) c.as_ref.ensures.value (c.in_ok-drawn.ensures.draws told q a.tenant s) in
    let hashed = c.digest_of.ensures.value ∙ ap sha256 (c.as_str.ensures.bytes ∙ secret_bytes b.secret f) in
    user_takes laws org q a.tenant b drawn c.in_ok-copy.field-0 c.digest_of.result (omega arith) s.plan s.sound draws.0 draws.1 c.in_ok-copy.ensures hashed)
