use Rattle.model_invariant.proofs.Digests.{digest_size}
use Rattle.model_invariant.proofs.OtherFormulas.{add_group_formulas, add_role_formulas, add_user_formulas, set_group_formulas, set_organisation_formulas, set_role_formulas, set_user_formulas}
use Rattle.model_invariant.proofs.PeopleSound.{add_group_sound, add_role_sound, add_user_sound, set_group_sound, set_organisation_sound, set_role_sound, set_user_sound}
use Rattle.model_invariant.proofs.SoundParts.{parts, whole}
use Rattle.model_invariant.proofs.people.people_sound.Goals as goal

pub returns-clause-add_user : goal.returns-clause-add_user
returns-clause-add_user c = λ t b s. whole (add_user_sound (record { ordered = c.id_laws.ensures.ordered; number = c.id_laws.ensures.number }) digest_size t b (parts s)) (add_user_formulas t s.formulas b)

pub returns-clause-set_user : goal.returns-clause-set_user
returns-clause-set_user c = λ t user b s. whole (set_user_sound digest_size t user b (parts s)) (set_user_formulas t s.formulas user b)

pub returns-clause-add_role : goal.returns-clause-add_role
returns-clause-add_role c = λ t name parent s. whole (add_role_sound (record { ordered = c.id_laws.ensures.ordered; number = c.id_laws.ensures.number }) t name parent (parts s)) (add_role_formulas t s.formulas name parent)

pub returns-clause-set_role : goal.returns-clause-set_role
returns-clause-set_role c = λ t role b s. whole (set_role_sound c.access_laws.ensures.below t role b (parts s)) (set_role_formulas t s.formulas role b)

pub returns-clause-add_group : goal.returns-clause-add_group
returns-clause-add_group c = λ t name s. whole (add_group_sound (record { ordered = c.id_laws.ensures.ordered; number = c.id_laws.ensures.number }) t name (parts s)) (add_group_formulas t s.formulas name)

pub returns-clause-set_group : goal.returns-clause-set_group
returns-clause-set_group c = λ t group b s. whole (set_group_sound t group b (parts s)) (set_group_formulas t s.formulas group b)

pub returns-clause-set_organisation : goal.returns-clause-set_organisation
returns-clause-set_organisation c = λ t name s. whole (set_organisation_sound t name (parts s)) (set_organisation_formulas t s.formulas name)
