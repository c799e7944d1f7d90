use Rattle.store_abstraction.proofs.Organisations.{org_fits}
use Rattle.people_rows.proofs.People as people
use Rattle.people_rows.proofs.laws.roster_laws.Goals as goal

pub returns : goal.returns
returns c = record {
  user = λ p t u k o e. people.user_rest p t u k o e;
  role = λ p t r k o e. people.role_rest p t r k o e;
  group = λ p t g k o e. people.group_rest p t g k o e;
  user_row = λ p t org u none. people.user_row p t org u none;
  role_row = λ p t org r none. people.role_row p t org r none;
  group_row = λ p t org g none. people.group_row p t org g none;
  user_changed = λ p t i change k same e. people.user_changed p t i change k same e;
  role_changed = λ p t i change k same e. people.role_changed p t i change k same e;
  group_changed = λ p t i change k same e. people.group_changed p t i change k same e;
  user_kept = λ p t org i change u same e. people.user_kept p t org i change u same e;
  role_kept = λ p t org i change r same e. people.role_kept p t org i change r same e;
  group_kept = λ p t org i change g same e. people.group_kept p t org i change g same e;
  counted = λ p t org. people.counted p t org;
  no_user = people.no_user c.id_laws.ensures.different;
  no_role = people.no_role c.id_laws.ensures.different;
  no_group = people.no_group c.id_laws.ensures.different;
  org_fits = λ org t lo s. org_fits c.name_laws.ensures.text c.name_laws.ensures.short org t lo s;
  user_fits = λ org t u lo s h. people.user_fits c.id_laws.ensures.made c.name_laws.ensures.text c.name_laws.ensures.short org t lo s u h;
  role_fits = λ org t r lo s h. people.role_fits c.id_laws.ensures.made c.name_laws.ensures.text c.name_laws.ensures.short org t lo s r h;
  group_fits = λ org t g lo s h. people.group_fits c.id_laws.ensures.made c.name_laws.ensures.text c.name_laws.ensures.short org t lo s g h;
  plan = people.same_plan;
}
