use Rattle.access_rules.proofs.SharingFits as fits
use Rattle.access_rules.proofs.SharingRows as rows
use Rattle.access_rules.proofs.laws.sharing_laws.Goals as goal

pub returns : goal.returns
returns c = record {
  rule = λ p t r k o e. rows.rule_rest p t r k o e;
  no_rule = λ p t name k o e. rows.no_rule_rest p t name k o e;
  rule_row = λ p t org r none. rows.rule_row p t org r none;
  no_rule_row = λ p t org name u. rows.no_rule_row p t org name u;
  found = λ t name u. rows.found name u t.sharing_rules;
  more = λ t r. rows.length_put r t.sharing_rules;
  less = λ t name r s u e. rows.one_less name u t.sharing_rules r s.rules.rise e;
  has = λ t r. rows.has_put r t.sharing_rules;
  fits = λ org t r lo s h. fits.sharing_fits c.id_laws.ensures.made org t lo s r h;
}
