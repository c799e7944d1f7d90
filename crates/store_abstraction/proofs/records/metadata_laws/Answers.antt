use Rattle.store_abstraction.proofs.MetadataRows.{field_fits, object_fits}
use Rattle.store_abstraction.proofs.Rest as rest
use Rattle.store_abstraction.proofs.RuleRows.{rule_fits, rule_found, rule_put}
use Rattle.store_abstraction.proofs.records.metadata_laws.Goals as goal

pub returns : goal.returns
returns c = record {
  object = λ p t o s k sound few unruled w e f. rest.object_rest p t o s sound few unruled k w e f;
  described = λ p t n change k sound same rules e. rest.described_rest p t n change sound same k rules e;
  accessed = rest.rule_of_access;
  ruled = rest.rule_of_more;
  field = λ p t n o f s k sound here vacant suits e g. rest.field_rest p t n o f s sound here vacant suits k e g;
  object_fits = λ org t n o lo sound here. object_fits org t n o lo sound here;
  rule_found = rule_found;
  rule_put = rule_put;
  rule_fits = λ org t n o r lo sound here has. rule_fits c.name_laws.ensures.text c.name_laws.ensures.short org t n o r lo sound here has;
  field_fits = λ org p t n i o f lo sound fits here there. field_fits org p t n i o f lo sound fits here there;
  counted = rest.counted;
}
