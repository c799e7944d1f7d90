use Rattle.record_input.proofs.Differing.{finds_named}
use Rattle.record_input.proofs.Known.{none_found, none_in_json}
use Rattle.record_input.proofs.Spelled.{declared_alike, empty_alike, fields_alike, kinds_alike, record_alike, required_alike, unique_alike, values_alike}
use Rattle.record_input.proofs.laws.given_laws.Goals as goal

pub returns-clause-bad_fields : goal.returns-clause-bad_fields
returns-clause-bad_fields c org p t o key given = fields_alike org p t o key given

pub returns-clause-unique_named : goal.returns-clause-unique_named
returns-clause-unique_named c org p t o name = unique_alike org p t o name

pub returns-clause-declared_name : goal.returns-clause-declared_name
returns-clause-declared_name c org p t o name = declared_alike org p t o name

pub returns-clause-bad_value : goal.returns-clause-bad_value
returns-clause-bad_value c org p t o given = values_alike org p t o given

pub returns-clause-with_given : goal.returns-clause-with_given
returns-clause-with_given c org p a o given old = record_alike org p a o given old

pub returns-clause-required_missing : goal.returns-clause-required_missing
returns-clause-required_missing c org p t o new = required_alike org p t o new

pub returns-clause-empty_record : goal.returns-clause-empty_record
returns-clause-empty_record c org p a o = empty_alike org p a o

pub returns-clause-kinds : goal.returns-clause-kinds
returns-clause-kinds c org p t o = kinds_alike org p t o

pub returns-clause-finds : goal.returns-clause-finds
returns-clause-finds c t o key found body none = none_found t o key found body none

pub returns-clause-json : goal.returns-clause-json
returns-clause-json c body json = none_in_json body json

pub returns-clause-named : goal.returns-clause-named
returns-clause-named c t o found body sound there named = finds_named t o found body sound there named
