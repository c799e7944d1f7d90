-- A worked organisation: two records of one object, whose field's type is being changed from numbers to texts.
use Rattle.std.specs.Prelude.{true, false, [], ◌∷◌, codes, Some, None, pos}
use Rattle.model.specs.declared.record.Record.{Record}
use Rattle.model.specs.Tenant.{Field, Object, Tenant}
use Rattle.store_abstraction.specs.Plan.{OrgPlan}
use Rattle.base_value.specs.declared.job.Outcome.{Outcome}
use Rattle.base_value.specs.declared.job.Phase.{Phase}
use Rattle.base_value.specs.declared.sharing.Access.TheVariants as access
use Rattle.base_value.specs.declared.value.FieldType.TheVariants as type
use Rattle.base_value.specs.declared.value.Value.TheVariants as value

abbrev pub size_field : Field
size_field =
    record { name = codes "Size__c"; kind = type.Number 4 0; required = false; unique = false; indexed = true; child = None }

abbrev pub deal : Object
deal = record { name = codes "Deal__c"; access = access.ReadWrite; hierarchy = true; fields = size_field ∷ []; validation_rules = [] }

-- a record named `A` whose size is 7, and one without a name whose size is 9
abbrev pub first : Record
first =
    record {
      id = codes "a00000000000001";
      owner = None;
      created = pos 5;
      modified = pos 6;
      values = value.Text (codes "A") ∷ value.Num (pos 700000000) ∷ [];
    }

abbrev pub second : Record
second =
    record {
      id = codes "a00000000000002";
      owner = None;
      created = pos 7;
      modified = pos 8;
      values = value.Null ∷ value.Num (pos 900000000) ∷ [];
    }

-- the change has been at the first record
abbrev pub acme : Phase → Outcome → Tenant
acme phase outcome =
    record {
      name = codes "Acme";
      counter = 3;
      rule_numbers = 0;
      objects = deal ∷ [];
      users = [];
      roles = [];
      groups = [];
      sharing_rules = [];
      records = first ∷ second ∷ [];
      shares = [];
      job = Some (record { object = 0; field = 0; to = type.Text 10; phase = phase; outcome = outcome; cursor = Some first.id; failed = None });
    }

-- the field is in slot 3, and the change in slot 5; what is left are days
abbrev pub acme_plan : OrgPlan
acme_plan = record { slot = λ object field. 3; other = 5; was = type.Day; left = λ id. Some (value.Day (pos 1)) }
