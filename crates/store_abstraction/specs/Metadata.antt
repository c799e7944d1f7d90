-- The rows of an organisation's people and metadata, from the parts of the tenant. Counts are those of its lists.
-- Source: C. D. Weissman and S. Bobrowski, "The Design of the Force.com Multitenant Internet Application Development
-- Platform" (SIGMOD 2009): objects and fields are rows of tables too.
use Rattle.std.specs.Prelude.{ℕ, true, List, length, encode_utf8_all, bytes_eq, Option}
use Rattle.std.specs.List.{find}
use Rattle.store_rows.specs.declared.field.FieldRow.{FieldRow}
use Rattle.store_rows.specs.declared.group.GroupRow.{GroupRow}
use Rattle.store_rows.specs.declared.job.JobRow.{JobRow}
use Rattle.store_rows.specs.declared.object.ObjectRow.{ObjectRow}
use Rattle.store_rows.specs.declared.org.OrgRow.{OrgRow}
use Rattle.store_rows.specs.declared.role.RoleRow.{RoleRow}
use Rattle.store_rows.specs.declared.share.ShareRow.{ShareRow}
use Rattle.store_rows.specs.declared.sharing.SharingRow.{SharingRow}
use Rattle.store_rows.specs.declared.user.UserRow.{UserRow}
use Rattle.store_rows.specs.declared.validation.ValidationRow.{ValidationRow}
use Rattle.model.specs.Objects.{records_of}
use Rattle.model.specs.Tenant as model
use Rattle.model.specs.Tenant.{Field, Group, Job, Object, Role, Share, SharingRule, Source, owned, meets, Tenant, ValidationRule}
use Rattle.store_codec.specs.declared.choices.ObjectAccess.{ObjectAccess}
use Rattle.store_abstraction.specs.Plan.{OrgPlan, type_there}
use Rattle.base_value.specs.Texts.{lower}
use Rattle.base_value.specs.declared.sharing.RuleSource.{RuleSource}
use Rattle.base_value.specs.declared.sharing.RuleSource.TheVariants as source

-- the organisation with this number
abbrev pub org_of : ℕ → Tenant → OrgRow
org_of n t =
    record {
      org = n;
      name = t.name;
      counter = t.counter;
      objects = length t.objects;
      records = length t.records;
      users = length t.users;
      roles = length t.roles;
      groups = length t.groups;
      sharing_rules = length t.sharing_rules;
      rule_numbers = t.rule_numbers;
    }

-- ---- people

abbrev pub user_of : ℕ → model.User → UserRow
user_of org u = record { org = org; id = u.id; name = u.name; digest = u.digest; role = u.role; admin = u.admin; active = u.active }

abbrev pub role_of : ℕ → Role → RoleRow
role_of org r = record { org = org; id = r.id; name = r.name; parent = r.parent }

abbrev pub group_of : ℕ → Group → GroupRow
group_of org g = record { org = org; id = g.id; name = g.name; members = g.members }

-- ---- objects

-- what every user may do, and whether the role hierarchy counts
abbrev pub access_of : Object → ObjectAccess
access_of o = record { access = o.access; hierarchy = o.hierarchy }

-- the object with this number
abbrev pub row_of_object : ℕ → Tenant → ℕ → Object → ObjectRow
row_of_object org t n o =
    record {
      org = org;
      object = n;
      name = o.name;
      access = access_of o;
      records = length (records_of t n);
      fields = length o.fields;
      validation_rules = length o.validation_rules;
    }

-- a field of this object, with its number and its slot
abbrev pub field_of : ℕ → OrgPlan → (object field : ℕ) → Field → FieldRow
field_of org p n place f =
    record {
      org = org;
      object = n;
      field = place;
      name = f.name;
      kind = f.kind;
      flags = record { required = f.required; unique = f.unique; indexed = f.indexed };
      slot = p.slot n place;
      child = f.child;
    }

-- the type is that of what is in the slot
abbrev pub job_of : ℕ → OrgPlan → Job → JobRow
job_of org p j =
    record {
      org = org;
      object = j.object;
      field = j.field;
      kind = type_there p j;
      twin = p.other;
      phase = j.phase;
      outcome = j.outcome;
      cursor = j.cursor;
      failed = j.failed;
    }

-- ---- rules and shares

-- a name in lower case, in UTF-8
abbrev pub lower_bytes : List ℕ → List ℕ
lower_bytes name = encode_utf8_all (lower name)

abbrev pub validation_of : ℕ → ℕ → ValidationRule → ValidationRow
validation_of org n r =
    record { org = org; object = n; lower_name = lower_bytes r.name; name = r.name; formula = r.formula; message = r.message }

abbrev pub source_part : Source → RuleSource
source_part (owned principal) = source.Owner principal
source_part (meets formula) = source.Criteria formula

abbrev pub sharing_of : ℕ → SharingRule → SharingRow
sharing_of org r =
    record {
      org = org;
      lower_name = lower_bytes r.name;
      name = r.name;
      object = r.object;
      number = r.number;
      source = source_part r.source;
      to = r.to;
      level = r.level;
      state = r.state;
      cursor = r.cursor;
    }

abbrev pub row_of_share : ℕ → Share → ShareRow
row_of_share org s = record { org = org; id = s.item; to = s.to; level = s.level }

-- the rule with this name in lower case
abbrev pub named_so : {X : Type 0} → (X → List ℕ) → List X → List ℕ → Option X
named_so name xs key = find (λ x. bytes_eq (lower_bytes (name x)) key) xs
