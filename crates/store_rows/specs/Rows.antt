-- The forms of rows, by tables.
use Rattle.std.specs.Prelude.{refl}
use Rattle.store_codec.specs.Choices.{Accesses, Standings, Levels, Phases, Outcomes, States}
use Rattle.store_codec.specs.Composed.{slot_count}
use Rattle.store_codec.specs.Shapes.{Nothing, Number8, Number16, Number32, Number64, Signed64, Characters, Identity, Truth, Fixed, Named, Ordered, OneOf, Flags, Typed, Sourced, Maybe, Many, Times, Both}
use Rattle.store_rows.specs.Forms.{Form}
use Rattle.store_rows.specs.Keys.{Version, Org, Object, Field, Job, User, Role, Group, Validation, Sharing, Data, Index, Unique, Relation, Owner, Share, Grant, marked, record_key, slot_key}
use Rattle.store_rows.specs.declared.version.VersionRow.{VersionRow}
use Rattle.store_rows.specs.declared.org.OrgRow.{OrgRow}
use Rattle.store_rows.specs.declared.object.ObjectRow.{ObjectRow}
use Rattle.store_rows.specs.declared.field.FieldRow.{FieldRow}
use Rattle.store_rows.specs.declared.job.JobRow.{JobRow}
use Rattle.store_rows.specs.declared.user.UserRow.{UserRow}
use Rattle.store_rows.specs.declared.role.RoleRow.{RoleRow}
use Rattle.store_rows.specs.declared.group.GroupRow.{GroupRow}
use Rattle.store_rows.specs.declared.validation.ValidationRow.{ValidationRow}
use Rattle.store_rows.specs.declared.sharing.SharingRow.{SharingRow}
use Rattle.store_rows.specs.declared.data.DataRow.{DataRow}
use Rattle.store_rows.specs.declared.index.IndexRow.{IndexRow}
use Rattle.store_rows.specs.declared.unique.UniqueRow.{UniqueRow}
use Rattle.store_rows.specs.declared.relation.RelationRow.{RelationRow}
use Rattle.store_rows.specs.declared.owner.OwnerRow.{OwnerRow}
use Rattle.store_rows.specs.declared.share.ShareRow.{ShareRow}
use Rattle.store_rows.specs.declared.grant.GrantRow.{GrantRow}

abbrev pub version_form : Form VersionRow
version_form = record {
  table = 0;
  key = Nothing;
  rest = Both Number32 Number32;
  keyed = λ u. tt;
  rested = λ u. (u.version, u.organisations);
  make = λ k (version, organisations). record { version = version; organisations = organisations };
  named = λ k. Version;
  keyed_made = λ k r. refl;
  rested_made = λ k r. refl;
  made_again = λ u. refl;
  is_key = refl;
  placed = λ k. refl;
  fits = λ k f. f;
}

abbrev pub org_form : Form OrgRow
org_form = record {
  table = 1;
  key = Number32;
  rest = Both Characters (Both Number64 (Both Number16 (Both Number32 (Both Number16 (Both Number16 (Both Number16 (Both Number16 Number32)))))));
  keyed = λ u. u.org;
  rested = λ u. (u.name, (u.counter, (u.objects, (u.records, (u.users, (u.roles, (u.groups, (u.sharing_rules, u.rule_numbers))))))));
  make = λ org (name, (counter, (objects, (records, (users, (roles, (groups, (sharing_rules, rule_numbers)))))))). record { org = org; name = name; counter = counter; objects = objects; records = records; users = users; roles = roles; groups = groups; sharing_rules = sharing_rules; rule_numbers = rule_numbers };
  named = λ org. Org org;
  keyed_made = λ k r. refl;
  rested_made = λ k r. refl;
  made_again = λ u. refl;
  is_key = refl;
  placed = λ k. refl;
  fits = λ k f. f;
}

abbrev pub object_form : Form ObjectRow
object_form = record {
  table = 2;
  key = Both Number32 Number16;
  rest = Both Characters (Both (OneOf Accesses) (Both Number32 (Both Number8 Number8)));
  keyed = λ u. (u.org, u.object);
  rested = λ u. (u.name, (u.access, (u.records, (u.fields, u.validation_rules))));
  make = λ (org, object) (name, (access, (records, (fields, validation_rules)))). record { org = org; object = object; name = name; access = access; records = records; fields = fields; validation_rules = validation_rules };
  named = λ (org, object). Object org object;
  keyed_made = λ k r. refl;
  rested_made = λ k r. refl;
  made_again = λ u. refl;
  is_key = refl;
  placed = λ k. refl;
  fits = λ k f. f;
}

abbrev pub field_form : Form FieldRow
field_form = record {
  table = 3;
  key = Both Number32 (Both Number16 Number8);
  rest = Both Characters (Both Typed (Both Flags (Both Number8 (Maybe Characters))));
  keyed = λ u. (u.org, (u.object, u.field));
  rested = λ u. (u.name, (u.kind, (u.flags, (u.slot, u.child))));
  make = λ (org, (object, field)) (name, (kind, (flags, (slot, child)))). record { org = org; object = object; field = field; name = name; kind = kind; flags = flags; slot = slot; child = child };
  named = λ (org, (object, field)). Field org object field;
  keyed_made = λ k r. refl;
  rested_made = λ k r. refl;
  made_again = λ u. refl;
  is_key = refl;
  placed = λ k. refl;
  fits = λ k f. f;
}

abbrev pub job_form : Form JobRow
job_form = record {
  table = 4;
  key = Number32;
  rest = Both Number16 (Both Number8 (Both Typed (Both Number8 (Both (OneOf Phases) (Both (OneOf Outcomes) (Both (Maybe Identity) (Maybe Identity)))))));
  keyed = λ u. u.org;
  rested = λ u. (u.object, (u.field, (u.kind, (u.twin, (u.phase, (u.outcome, (u.cursor, u.failed)))))));
  make = λ org (object, (field, (kind, (twin, (phase, (outcome, (cursor, failed))))))). record { org = org; object = object; field = field; kind = kind; twin = twin; phase = phase; outcome = outcome; cursor = cursor; failed = failed };
  named = λ org. Job org;
  keyed_made = λ k r. refl;
  rested_made = λ k r. refl;
  made_again = λ u. refl;
  is_key = refl;
  placed = λ k. refl;
  fits = λ k f. f;
}

abbrev pub user_form : Form UserRow
user_form = record {
  table = 5;
  key = marked 0 Identity;
  rest = Both Characters (Both (Fixed 32) (Both (Maybe Identity) (OneOf Standings)));
  keyed = λ u. (u.org, (tt, u.id));
  rested = λ u. (u.name, (u.digest, (u.role, record { admin = u.admin; active = u.active })));
  make = λ (org, (mark, id)) (name, (digest, (role, standing))). record { org = org; id = id; name = name; digest = digest; role = role; admin = standing.admin; active = standing.active };
  named = λ (org, (mark, id)). User org id;
  keyed_made = λ k r. refl;
  rested_made = λ k r. refl;
  made_again = λ u. refl;
  is_key = refl;
  placed = λ k. refl;
  fits = λ k f. f;
}

abbrev pub role_form : Form RoleRow
role_form = record {
  table = 5;
  key = marked 1 Identity;
  rest = Both Characters (Maybe Identity);
  keyed = λ u. (u.org, (tt, u.id));
  rested = λ u. (u.name, u.parent);
  make = λ (org, (mark, id)) (name, parent). record { org = org; id = id; name = name; parent = parent };
  named = λ (org, (mark, id)). Role org id;
  keyed_made = λ k r. refl;
  rested_made = λ k r. refl;
  made_again = λ u. refl;
  is_key = refl;
  placed = λ k. refl;
  fits = λ k f. f;
}

abbrev pub group_form : Form GroupRow
group_form = record {
  table = 5;
  key = marked 2 Identity;
  rest = Both Characters (Many Named);
  keyed = λ u. (u.org, (tt, u.id));
  rested = λ u. (u.name, u.members);
  make = λ (org, (mark, id)) (name, members). record { org = org; id = id; name = name; members = members };
  named = λ (org, (mark, id)). Group org id;
  keyed_made = λ k r. refl;
  rested_made = λ k r. refl;
  made_again = λ u. refl;
  is_key = refl;
  placed = λ k. refl;
  fits = λ k f. f;
}

abbrev pub validation_form : Form ValidationRow
validation_form = record {
  table = 6;
  key = marked 0 (Both Number16 Ordered);
  rest = Both Characters (Both Characters Characters);
  keyed = λ u. (u.org, (tt, (u.object, u.lower_name)));
  rested = λ u. (u.name, (u.formula, u.message));
  make = λ (org, (mark, (object, lower_name))) (name, (formula, message)). record { org = org; object = object; lower_name = lower_name; name = name; formula = formula; message = message };
  named = λ (org, (mark, (object, lower_name))). Validation org object lower_name;
  keyed_made = λ k r. refl;
  rested_made = λ k r. refl;
  made_again = λ u. refl;
  is_key = refl;
  placed = λ k. refl;
  fits = λ k f. f;
}

abbrev pub sharing_form : Form SharingRow
sharing_form = record {
  table = 6;
  key = marked 1 Ordered;
  rest = Both Characters (Both Number16 (Both Number32 (Both Sourced (Both Named (Both (OneOf Levels) (Both (OneOf States) (Maybe Identity)))))));
  keyed = λ u. (u.org, (tt, u.lower_name));
  rested = λ u. (u.name, (u.object, (u.number, (u.source, (u.to, (u.level, (u.state, u.cursor)))))));
  make = λ (org, (mark, lower_name)) (name, (object, (number, (source, (to, (level, (state, cursor))))))). record { org = org; lower_name = lower_name; name = name; object = object; number = number; source = source; to = to; level = level; state = state; cursor = cursor };
  named = λ (org, (mark, lower_name)). Sharing org lower_name;
  keyed_made = λ k r. refl;
  rested_made = λ k r. refl;
  made_again = λ u. refl;
  is_key = refl;
  placed = λ k. refl;
  fits = λ k f. f;
}

abbrev pub data_form : Form DataRow
data_form = record {
  table = 7;
  key = record_key;
  rest = Both (Maybe Characters) (Both (Maybe Identity) (Both Signed64 (Both Signed64 (Times slot_count (Maybe Characters)))));
  keyed = λ u. (u.org, (u.object, u.id));
  rested = λ u. (u.name, (u.owner, (u.created, (u.modified, u.slots))));
  make = λ (org, (object, id)) (name, (owner, (created, (modified, slots)))). record { org = org; object = object; id = id; name = name; owner = owner; created = created; modified = modified; slots = slots };
  named = λ (org, (object, id)). Data org object id;
  keyed_made = λ k r. refl;
  rested_made = λ k r. refl;
  made_again = λ u. refl;
  is_key = refl;
  placed = λ k. refl;
  fits = λ k f. f;
}

abbrev pub index_form : Form IndexRow
index_form = record {
  table = 8;
  key = slot_key (Both Ordered Identity);
  rest = Nothing;
  keyed = λ u. (u.org, (u.object, (u.slot, (u.value, u.id))));
  rested = λ u. tt;
  make = λ (org, (object, (slot, (value, id)))) r. record { org = org; object = object; slot = slot; value = value; id = id };
  named = λ (org, (object, (slot, (value, id)))). Index org object slot value id;
  keyed_made = λ k r. refl;
  rested_made = λ k r. refl;
  made_again = λ u. refl;
  is_key = refl;
  placed = λ k. refl;
  fits = λ k f. f;
}

abbrev pub unique_form : Form UniqueRow
unique_form = record {
  table = 9;
  key = slot_key Ordered;
  rest = Identity;
  keyed = λ u. (u.org, (u.object, (u.slot, u.value)));
  rested = λ u. u.id;
  make = λ (org, (object, (slot, value))) id. record { org = org; object = object; slot = slot; value = value; id = id };
  named = λ (org, (object, (slot, value))). Unique org object slot value;
  keyed_made = λ k r. refl;
  rested_made = λ k r. refl;
  made_again = λ u. refl;
  is_key = refl;
  placed = λ k. refl;
  fits = λ k f. f;
}

abbrev pub relation_form : Form RelationRow
relation_form = record {
  table = 10;
  key = slot_key (Both Identity Identity);
  rest = Nothing;
  keyed = λ u. (u.org, (u.object, (u.slot, (u.target, u.id))));
  rested = λ u. tt;
  make = λ (org, (object, (slot, (target, id)))) r. record { org = org; object = object; slot = slot; target = target; id = id };
  named = λ (org, (object, (slot, (target, id)))). Relation org object slot target id;
  keyed_made = λ k r. refl;
  rested_made = λ k r. refl;
  made_again = λ u. refl;
  is_key = refl;
  placed = λ k. refl;
  fits = λ k f. f;
}

abbrev pub owner_form : Form OwnerRow
owner_form = record {
  table = 11;
  key = Both Number32 (Both Number16 (Both Identity Identity));
  rest = Nothing;
  keyed = λ u. (u.org, (u.object, (u.owner, u.id)));
  rested = λ u. tt;
  make = λ (org, (object, (owner, id))) r. record { org = org; object = object; owner = owner; id = id };
  named = λ (org, (object, (owner, id))). Owner org object owner id;
  keyed_made = λ k r. refl;
  rested_made = λ k r. refl;
  made_again = λ u. refl;
  is_key = refl;
  placed = λ k. refl;
  fits = λ k f. f;
}

abbrev pub share_form : Form ShareRow
share_form = record {
  table = 12;
  key = marked 0 (Both Identity Named);
  rest = OneOf Levels;
  keyed = λ u. (u.org, (tt, (u.id, u.to)));
  rested = λ u. u.level;
  make = λ (org, (mark, (id, to))) level. record { org = org; id = id; to = to; level = level };
  named = λ (org, (mark, (id, to))). Share org id to;
  keyed_made = λ k r. refl;
  rested_made = λ k r. refl;
  made_again = λ u. refl;
  is_key = refl;
  placed = λ k. refl;
  fits = λ k f. f;
}

abbrev pub grant_form : Form GrantRow
grant_form = record {
  table = 12;
  key = marked 1 (Both Named (Both Number16 (Both Identity Number32)));
  rest = OneOf Levels;
  keyed = λ u. (u.org, (tt, (u.to, (u.object, (u.id, u.cause)))));
  rested = λ u. u.level;
  make = λ (org, (mark, (to, (object, (id, cause))))) level. record { org = org; to = to; object = object; id = id; cause = cause; level = level };
  named = λ (org, (mark, (to, (object, (id, cause))))). Grant org to object id cause;
  keyed_made = λ k r. refl;
  rested_made = λ k r. refl;
  made_again = λ u. refl;
  is_key = refl;
  placed = λ k. refl;
  fits = λ k f. f;
}
