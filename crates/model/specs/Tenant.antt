-- A tenant: one organisation's users, metadata and records. Names and texts are lists of characters, ids their fifteen
-- characters. It knows nothing of tables, slots or indexes.
-- Sources: C. D. Weissman and S. Bobrowski, "The Design of the Force.com Multitenant Internet Application Development
-- Platform" (SIGMOD 2009), of objects and fields; Salesforce, "Record-Level Security", of roles, groups, rules and shares.
use Rattle.std.specs.Prelude.{ℕ, Bool, List, Option}
use Rattle.base_value.specs.declared.job.Outcome.{Outcome}
use Rattle.base_value.specs.declared.job.Phase.{Phase}
use Rattle.base_value.specs.declared.job.RuleState.{RuleState}
use Rattle.base_value.specs.declared.sharing.Access.{Access}
use Rattle.base_value.specs.declared.sharing.Level.{Level}
use Rattle.base_value.specs.declared.sharing.Principal.{Principal}
use Rattle.base_value.specs.declared.value.FieldType.{FieldType}
use Rattle.model.specs.declared.record.Record.{Record}

-- ---- people

pub record User : Type 0 where
  pub id : List ℕ
  pub name : List ℕ
  -- the SHA-256 digest of the secret
  pub digest : List ℕ
  pub role : Option (List ℕ)
  pub admin : Bool
  -- who isn't active is no caller, and else a user like others
  pub active : Bool

pub record Role : Type 0 where
  pub id : List ℕ
  pub name : List ℕ
  pub parent : Option (List ℕ)

pub record Group : Type 0 where
  pub id : List ℕ
  pub name : List ℕ
  pub members : List Principal

-- ---- objects

pub record Field : Type 0 where
  pub name : List ℕ
  pub kind : FieldType
  pub required : Bool
  pub unique : Bool
  pub indexed : Bool
  -- what a reference is called on the object that it names
  pub child : Option (List ℕ)

pub record ValidationRule : Type 0 where
  pub name : List ℕ
  pub formula : List ℕ
  pub message : List ℕ

pub record Object : Type 0 where
  pub name : List ℕ
  pub access : Access
  -- who is above others in the role hierarchy gets what they have
  pub hierarchy : Bool
  pub fields : List Field
  pub validation_rules : List ValidationRule

-- ---- sharing

-- the records that a sharing rule covers: those of the principal's members, or those on which a formula holds
pub data Source : Type 0 where
  owned : Principal → Source
  meets : List ℕ → Source

pub record SharingRule : Type 0 where
  pub name : List ℕ
  pub number : ℕ
  -- the object's number
  pub object : ℕ
  pub source : Source
  pub to : Principal
  pub level : Level
  pub state : RuleState
  pub cursor : Option (List ℕ)

-- a manual share
pub record Share : Type 0 where
  pub item : List ℕ
  pub to : Principal
  pub level : Level

-- ---- the change of a field's type

pub record Job : Type 0 where
  -- the object's number, and the field's place among its custom fields, from 0: the place p of a custom field is at
  -- position p + 1 of a record's values
  pub object : ℕ
  pub field : ℕ
  pub to : FieldType
  pub phase : Phase
  pub outcome : Outcome
  pub cursor : Option (List ℕ)
  -- the record that didn't convert
  pub failed : Option (List ℕ)

-- ---- the whole
-- users, roles, groups and records stand in the order of their ids, rules in that of their lower-case names, and shares in
-- that of record and principal; an object's number is its place, from 0
pub record Tenant : Type 0 where
  pub name : List ℕ
  -- the number that the next user, role, group or record takes
  pub counter : ℕ
  -- how many numbers of sharing rules were drawn
  pub rule_numbers : ℕ
  pub objects : List Object
  pub users : List User
  pub roles : List Role
  pub groups : List Group
  pub sharing_rules : List SharingRule
  pub records : List Record
  pub shares : List Share
  pub job : Option Job
