-- What the removal of a validation rule changes: the row of its object, and its own. No public contract reaches these words.
-- Source: C. D. Weissman and S. Bobrowski, "The Design of the Force.com Multitenant Internet Application Development
-- Platform" (SIGMOD 2009): rules are rows of tables too.
use Rattle.std.specs.Prelude.{ℕ, ◌-◌, List, [], ◌∷◌, None}
use Rattle.std.specs.Str.{IsUtf8}
use Rattle.store_edit.specs.Rows.{change_to}
use Rattle.store_rows.specs.declared.object.ObjectRow.{ObjectRow}
use Rattle.store_rows.specs.Forms.{FitsForm}
use Rattle.store_rows.specs.Rows.{object_form, validation_form}
use Rattle.store_codec.specs.Shapes.{FitsIn}
use Rattle.store_abstraction.specs.Changes.{Change}
use Rattle.store_abstraction.specs.Metadata.{lower_bytes}
use Rattle.schema_edit.specs.declared.edits.removing.RuleRemoval.{RuleRemoval}

-- by the row of the object: with one rule less, and the key of the rule with this name
abbrev pub removal_by : ObjectRow → (name : List ℕ) → RuleRemoval
removal_by object name =
    record {
      object = record object { validation_rules = object.validation_rules - 1 };
      key = (object.org, (tt, (object.object, lower_bytes name)));
    }

-- the row and the key have spellings, and the name in the key is a text
pub record FitsRemoval (r : RuleRemoval) : Type 0 where
  pub object : FitsForm object_form r.object
  pub key : FitsIn validation_form.key r.key
  pub utf8 : IsUtf8 r.key.1.1.1

-- the object's row with one rule less is put, and that of the rule goes
abbrev pub changes_of : RuleRemoval → List Change
changes_of r = change_to object_form r.object ∷ (validation_form.named r.key, None) ∷ []
