-- The field of the object itself that a cell names.
use Rattle.std.proofs.Common.{◌≡◌, ◌∙◌, ℕ, Bool, true, false, cond, List, Option, Some, None, refl, sym, ap}
use Rattle.std.specs.Option.{option_and_then, option_map}
use Rattle.std.specs.Str.{chars}
use Rattle.model.specs.Fields.{column_named}
use Rattle.model.specs.Fields as model
use Rattle.model.specs.Tenant.{Object}
use Rattle.record_input.specs.Columns.{Seen, seen, shown}
use Rattle.record_input.specs.declared.columns.Column.{Column}
use Rattle.cmd_load_plan.specs.declared.plan.LoadColumn.{LoadColumn}
use Rattle.cmd_load_plan.specs.Columns.{if_writable, own_column}

abbrev column_to : (field : List ℕ) → LoadColumn
column_to field = record { field = field; find = None }

abbrev if_given : Seen → Option LoadColumn
if_given s = cond s.1 (Some (column_to s.0)) None

module _ (o : Object) (name : List ℕ) where
  own_seen : own_column o name ≡ option_and_then if_given (option_map seen (column_named o name))
  own_seen = by (column_named o name)
    where
      by : (c : Option model.Column) → option_and_then if_writable c ≡ option_and_then if_given (option_map seen c)
      by None = refl
      by (Some c) = refl

  pub own_none : None ≡ option_map seen (column_named o name) → None ≡ own_column o name
  own_none is = sym (own_seen ∙ ap (option_and_then if_given) (sym is))

  module _ (c : Column) (is : Some (shown c) ≡ option_map seen (column_named o name)) where
    own_shown : own_column o name ≡ if_given (shown c)
    own_shown = own_seen ∙ ap (option_and_then if_given) (sym is)

    pub own_refused : c.is_writable ≡ false → None ≡ own_column o name
    own_refused refused = sym (own_shown ∙ ap (λ (b : Bool). cond b (Some (column_to (chars c.name.now))) None) refused)

    pub own_there : (field : List ℕ) → c.is_writable ≡ true → field ≡ chars c.name.now → Some (column_to field) ≡ own_column o name
    own_there field given same =
        ap (λ (f : List ℕ). Some (column_to f)) same
        ∙ sym (own_shown ∙ ap (λ (b : Bool). cond b (Some (column_to (chars c.name.now))) None) given)
