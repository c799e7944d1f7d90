-- Whether a condition whose names are places holds on a record, beside the records of branches.
-- Source: as in Conditions of the model, with names looked up once.
use Rattle.std.specs.Prelude.{List, Bool, true, false, not, ◌&&◌, ◌||◌, if◌then◌else◌, Option, Some, None}
use Rattle.std.specs.Bool.{beq}
use Rattle.std.specs.List.{list_any}
use Rattle.std.specs.declared.cmp.Ordering.{Ordering}
use Rattle.std.specs.Ordering.{is_eq, is_lt, is_le, is_gt, is_ge}
use Rattle.base_value.specs.Values.{cmp}
use Rattle.base_value.specs.declared.value.Value.{Value}
use Rattle.base_value.specs.declared.value.Value.TheVariants as value
use Rattle.soql.specs.declared.query.Op.{Op}
use Rattle.soql.specs.declared.query.Op.TheVariants as op
use Rattle.model.specs.declared.record.Record.{Record}
use Rattle.model.specs.Cases.{in_case}
use Rattle.model.specs.Conditions.{as_day, is_like}
use Rattle.model.specs.Fields as model
use Rattle.model.specs.Fields.{its_id, its_owner, its_created, its_modified, value_site, is_null, value_in}
use Rattle.query_plan.specs.declared.check.Site.{Site}
use Rattle.query_plan.specs.declared.check.Site.TheVariants as site
use Rattle.query_plan.specs.declared.check.Spot.{Spot}
use Rattle.query_plan.specs.paths.Branches.{record_above}
use Rattle.query_plan.specs.declared.check.Operand.{Operand}
use Rattle.query_plan.specs.declared.check.Operand.TheVariants.{Plain, Clock}
use Rattle.query_plan.specs.declared.check.Check.{Check, Test, Like, In, Not', And', Or', Row_of-Check, end_of-Check, more_of-Check}

abbrev pub site_of : Site → model.Site
site_of site.Id = its_id
site_of site.Owner = its_owner
site_of site.Created = its_created
site_of site.Modified = its_modified
site_of (site.Value position) = value_site position

-- the value that a row has at a spot, where these are the records of the branches; null where a branch has none
abbrev pub spot_value : (far : List (Option Record)) → Record → Spot → Value
spot_value far r s = in_case (record_above r far s.branch) value.Null (value_in (site_of s.site))

-- ---- comparisons

-- what is meant, and a value beside it
abbrev pub meant_of : Operand → Value
meant_of (Plain v) = v
meant_of (Clock day) = value.Day day

abbrev pub beside : Operand → Value → Value
beside (Plain w) v = v
beside (Clock day) v = as_day v

-- an operator holds of an order
abbrev pub is_so : Op → Ordering → Bool
is_so op.Equal o = is_eq o
is_so op.NotEqual o = not (is_eq o)
is_so op.Less o = is_lt o
is_so op.LessEqual o = is_le o
is_so op.Greater o = is_gt o
is_so op.GreaterEqual o = is_ge o

-- an operator may hold of null
abbrev pub takes_null : Op → Bool
takes_null op.Equal = true
takes_null op.NotEqual = true
takes_null _ = false

abbrev pub passes_with : Op → Value → Operand → Bool
passes_with o v x =
    if not (takes_null o) && (is_null v || is_null (meant_of x)) then false else is_so o (cmp (beside x v) (meant_of x))

-- ---- conditions

-- a test of a value
abbrev pub tested : Check → Value → Bool
tested (Test spot o with) v = passes_with o v with
tested (Like spot pattern) v = is_like pattern.parts v
tested (In spot negated with) v = not (beq (list_any (passes_with op.Equal v) with) negated)
tested _ v = false

abbrev mutual
  pub check_holds : (far : List (Option Record)) → Record → Check → Bool
  check_holds far r (Test spot o with) = tested (Test spot o with) (spot_value far r spot)
  check_holds far r (Like spot pattern) = tested (Like spot pattern) (spot_value far r spot)
  check_holds far r (In spot negated with) = tested (In spot negated with) (spot_value far r spot)
  check_holds far r (Not' shape part) = not (all_checks far r part)
  check_holds far r (And' shape parts) = all_checks far r parts
  check_holds far r (Or' shape parts) = some_checks far r parts

  pub all_checks : {m : _} → (far : List (Option Record)) → Record → Row_of-Check m → Bool
  all_checks far r end_of-Check = true
  all_checks far r (more_of-Check part rest) = check_holds far r part && all_checks far r rest

  pub some_checks : {m : _} → (far : List (Option Record)) → Record → Row_of-Check m → Bool
  some_checks far r end_of-Check = false
  some_checks far r (more_of-Check part rest) = check_holds far r part || some_checks far r rest

-- the condition holds, if there is one
abbrev pub takes : Option Check → (far : List (Option Record)) → Record → Bool
takes None far r = true
takes (Some check) far r = check_holds far r check
