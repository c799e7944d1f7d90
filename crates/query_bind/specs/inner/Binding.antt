-- What literals become by a layout, and what is known of a record where they mean the same.
use Rattle.std.specs.Prelude.{◌≡◌, ℕ, if◌then◌else◌, List, Some, ℤ, pos, negsuc, ◌+ℤ◌}
use Rattle.std.specs.Option.{unwrap_or}
use Rattle.base_value.specs.Id.{id_in}
use Rattle.base_value.specs.Printing.{day_of_moment}
use Rattle.base_value.specs.declared.value.Value.{Value}
use Rattle.base_value.specs.declared.value.Value.TheVariants as value
use Rattle.formula.specs.Meaning.{text_value}
use Rattle.soql.specs.declared.query.Literal.{Literal}
use Rattle.soql.specs.declared.query.Literal.TheVariants as literal
use Rattle.soql.specs.declared.query.Query.{Query}
use Rattle.model.specs.declared.record.Record.{Record}
use Rattle.model.specs.Fields.{as_ref, value_in}
use Rattle.model.specs.Paths.{Asked, field_value}
use Rattle.model.specs.RowsJson.{field_name}
use Rattle.store_abstraction.specs.declared.layout.Layout.{Layout}
use Rattle.query_plan.specs.declared.check.Operand.{Operand}
use Rattle.query_plan.specs.declared.check.Operand.TheVariants.{Plain, Clock}
use Rattle.query_check.specs.declared.columns.Column.{Column}
use Rattle.query_check.specs.declared.columns.Family.{Family}
use Rattle.query_check.specs.declared.columns.Family.TheVariants as family
use Rattle.query_plan.specs.Checks.{site_of}
use Rattle.query_check.specs.Columns.{column_in, name_at}
use Rattle.query_check.specs.Rules.{is_ids}

-- ---- what is compared with

abbrev pub text_operand : Family → List ℕ → Value
text_operand f text = if is_ids f then as_ref (id_in text) else text_value text

abbrev pub operand_of : ℤ → Family → Literal → Operand
operand_of day f literal.Null = Plain value.Null
operand_of day f (literal.Text text) = Plain (text_operand f text)
operand_of day f (literal.Num count) = Plain (value.Num count)
operand_of day f (literal.Bool truth) = Plain (value.Bool truth)
operand_of day f (literal.Day other) = Plain (value.Day other)
operand_of day f (literal.Moment second) = Plain (value.Moment second)
operand_of day f literal.Today = Clock (day +ℤ pos 0)
operand_of day f literal.Yesterday = Clock (day +ℤ negsuc 0)
operand_of day f literal.Tomorrow = Clock (day +ℤ pos 1)

-- ---- rows

abbrev pub skip_of : Query → ℕ
skip_of q = unwrap_or q.offset 0

-- ---- records

-- a value that a field of this family may have: an id or null where it holds ids, and else no id
abbrev pub Fits : Family → Value → Type 0
Fits family.Ids (value.Ref id) = Unit {0}
Fits family.Ids value.Null = Unit {0}
Fits family.Ids _ = ⊥
Fits _ (value.Ref id) = ⊥
Fits _ _ = Unit {0}

-- the field with a name, by the layout, is the one that the record has
pub record IsFound (a : Asked) (l : Layout) (r : Record) (name : List ℕ) (c : Column) : Type 0 where
  pub value : field_value a.tenant r name ≡ value_in (site_of c.site) r
  pub fits : Fits c.family (value_in (site_of c.site) r)
  pub declared : field_name a r name ≡ name_at l c.site

-- what is asked is by this layout and on this day, of this record
pub record Knows (a : Asked) (l : Layout) (day : ℤ) (r : Record) : Type 0 where
  pub today : day ≡ day_of_moment a.now
  pub found : (name : List ℕ) (c : Column) → column_in l name ≡ Some c → IsFound a l r name c
