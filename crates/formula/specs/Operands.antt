-- What a value that is compared is, where it is kept.
use Rattle.base_value.specs.declared.value.Value.{Value}
use Rattle.base_value.specs.declared.value.Value.TheVariants as value
use Rattle.formula.specs.declared.judging.Operand.{Operand}
use Rattle.formula.specs.declared.judging.Operand.TheVariants.{Null, Text, Num, Day, Moment, Ref, Bool}

abbrev pub seen : Operand → Value
seen Null = value.Null
seen (Text cs) = value.Text cs.now
seen (Num count) = value.Num count
seen (Day day) = value.Day day
seen (Moment second) = value.Moment second
seen (Ref id) = value.Ref id.now
seen (Bool truth) = value.Bool truth
