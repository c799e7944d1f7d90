-- What a record keeps when its values change, by the layout of its object.
use Rattle.std.specs.Prelude.{suc, not, ◌&&◌, List, [], ◌∷◌, None, is_none, slice_get}
use Rattle.std.specs.List.{enumerate_from, find}
use Rattle.formula.specs.Meaning.{value_at}
use Rattle.model.specs.Cases.{in_case}
use Rattle.model.specs.Fields.{is_master}
use Rattle.model.specs.Rules.{Rule, refuse_if}
use Rattle.model.specs.Tenant.{Tenant}
use Rattle.model.specs.Updates.{is_copied, master_changed, retype_conflict}
use Rattle.model.specs.declared.record.Record.{Record}
use Rattle.model.specs.declared.refusal.Refusal.TheVariants as refusal
use Rattle.schema_rules.specs.Objects.{numbered_in}
use Rattle.store_abstraction.specs.declared.layout.Layout.{Layout}
use Rattle.base_value.specs.Conversion.{convert}
use Rattle.base_value.specs.Values.{same_value}

-- another master
abbrev pub master_moved : Layout → (old new : Record) → Rule
master_moved l old new =
    in_case (find (λ f. is_master f.1.kind) (enumerate_from 1 l.fields)) None (λ f.
    refuse_if (not (same_value (value_at old.values f.0) (value_at new.values f.0))) (refusal.InvalidField f.1.name))

-- a value that doesn't convert, though a change of its field's type has come to the record
abbrev pub conflict_in : Layout → (new : Record) → Rule
conflict_in l new =
    in_case l.job None (λ j. in_case (slice_get l.fields j.field) None (λ f.
    refuse_if (is_copied j.phase j.cursor new.id && is_none (convert j.kind (value_at new.values (suc j.field))))
    (refusal.RetypeConflict f.name)))

-- the rules on both, as the definition of an update has them
abbrev pub staying_rules : Layout → (old new : Record) → Tenant → List Rule
staying_rules l old new t = master_changed t (numbered_in l) old new ∷ retype_conflict t (numbered_in l) new ∷ []
