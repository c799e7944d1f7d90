-- A sound change of a field's type: what holds of it at every moment. It is this product's own. That no rule names the field
-- is SoundFormulas'.
use Rattle.std.specs.Prelude.{◌≡◌, ℕ, suc, Bool, true, false, not, ◌&&◌, ◌||◌, List, Option, Some, is_some, slice_get, IsTrue, IfSome}
use Rattle.std.specs.List.{list_all}
use Rattle.std.specs.Option.{option_and_then}
use Rattle.base_value.specs.Conversion.{convert, convertible}
use Rattle.base_value.specs.Types.{is_reference, is_type}
use Rattle.base_value.specs.declared.job.Outcome.{Outcome}
use Rattle.base_value.specs.declared.job.Outcome.TheVariants as outcome
use Rattle.formula.specs.Meaning.{value_at}
use Rattle.model.specs.declared.record.Record.{Record}
use Rattle.model.specs.Retyping.{is_checkbox}
use Rattle.model.specs.RuleFormulas.{is_copy}
use Rattle.model.specs.SoundRecords.{those_of}
use Rattle.model.specs.SoundSharing.{IsCursor}
use Rattle.model.specs.Tenant.{Field, Job, Object}
use Rattle.model.specs.Updates.{is_copied}

-- the job's field
abbrev pub job_field : List Object → Job → Option Field
job_field os j = option_and_then (λ o. slice_get o.fields j.field) (slice_get os j.object)

-- the outcome is open
abbrev pub is_open : Outcome → Bool
is_open outcome.Open = true
is_open _ = false

-- a record didn't convert
abbrev pub is_failed : Outcome → Bool
is_failed outcome.Failed = true
is_failed _ = false

-- the field has the new type
abbrev pub is_switched : Outcome → Bool
is_switched outcome.Switched = true
is_switched _ = false

-- a record that was copied converts
abbrev pub copies : Job → Record → Bool
copies j r = not (is_copied j.phase j.cursor r.id) || is_some (convert j.to (value_at r.values (suc j.field)))

-- the field is neither unique nor a reference, and converts; once it is switched, its type is the new one
pub record IsSoundChange (j : Job) (f : Field) : Type 0 where
  pub unique : f.unique ≡ false
  pub reference : is_reference f.kind ≡ false
  pub to : IsTrue (is_type j.to && not (is_reference j.to))
  pub indexed : IsTrue (not f.indexed || not (is_checkbox j.to))
  pub converts : IsTrue (convertible f.kind j.to)
  pub switched : is_switched j.outcome ≡ true → f.kind ≡ j.to

-- a job
pub record IsSoundJob (counter : ℕ) (os : List Object) (rs : List Record) (j : Job) : Type 0 where
  pub field : Field
  pub there : job_field os j ≡ Some field
  pub change : IsSoundChange j field
  pub cursor : IsCursor counter j.object j.cursor
  pub failed : IsCursor counter j.object j.failed
  -- the outcome is open exactly in Copy, and a failed record is there exactly where it failed
  pub open_in_copy : is_open j.outcome ≡ is_copy j.phase
  pub failed_where : is_some j.failed ≡ is_failed j.outcome
  pub copied : IsTrue (list_all (copies j) (those_of j.object rs))

-- the job, if there is one
abbrev pub HasSoundJob : ℕ → List Object → List Record → Option Job → Type 0
HasSoundJob counter os rs job = IfSome job (IsSoundJob counter os rs)
