-- What was read, apart from want of memory.
use Rattle.std.proofs.Common.{◌≡◌, Result, Ok, Err, IfOk, subst}
use Rattle.model.specs.declared.record.Record.{Record}
use Rattle.model.specs.declared.refusal.Refusal.{Refusal}
use Rattle.model.specs.Edits.{bad_value}
use Rattle.model.specs.Tenant.{Tenant}
use Rattle.store_abstraction.specs.declared.layout.Layout.{Layout}
use Rattle.record_input.specs.Given.{FindsAll, GivesValues, IsGiven, all_given}
use Rattle.schema_rules.specs.Objects.{object_of_layout}
use Rattle.record_input.specs.declared.given.GivenValues.{GivenValues}
use Rattle.record_input.specs.declared.key.AllGiven.{AllGiven}
use Rattle.record_input.specs.declared.unread.Unread.{Unread}
use Rattle.record_input.specs.inner.Read.{ValueOrRefusal, as_unread}

pub gives_ended : {E : Type 0} (l : Layout) (given : AllGiven) (old : Record) (read : Result GivenValues Unread) (r : Result (Result GivenValues Refusal) E)
    → IfOk r (λ x. read ≡ as_unread x)
    → ((t : Tenant) → FindsAll t (object_of_layout l) given → ValueOrRefusal (bad_value t (object_of_layout l) (all_given given)) (IsGiven t (object_of_layout l) (all_given given) old) read) → IfOk r (GivesValues l given old)
gives_ended l given old read (Ok (Ok x)) same judged =
    subst (λ (y : Result GivenValues Unread). (t : Tenant) → FindsAll t (object_of_layout l) given → ValueOrRefusal (bad_value t (object_of_layout l) (all_given given)) (IsGiven t (object_of_layout l) (all_given given) old) y) same judged
gives_ended l given old read (Ok (Err refusal)) same judged =
    subst (λ (y : Result GivenValues Unread). (t : Tenant) → FindsAll t (object_of_layout l) given → ValueOrRefusal (bad_value t (object_of_layout l) (all_given given)) (IsGiven t (object_of_layout l) (all_given given) old) y) same judged
gives_ended l given old read (Err e) same judged = tt
