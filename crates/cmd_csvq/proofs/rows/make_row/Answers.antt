use Rattle.std.proofs.Common.{◌≡◌, ◌∙◌, List, IsTrue, subst, sym}
use Rattle.std.specs.List.{list_all}
use Rattle.csv.specs.Records.{fields_of}
use Rattle.record_input.specs.Given.{IsInJson}
use Rattle.model.specs.Creates.{create}
use Rattle.model.specs.declared.record_bodies.Assignment.{Assignment}
use Rattle.cmd_sandbox.specs.Making.{StepsLaidOut}
use Rattle.model_invariant.specs.Fit.{is_spelled}
use Rattle.cmd_csvq.specs.Organisation.{given_of, object_name}
use Rattle.cmd_csvq.proofs.Cells.{all_json}
use Rattle.cmd_csvq.proofs.rows.make_row.Goals as goal

pub make_record_of-requires-clause-spelled : goal.make_record_of-requires-clause-spelled
make_record_of-requires-clause-spelled c = subst (λ (g : List Assignment). IsTrue (list_all (λ x. is_spelled x.given) g)) (sym c.as_slice.ensures.value) c.in_ok-given.ensures.spelled

pub make_record_of-requires-clause-json : goal.make_record_of-requires-clause-json
make_record_of-requires-clause-json c =
    subst IsInJson (sym (c.as_slice.ensures.value ∙ c.in_ok-given.ensures.same)) (all_json (fields_of c.args.heading.now) (fields_of c.args.row.now))

pub returns : goal.returns
returns c a laid =
    let after = c.make_record_of.new.draft in
    let is : c.as_slice.result.now ≡ given_of (fields_of c.args.heading.now) (fields_of c.args.row.now) = c.as_slice.ensures.value ∙ c.in_ok-given.ensures.same in
    subst (λ (g : List Assignment). StepsLaidOut c.args.now after object_name c.args.layout.now a (create a object_name g) c.make_record_of.result) is
    (c.make_record_of.ensures object_name a laid)
