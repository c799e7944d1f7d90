use Rattle.std.proofs.Common.{rules}
use Rattle.std.specs.Str.{chars}
use Rattle.std.specs.String.{string_bytes}
use Rattle.base_json.proofs.Plain.{begins_far, begins_more, begins_same, run_ends, run_goes}
use Rattle.base_json.proofs.printing.push_content.Goals as goal

pub runs-init : goal.runs-init
runs-init c = record { utf8 = search rules; same = search rules; front = begins_same _ }

pub runs-preserved : goal.runs-preserved
runs-preserved c = record {
  utf8 = search rules;
  same =
      run_goes (string_bytes c.runs.out) (string_bytes c.push_str.new.self) (string_bytes c.push_escaped.new.out) _ (chars c.runs.rest.now) _ c.in-Some.c (chars c.in-Some.tail.now) _
      c.in_ok-push_str.ensures.bytes c.plain_front.ensures.value c.in-Some.ensures c.in_ok-push_escaped-in-Some.ensures.ok c.runs.invariant.same;
  front =
      begins_far (string_bytes c.args.out.now) (string_bytes c.push_str.new.self) (string_bytes c.push_escaped.new.out) c.in_ok-push_escaped-in-Some.ensures.front
      (begins_more (string_bytes c.args.out.now) (string_bytes c.runs.out) (string_bytes c.push_str.new.self) _ c.in_ok-push_str.ensures.bytes c.runs.invariant.front);
}

pub returns-in-None-clause-ok : goal.returns-in-None-clause-ok
returns-in-None-clause-ok c =
    run_ends (string_bytes c.runs.out) (string_bytes c.push_str.new.self) _ (chars c.runs.rest.now) _ _ c.in_ok-push_str.ensures.bytes c.plain_front.ensures.value c.in-None.ensures c.runs.invariant.same
