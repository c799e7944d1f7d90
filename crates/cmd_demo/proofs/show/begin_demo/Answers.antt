use Rattle.std.proofs.Common.{◌∙◌, ℕ, List, Ok, ap, pos}
use Rattle.model.specs.Retyping.{begin_retype}
use Rattle.cmd_demo.specs.Demos.{amount_field, amount_line, answer_to_text, comes_to, first_query, item_object, whole_number, with_all}
use Rattle.cmd_demo.proofs.Coming.{come_ok, come_then, handed_on}
use Rattle.cmd_demo.proofs.Counting.{HasSeen}
use Rattle.cmd_demo.proofs.Watching.{IsIt, Owns, begun_behind, begun_of}
use Rattle.cmd_demo.proofs.show.begin_demo.Goals as goal

pub returns-in_err-lines : goal.returns-in_err-lines
returns-in_err-lines c stands sure =
    let now = c.args.now in
    let all = c.make_all.new.draft in
    let after = c.ask.new.draft in
    let due = with_all c.args.count (pos now) in
    let h = come_ok (Owns now all) due tt (c.in_ok-make_all.ensures stands sure) in
    let out = c.from_residual-in_err-lines.result in
    come_then (Owns now all) (HasSeen now after) due begun_of h.0 out h.1
    (handed_on (IsIt {X = List ℕ}) (HasSeen now after) (answer_to_text first_query h.0) (begun_behind h.0) out c.in_err-lines.field-0.0 c.from_residual-in_err-lines.ensures (c.in_err-lines.ensures.lines h.0 h.2))

pub returns-in_err-begin : goal.returns-in_err-begin
returns-in_err-begin c stands sure =
    let now = c.args.now in
    let all = c.make_all.new.draft in
    let after = c.begin.new.draft in
    let due = with_all c.args.count (pos now) in
    let h = come_ok (Owns now all) due tt (c.in_ok-make_all.ensures stands sure) in
    let l = come_ok (IsIt {X = List ℕ}) (answer_to_text first_query h.0) c.in_ok-lines.lines (c.in_ok-lines.ensures.lines h.0 h.2) in
    let asked = c.in_ok-lines.ensures.kept now h.0 h.2 in
    let out = c.from_residual-in_err-begin.result in
    come_then (Owns now all) (HasSeen now after) due begun_of h.0 out h.1
    (come_then (IsIt {X = List ℕ}) (HasSeen now after) (answer_to_text first_query h.0) (begun_behind h.0) l.0 out l.1
    (handed_on (Owns now after) (HasSeen now after) (comes_to h.0 (begin_retype h.0.tenant item_object amount_field whole_number)) (λ b. Ok (b, amount_line l.0)) out c.in_err-begin.field-0.0
    c.from_residual-in_err-begin.ensures (c.in_err-begin.ensures now h.0 asked)))

pub returns : goal.returns
returns c stands sure =
    let now = c.args.now in
    let all = c.make_all.new.draft in
    let after = c.begin.new.draft in
    let due = with_all c.args.count (pos now) in
    let h = come_ok (Owns now all) due tt (c.in_ok-make_all.ensures stands sure) in
    let l = come_ok (IsIt {X = List ℕ}) (answer_to_text first_query h.0) c.in_ok-lines.lines (c.in_ok-lines.ensures.lines h.0 h.2) in
    let asked = c.in_ok-lines.ensures.kept now h.0 h.2 in
    let verdict = comes_to h.0 (begin_retype h.0.tenant item_object amount_field whole_number) in
    let b = come_ok (Owns now after) verdict tt (c.in_ok-begin.ensures now h.0 asked) in
    let out = Ok c.in_ok-line.line in
    come_then (Owns now all) (HasSeen now after) due begun_of h.0 out h.1
    (come_then (IsIt {X = List ℕ}) (HasSeen now after) (answer_to_text first_query h.0) (begun_behind h.0) l.0 out l.1
    (come_then (Owns now after) (HasSeen now after) verdict (λ b. Ok (b, amount_line l.0)) b.0 out b.1 (b.2, c.in_ok-line.ensures ∙ ap amount_line (c.as_slice.ensures ∙ l.2))))
