use Rattle.std.proofs.Common.{◌∙◌, Ok, Err, refl, sym, arith, subst}
use Rattle.std.specs.Io.KnownBytes.{prepend_known}
use Rattle.std.proofs.lemmas.Result.{err_from_is_err_and}
use Rattle.server_http.specs.declared.message.Next.{Next}
use Rattle.server_http.specs.declared.message.Next.TheVariants.{Message, End, Cut}
use Rattle.std.proofs.KnownBytes.{Keeps-trans}
use Rattle.std.proofs.lemmas.Bool.Decides.{nat_tests}
use Rattle.server_http.specs.declared.message.HttpMessage.{HttpMessage}
use Rattle.server_http.specs.Answer.{Between}
use Rattle.server_http.specs.Answer.{Answered}
use Rattle.server_http.proofs.Items.{refused_between, ended_between, broken_between, cut_between, whole_between, by_come, failed_reads, size_bound, body_cut, rest_cut}
use Rattle.server_http.proofs.Reading.{through_body}
use Rattle.server_http.proofs.next.take.Goals.{then-is_empty, else-is_empty}
use Rattle.server_http.proofs.next.take.Goals as goal

pub returns-in_err-head-clause-answer : goal.returns-in_err-head-clause-answer
returns-in_err-head-clause-answer g c =
    let p = err_from_is_err_and c.from_residual.result c.from_residual.ensures.1 in
    rw (p.1, p.2) (refused_between _ (g.S.Source.left c.next_head.new.source) c.next_head.new.bytes.items _ c.next_head.ensures.kept c.in_err-head.ensures.answer)

pub returns-in_default-clause-answer : goal.returns-in_default-clause-answer
returns-in_default-clause-answer g c =
    let left = g.S.Source.left in
    let a = rw c.in_default.is at c.in_ok-head.ensures.answer in
    let known = c.next_head.new.bytes.ok.0 in
    let P : Next → Type 0 = λ n. Between (prepend_known c.args.bytes.now.items (left c.args.source.now)) (prepend_known c.next_head.new.bytes.items (left c.next_head.new.source)) (λ input rest. Answered input (Ok n) rest) in
    elim c.if-is_empty.branch [
      | then-is_empty w ↦ subst P (sym w.result-is) (ended_between _ _ _ c.next_head.ensures.kept a (let t = sym c.is_empty.ensures ∙ w.if-is_empty.true in grind (arith, nat_tests, t, known)))
      | else-is_empty w ↦ subst P (sym w.result-is) (broken_between _ _ _ c.next_head.ensures.kept a (let t = sym c.is_empty.ensures ∙ w.if-is_empty.false in grind (arith, nat_tests, t, known)))
    ]

pub overflow_add-end : goal.overflow_add-end
overflow_add-end g c =
    let a = rw c.in-Some.is at c.in_ok-head.ensures.answer in
    let b = size_bound a.0 _ a.2.size in
    omega (arith, b, a.4)

pub returns-then-not-branch-clause-answer : goal.returns-then-not-branch-clause-answer
returns-then-not-branch-clause-answer g c =
    let a = rw c.in-Some.is at c.in_ok-head.ensures.answer in
    let f = rw c.if-not-branch.true at c.in_ok-fill.ensures.filled in
    cut_between _ _ c.next_head.new.bytes.items c.fill.new.bytes.items c.in-Some.head (Keeps-trans _ _ _ c.next_head.ensures.kept c.fill.ensures.kept) c.fill.ensures.front a f.0 f.1

pub returns-clause-answer : goal.returns-clause-answer
returns-clause-answer g c =
    let a = rw c.in-Some.is at c.in_ok-head.ensures.answer in
    let f = rw c.if-not-branch.false at c.in_ok-fill.ensures.filled in
    let m : HttpMessage = record { method = c.in-Some.head.method; target = c.in-Some.head.target; bearer = c.in-Some.head.bearer; body = c.in_ok-body.body; close = c.in-Some.head.close } in
    let b = c.in_ok-body.ensures in
    let r = c.in_ok-rest.ensures.items in
    let d = c.deref.ensures.value in
    let e = c.deref-2.ensures.value in
    whole_between _ _ c.next_head.new.bytes.items c.fill.new.bytes.items c.in-Some.head m c.in_ok-rest.rest.items (Keeps-trans _ _ _ c.next_head.ensures.kept c.fill.ensures.kept) c.fill.ensures.front a f refl refl refl refl (b ∙ body_cut _ _ _ _ d) (r ∙ rest_cut _ _ _ e)

pub returns-in_err-head-clause-reads : goal.returns-in_err-head-clause-reads
returns-in_err-head-clause-reads g c =
    let p = err_from_is_err_and c.from_residual.result c.from_residual.ensures.1 in
    let bytes = c.next_head.new.bytes.items in
    rw (p.1, p.2) record {
      come = bytes;
      reads = c.next_head.ensures.reads;
      answer = by_come bytes bytes (λ input rest. Answered input (Err c.in_err-head.field-0.0) rest) (λ old left end kept. refused_between old left bytes c.in_err-head.field-0.0 kept c.in_err-head.ensures.answer);
    }

pub returns-in_default-clause-reads : goal.returns-in_default-clause-reads
returns-in_default-clause-reads g c =
    let bytes = c.next_head.new.bytes.items in
    let a = rw c.in_default.is at c.in_ok-head.ensures.answer in
    let known = c.next_head.new.bytes.ok.0 in
    record {
      come = bytes;
      reads = c.next_head.ensures.reads;
      answer = (let P : Next → Type 0 = λ n. Answered bytes (Ok n) bytes in
          elim c.if-is_empty.branch [
            | then-is_empty w ↦ subst P (sym w.result-is)
                (by_come bytes bytes (λ input rest. Answered input (Ok End) rest) (λ old left end kept. ended_between old left bytes kept (end, a.1, a.2, a.3)
                (let t = sym c.is_empty.ensures ∙ w.if-is_empty.true in grind (arith, nat_tests, t, known))))
            | else-is_empty w ↦ subst P (sym w.result-is)
                (by_come bytes bytes (λ input rest. Answered input (Ok Cut) rest) (λ old left end kept. broken_between old left bytes kept (end, a.1, a.2, a.3)
                (let t = sym c.is_empty.ensures ∙ w.if-is_empty.false in grind (arith, nat_tests, t, known))))
          ]);
    }

pub returns-in_err-fill-clause-reads : goal.returns-in_err-fill-clause-reads
returns-in_err-fill-clause-reads g c =
    let p = err_from_is_err_and c.from_residual-in_err-fill.result c.from_residual-in_err-fill.ensures.1 in
    let a = rw c.in-Some.is at c.in_ok-head.ensures.answer in
    rw (p.1, p.2) record {
      come = c.fill.new.bytes.items;
      reads = through_body _ (g.S.Source.left c.next_head.new.source) _ c.next_head.new.bytes.items _ _ c.next_head.new.source _ c.in-Some.head c.next_head.ensures.reads a c.fill.ensures.reads;
      answer = failed_reads _ _ c.in_err-fill.ensures.kind;
    }

pub returns-then-not-branch-clause-reads : goal.returns-then-not-branch-clause-reads
returns-then-not-branch-clause-reads g c =
    let a = rw c.in-Some.is at c.in_ok-head.ensures.answer in
    let f = rw c.if-not-branch.true at c.in_ok-fill.ensures.filled in
    let bytes = c.fill.new.bytes.items in
    record {
      come = bytes;
      reads = through_body _ (g.S.Source.left c.next_head.new.source) _ c.next_head.new.bytes.items _ _ c.next_head.new.source _ c.in-Some.head c.next_head.ensures.reads a c.fill.ensures.reads;
      answer = by_come bytes bytes (λ input rest. Answered input (Ok Cut) rest) (λ old left end kept.
          cut_between old left c.next_head.new.bytes.items bytes c.in-Some.head kept c.fill.ensures.front a f.0 end);
    }

pub returns-in_err-body-clause-reads : goal.returns-in_err-body-clause-reads
returns-in_err-body-clause-reads g c =
    let p = err_from_is_err_and c.from_residual-in_err-body.result c.from_residual-in_err-body.ensures.1 in
    let a = rw c.in-Some.is at c.in_ok-head.ensures.answer in
    rw (p.1, p.2) record {
      come = c.fill.new.bytes.items;
      reads = through_body _ (g.S.Source.left c.next_head.new.source) _ c.next_head.new.bytes.items _ _ c.next_head.new.source _ c.in-Some.head c.next_head.ensures.reads a c.fill.ensures.reads;
      answer = refl;
    }

pub returns-in_err-rest-clause-reads : goal.returns-in_err-rest-clause-reads
returns-in_err-rest-clause-reads g c =
    let p = err_from_is_err_and c.from_residual-in_err-rest.result c.from_residual-in_err-rest.ensures.1 in
    let a = rw c.in-Some.is at c.in_ok-head.ensures.answer in
    rw (p.1, p.2) record {
      come = c.fill.new.bytes.items;
      reads = through_body _ (g.S.Source.left c.next_head.new.source) _ c.next_head.new.bytes.items _ _ c.next_head.new.source _ c.in-Some.head c.next_head.ensures.reads a c.fill.ensures.reads;
      answer = refl;
    }

pub returns-clause-reads : goal.returns-clause-reads
returns-clause-reads g c =
    let a = rw c.in-Some.is at c.in_ok-head.ensures.answer in
    let f = rw c.if-not-branch.false at c.in_ok-fill.ensures.filled in
    let m : HttpMessage = record { method = c.in-Some.head.method; target = c.in-Some.head.target; bearer = c.in-Some.head.bearer; body = c.in_ok-body.body; close = c.in-Some.head.close } in
    let bytes = c.fill.new.bytes.items in
    let rest = c.in_ok-rest.rest.items in
    let b = c.in_ok-body.ensures in
    let r = c.in_ok-rest.ensures.items in
    let d = c.deref.ensures.value in
    let e = c.deref-2.ensures.value in
    record {
      come = bytes;
      reads = through_body _ (g.S.Source.left c.next_head.new.source) _ c.next_head.new.bytes.items _ _ c.next_head.new.source _ c.in-Some.head c.next_head.ensures.reads a c.fill.ensures.reads;
      answer = by_come bytes rest (λ input after. Answered input (Ok (Message m)) after) (λ old left end kept.
          whole_between old left c.next_head.new.bytes.items bytes c.in-Some.head m rest kept c.fill.ensures.front a f refl refl refl refl (b ∙ body_cut _ _ _ _ d) (r ∙ rest_cut _ _ _ e));
    }
