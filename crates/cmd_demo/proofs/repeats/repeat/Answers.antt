use Rattle.std.proofs.Common.{◌≡◌, ◌∙◌, Err, List, None, Ok, ap, arith, false, refl, rules, subst, sym, true, ℕ}
use Rattle.cmd_demo.specs.Demos.{is_settled, most_repeats, next_repeat, no_repeats, repeats_from}
use Rattle.cmd_demo.specs.declared.repeats.Repeats.{Repeats}
use Rattle.cmd_demo.specs.inner.Coming.{Comes}
use Rattle.cmd_demo.proofs.Coming.{come_ok}
use Rattle.cmd_demo.proofs.Counting.{HasSeen, repeat_done, repeat_end, repeat_next, repeat_stop}
use Rattle.cmd_demo.proofs.Coming.{stopped_on}
use Rattle.cmd_demo.proofs.repeats.repeat.Goals as goal

pub loop-turn-init : goal.loop-turn-init
unfolding repeats_from
loop-turn-init c = record { count = refl; so_far = λ a made. ((a, no_repeats), refl, (made, ap (λ (l : List ℕ). record { count = 0; switched = None; least = l }) (c.from_vec.ensures ∙ c.new.ensures.items))) }

pub loop-turn-preserved : goal.loop-turn-preserved
loop-turn-preserved c =
    let now = c.args.now in
    let after = c.next_repeat.new.draft in
    record {
      count = c.in_ok-repeats.ensures.count;
      so_far = λ a made.
          let s = c.loop-turn.invariant.so_far a made in
          let owned = c.in_ok-is_settled.ensures.kept now s.0.0 s.2.0 in
          let busy : is_settled s.0.0.tenant ≡ false = sym (c.in_ok-is_settled.ensures.is now s.0.0 s.2.0) ∙ c.if-branch.false in
          let comes = subst (λ (x : Repeats). Comes (HasSeen now after) (next_repeat s.0.0 x) (Ok c.in_ok-repeats.repeats)) s.2.1 (c.in_ok-repeats.ensures.comes s.0.0 owned) in
          let h = come_ok (HasSeen now after) (next_repeat s.0.0 s.0.1) c.in_ok-repeats.repeats comes in
          (h.0, repeat_next now c.loop-turn.turn a s.0 s.1 h.0 busy h.1, h.2);
    }

pub returns-then-branch : goal.returns-then-branch
returns-then-branch c a made =
    let now = c.args.now in
    let s = c.loop-turn.invariant.so_far a made in
    let owned = c.in_ok-is_settled.ensures.kept now s.0.0 s.2.0 in
    let done : is_settled s.0.0.tenant ≡ true = sym (c.in_ok-is_settled.ensures.is now s.0.0 s.2.0) ∙ c.if-branch.true in
    repeat_done now c.loop-turn.turn a s.0 s.1 c.is_settled.new.draft most_repeats (search rules) done owned c.loop-turn.repeats s.2.1

pub returns-in_err-repeats : goal.returns-in_err-repeats
returns-in_err-repeats c a made =
    let now = c.args.now in
    let after = c.next_repeat.new.draft in
    let s = c.loop-turn.invariant.so_far a made in
    let owned = c.in_ok-is_settled.ensures.kept now s.0.0 s.2.0 in
    let busy : is_settled s.0.0.tenant ≡ false = sym (c.in_ok-is_settled.ensures.is now s.0.0 s.2.0) ∙ c.if-branch.false in
    repeat_stop now c.loop-turn.turn a s.0 s.1 after most_repeats (search rules) busy c.from_residual-in_err-repeats.result c.in_err-repeats.field-0.0 c.from_residual-in_err-repeats.ensures
    (subst (λ (x : Repeats). Comes (HasSeen now after) (next_repeat s.0.0 x) (Err c.in_err-repeats.field-0.0)) s.2.1 (c.in_err-repeats.ensures.comes s.0.0 owned))

pub returns : goal.returns
returns c a made =
    let s = c.loop-turn.invariant.so_far a made in
    repeat_end c.args.now c.loop-turn.draft c.loop-turn.turn most_repeats a s.0 s.1 (omega arith) s.2.0 c.loop-turn.repeats s.2.1

pub returns-in_err-is_settled : goal.returns-in_err-is_settled
returns-in_err-is_settled c a made =
    let s = c.loop-turn.invariant.so_far a made in
    stopped_on (HasSeen c.args.now c.is_settled.new.draft) (repeats_from most_repeats a) c.from_residual.result c.in_err-is_settled.field-0.0
    (c.in_err-is_settled.ensures.is c.args.now s.0.0 s.2.0) c.from_residual.ensures
