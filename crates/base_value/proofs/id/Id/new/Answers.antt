use Rattle.std.proofs.Common.{◌≡◌, ◌∙◌, ◌+◌, length, arith, ap, subst, sym, map, List, ℕ, true}
use Rattle.std.proofs.lemmas.List.{length-append, length-set, take-set-le, take_at}
use Rattle.base_value.specs.Digits.{digits}
use Rattle.base_value.specs.Id.{digit62, is_id, made}
use Rattle.base_value.proofs.Ids.{all_written, made-is_id, made-written, none_behind, written_more}
use Rattle.base_value.proofs.id.Id.new.Goals as goal

pub loop-place-init : goal.loop-place-init
loop-place-init c =
    let copied = c.copy_from_slice.ensures in
    record {
      above = omega arith;
      within = omega arith;
      size = length-append c.copy_from_slice.new.self _ ∙ ap (λ (n : ℕ). n + 12) copied.len;
      prefix = take_at c.copy_from_slice.new.self _ 3 copied.len ∙ copied.after;
      written = none_behind (map digit62 (digits 62 12 c.args.number)) c.copy_from_slice.new.self _ 15 (omega (arith, copied.len));
    }

pub loop-place-preserved : goal.loop-place-preserved
loop-place-preserved c =
    let inv = c.loop-place.invariant in
    record {
      above = omega arith;
      within = omega arith;
      size = length-set c.loop-place.characters _ c.digit.result ∙ inv.size;
      prefix = take-set-le 3 c.loop-place.characters _ c.digit.result (omega arith) ∙ inv.prefix;
      written = rw c.digit.ensures (written_more c.loop-place.characters _ c.loop-place.place c.loop-place.rest c.loop-place-test.true inv.within (omega (arith, inv.size)) inv.written);
    }

pub invariant_of-result : goal.invariant_of-result
invariant_of-result c =
    let inv = c.loop-place.invariant in
    let all = all_written c.loop-place.characters c.args.prefix _ c.loop-place.place c.loop-place.rest c.loop-place-test.false inv.above inv.prefix inv.written in
    let id : is_id c.loop-place.characters ≡ true = ap is_id all ∙ subst (λ (cs : List ℕ). is_id cs ≡ true) (made-written c.args.prefix c.args.number) (made-is_id c.args.prefix c.args.number (ap length (sym c.copy_from_slice.ensures.after) ∙ c.copy_from_slice.ensures.len) c.requires.prefix) in
    id

pub returns : goal.returns
unfolding made
returns c =
    let inv = c.loop-place.invariant in
    all_written c.loop-place.characters c.args.prefix _ c.loop-place.place c.loop-place.rest c.loop-place-test.false inv.above inv.prefix inv.written
