use Rattle.std.proofs.Common.{◌≡◌, ◌+◌, ◌++◌, ◌∷◌, [], List, ℕ, Some, sym, ap, ◌∙◌, arith}
use Rattle.std.specs.Option.{option_map, option_to_list}
use Rattle.store_kv.specs.Prefixes.{raised}
use Rattle.store_kv.proofs.Prefixes.{raised_none, raised_last}
use Rattle.store_kv.proofs.prefix.prefix_ends.Goals as goal

pub returns-then-last-lt255 : goal.returns-then-last-lt255
returns-then-last-lt255 c =
    let rest = c.pop.new.self.items in
    let last = c.in-Some.last in
    let prefix = c.args.prefix.now in
    let popped = c.pop.ensures.items ∙ ap (λ o. rest ++ option_to_list o) c.in-Some.is in
    let is : raised prefix ≡ Some (rest ++ (last + 1) ∷ []) = sym c.bytes.invariant ∙ ap raised popped ∙ raised_last rest last (omega arith) in
    let above : ◌≡◌ {A = List ℕ} c.from_vec.result (rest ++ (last + 1) ∷ []) = c.from_vec.ensures ∙ c.in_ok-push.ensures.items in
    (λ i. Some (c.in_ok-from.ensures i, above i)) ∙ ap (option_map {T = List ℕ} {U = List ℕ × List ℕ} (λ end. (prefix, end))) (sym is)

pub bytes-preserved : goal.bytes-preserved
bytes-preserved c =
    let rest = c.pop.new.self.items in
    let popped = c.pop.ensures.items ∙ ap (λ o. rest ++ option_to_list o) c.in-Some.is in
    sym (raised_none rest c.in-Some.last (omega arith)) ∙ ap raised (sym popped) ∙ c.bytes.invariant
