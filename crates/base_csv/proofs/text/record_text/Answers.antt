use Rattle.std.proofs.Common.{◌≡◌, ◌∙◌, ◌==◌, ◌∷◌, ◌++◌, Bor, List, [], ap, false, length, map, rules, sym, ℕ}
use Rattle.std.proofs.lemmas.List.{length-map}
use Rattle.csv.specs.Writing.{default_writer, row_body, row_text}
use Rattle.base_csv.proofs.Texts.{whole}
use Rattle.base_csv.proofs.text.record_text.Goals as goal

pub returns-in_ok-push-in-Some-2 : goal.returns-in_ok-push-in-Some-2
returns-in_ok-push-in-Some-2 c =
    let first = c.in-Some.first.now in
    let rest = c.in-Some.rest.now in
    let cells : c.args.cells.now ≡ first ∷ rest = search rules in
    let others = map (λ (x : Bor (List ℕ)). x.now) rest in
    let more : (length others == 0) ≡ false = ap (λ (n : ℕ). n == 0) (length-map rest (λ (x : Bor (List ℕ)). x.now)) ∙ (sym c.is_empty.ensures ∙ c.if-is_empty.false) in
    let body : c.in-Some-2.text.items ≡ row_body default_writer (first.now ∷ others) = search rules in
    let text : c.push.new.self.items ≡ c.in-Some-2.text.items ++ (10 ∷ []) = search rules in
    text ∙ (ap (λ (t : List ℕ). t ++ (10 ∷ [])) body ∙ (whole first.now others more ∙ ap (λ (xs : List (Bor (List ℕ))). row_text default_writer (map (λ (x : Bor (List ℕ)). x.now) xs)) (sym cells)))
