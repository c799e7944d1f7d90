use Rattle.std.proofs.Common.{◌≡◌, ◌∙◌, ◌∷◌, ◌++◌, ◌+◌, ◌<◌, ◌≤◌, ℕ, Bor, List, [], false, ap, drop, length, map, rules, sym}
use Rattle.std.specs.Prelude.{get_or}
use Rattle.std.proofs.lemmas.List.{drop_all, drop_more}
use Rattle.csv.specs.Writing.{default_writer, fields_text, needs_quotes}
use Rattle.base_csv.proofs.Texts.{ended, one_more}
use Rattle.base_csv.proofs.text.plain_text.Goals as goal

pub loop-cell-preserved : goal.loop-cell-preserved
loop-cell-preserved c =
    let rest = c.args.rest.now in
    let i = c.loop-cell.cell-index in
    let before = c.loop-cell.text.items in
    let d : Bor (List ℕ) = record { ref_ptr = (0, 0); now = [] } in
    let cell = get_or rest i d in
    let left = map (λ (x : Bor (List ℕ)). x.now) (drop (i + 1) rest) in
    let lt : i < length rest = search rules in
    let none : needs_quotes default_writer cell.now ≡ false = sym c.needs_quotes-in-loop-cell.ensures ∙ c.if-needs_quotes-2.false in
    let text : c.extend_from_slice.new.self.items ≡ (before ++ (44 ∷ [])) ++ cell.now = search rules in
    ap (λ (t : List ℕ). t ++ fields_text default_writer left) text
    ∙ (one_more before cell.now left none
    ∙ (ap (λ (cells : List (Bor (List ℕ))). before ++ fields_text default_writer (map (λ (x : Bor (List ℕ)). x.now) cells)) (sym (drop_more rest i d lt))
    ∙ c.loop-cell.invariant))

pub returns : goal.returns
returns c =
    let rest = c.args.rest.now in
    let past : length rest ≤ c.loop-cell.cell-index = search rules in
    sym (ended c.loop-cell.text.items)
    ∙ (ap (λ (cells : List (Bor (List ℕ))). c.loop-cell.text.items ++ fields_text default_writer (map (λ (x : Bor (List ℕ)). x.now) cells)) (sym (drop_all c.loop-cell.cell-index rest past))
    ∙ c.loop-cell.invariant)
