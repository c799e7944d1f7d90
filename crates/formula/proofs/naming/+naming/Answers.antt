use Rattle.std.proofs.Common.{◌≡◌, ◌++◌, List, ℕ, ◌∙◌, ap, sym, subst, flat_map, OnOk}
use Rattle.formula.specs.Naming.{names}
use Rattle.formula.proofs.Rows.{names_not, names_and, names_or}
use Rattle.formula.proofs.naming.+naming.Goals as goal

pub add_names-returns-in-Not : goal.add_names-returns-in-Not
add_names-returns-in-Not t c =
    let same : names c.get.result.now ≡ names c.args.formula.now = ap names c.get.ensures ∙ sym (names_not c.in-Not.part) ∙ ap names (sym c.in-Not.is) in
    let P : List ℕ → Type 0 = λ ps. OnOk c.add_names.result (c.add_names.new.found.items ≡ c.args.found.now.items ++ ps) in
    subst P same c.add_names.ensures

pub add_names-returns-in-And : goal.add_names-returns-in-And
add_names-returns-in-And t c =
    let same : flat_map names c.as_slice.result.now ≡ names c.args.formula.now =
    ap (flat_map names) c.as_slice.ensures ∙ sym (names_and c.in-And.parts) ∙ ap names (sym c.in-And.is) in
    let P : List ℕ → Type 0 = λ ps. OnOk c.add_all_names.result (c.add_all_names.new.found.items ≡ c.args.found.now.items ++ ps) in
    subst P same c.add_all_names.ensures

pub add_names-returns-in-Or : goal.add_names-returns-in-Or
add_names-returns-in-Or t c =
    let same : flat_map names c.as_slice-in-Or.result.now ≡ names c.args.formula.now =
    ap (flat_map names) c.as_slice-in-Or.ensures ∙ sym (names_or c.in-Or.parts) ∙ ap names (sym c.in-Or.is) in
    let P : List ℕ → Type 0 = λ ps. OnOk c.add_all_names-in-Or.result (c.add_all_names-in-Or.new.found.items ≡ c.args.found.now.items ++ ps) in
    subst P same c.add_all_names-in-Or.ensures
