use Rattle.std.proofs.Common.{ℕ, List, ◌∷◌, [], ◌++◌, length, get_or, refl, ap, sym, ◌∙◌, arith}
use Rattle.std.proofs.lemmas.Bool.{both_ways}
use Rattle.std.proofs.lemmas.Slice.Eq.{text_from_reads, bytes_eq-Decides}
use Rattle.std.specs.Prelude.{bytes_eq, codes}
use Rattle.model_requests.specs.Routing.{is_part_end, is_version}
use Rattle.api.proofs.Versions.{lacks_front, lacks_point, lacks_version, other}
use Rattle.api.proofs.version.behind_version.Goals as goal
use Rattle.api.proofs.version.behind_version.Goals.{in_default-via-then-as_bytes-lt2, in_default-via-in-len2+then-is_version+else-is_part_end, in_default-via-in-len2+else-is_version, in_default-via-else-as_bytes-lt2+else-this-lt3}

pub returns-in_err-version-clause-served : goal.returns-in_err-version-clause-served
returns-in_err-version-clause-served c = let e = lacks_front c.args.path.now c.in_err-version.ensures.cases in rw c.from_residual.ensures e

pub returns-in_err-digits-clause-served : goal.returns-in_err-digits-clause-served
returns-in_err-digits-clause-served c =
    let (_, begins, rest, _) = c.in_ok-version.ensures.cases in
    let is = begins.1 ∙ ap (λ l. codes "/services/data/v" ++ l) (sym rest) in
    let e = lacks_point c.args.path.now c.in_ok-version.version.now is c.in_err-digits.ensures.cases in
    rw c.from_residual-in_err-digits.ensures e

pub returns-in-len2-clause-other : goal.returns-in-len2-clause-other
returns-in-len2-clause-other c =
    let (_, begins, rest, _) = c.in_ok-version.ensures.cases in
    let is = begins.1 ∙ ap (λ l. codes "/services/data/v" ++ l) (sym rest) in
    let (i, j, found, front, back, _, _, _) = c.in_ok-digits.ensures.cases in
    let bytes = c.as_bytes.result.now in
    let two = sym c.as_bytes.ensures.value ∙ text_from_reads bytes (get_or bytes 0 0 ∷ get_or bytes 1 0 ∷ []) (omega arith) (refl, (refl, tt)) in
    other c.args.path.now c.in_ok-version.version.now i j is found (get_or bytes 0 0) (get_or bytes 1 0)
    (sym front ∙ two)
    (sym c.is_version.ensures ∙ c.if-is_version.true)
    (ap is_part_end (sym back) ∙ sym c.is_part_end.ensures ∙ c.if-is_part_end.true)
    (λ e. both_ways (bytes_eq c.in_ok-digits.digits.now (codes "59"))
    (sym c.eq.ensures ∙ c.if-eq.false)
    ((bytes_eq-Decides c.in_ok-digits.digits.now (codes "59")).1 (two ∙ e)))

pub returns-in_default-clause-served : goal.returns-in_default-clause-served
returns-in_default-clause-served c =
    let (_, begins, rest, _) = c.in_ok-version.ensures.cases in
    let is = begins.1 ∙ ap (λ l. codes "/services/data/v" ++ l) (sym rest) in
    let (i, j, found, front, back, _, _, _) = c.in_ok-digits.ensures.cases in
    lacks_version c.args.path.now c.in_ok-version.version.now i j is found (λ a b two counts ends.
    let digits = c.as_bytes.ensures.value ∙ front ∙ two in
    elim c.in_default.branch [
      | in_default-via-then-as_bytes-lt2 w ↦ grind (arith, ap length digits)
      | in_default-via-in-len2+then-is_version+else-is_part_end w ↦
          both_ways (is_part_end c.in_ok-digits.rest.now) (sym w.is_part_end.ensures ∙ w.if-is_part_end.false) (ap is_part_end back ∙ ends)
      | in_default-via-in-len2+else-is_version w ↦
          both_ways (is_version a b)
          (sym (ap (λ (l : List ℕ). is_version (get_or l 0 0) (get_or l 1 0)) digits) ∙ sym w.is_version.ensures ∙ w.if-is_version.false)
          counts
      | in_default-via-else-as_bytes-lt2+else-this-lt3 w ↦ grind (arith, ap length digits)
    ])
