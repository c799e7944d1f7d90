use Rattle.std.proofs.Common.{◌≤◌, ℕ, List, Option, Some, length, subst, arith}
use Rattle.std.specs.Prelude.{string_bytes}
use Rattle.cli_args.specs.inner.Places.{HasSecret}
use Rattle.cli_args.proofs.Places.{count_behind, past_place_in, place_in, short_in}
use Rattle.cli_args.proofs.secret.secret_place.Goals as goal

pub returns-in_default : goal.returns-in_default
returns-in_default c = let few = c.in_default.len_below in short_in string_bytes c.args.words.now (omega (arith, few))

pub returns-in-Some : goal.returns-in-Some
returns-in-Some c =
    let least : 3 ≤ length c.args.words.now = omega (arith, c.in-len3-up.len_at_least) in
    let has : HasSecret (string_bytes c.name-item.result) (Some c.in-Some.place) =
    subst (λ (name : List ℕ). HasSecret name (Some c.in-Some.place)) c.as_str.ensures.value
    (subst (λ (place : Option ℕ). HasSecret c.as_str.result.now place) c.in-Some.is c.in_ok-form.ensures.secret) in
    let size = count_behind c.args.words.now 3 in
    let below = c.if-place-others.true in
    place_in string_bytes c.args.words.now c.name-item.result c.in-Some.place least c.name-item.is has (omega (arith, below, size))

pub returns-in_default-secret : goal.returns-in_default-secret
returns-in_default-secret c =
    let least : 3 ≤ length c.args.words.now = omega (arith, c.in-len3-up.len_at_least) in
    let has : HasSecret (string_bytes c.name-item.result) (Some c.in-Some.place) =
    subst (λ (name : List ℕ). HasSecret name (Some c.in-Some.place)) c.as_str.ensures.value
    (subst (λ (place : Option ℕ). HasSecret c.as_str.result.now place) c.in-Some.is c.in_ok-form.ensures.secret) in
    let size = count_behind c.args.words.now 3 in
    let past = c.if-place-others.false in
    past_place_in string_bytes c.args.words.now c.name-item.result c.in-Some.place least c.name-item.is has (omega (arith, past, size))
