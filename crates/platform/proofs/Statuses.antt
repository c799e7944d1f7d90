-- What statuses tell by themselves.
use Rattle.std.proofs.Common.{◌≡◌, ◌≢◌, ◌⊎◌, inl, inr, ℕ, Bool, true, false, List, [], ◌∷◌, Option, Some, None, refl, sym, subst, arith}
use Rattle.std.specs.Prelude.{◌↔◌, ◌==◌, ◌||◌}
use Rattle.store_kv.specs.Tables.{Tables}
use Rattle.model.specs.World.{World}
use Rattle.store_abstraction.specs.Stands.{HasKnownVersion, HasUnknownVersion, Stands}
use Rattle.commands.specs.Commands.{Command, answers, csvq, demo, export, has_status, is_one_of, is_serving, load, org_add, prints, serves, user_set, uses_of}
use Rattle.platform.specs.Promise.{IsStatus}
use Rattle.platform.specs.Run.{VersionEnds}
use Rattle.platform.proofs.Runs.{not_own, true_isnt_false}

-- ---- 64

never_64 : (c : Command) → has_status c 64 ≡ false
never_64 (prints (csvq query)) = refl
never_64 (prints (org_add name secret)) = refl
never_64 (prints (user_set org user secret)) = refl
never_64 (prints (export org user secret query)) = refl
never_64 (prints (load org user secret object)) = refl
never_64 (prints (demo count)) = refl
never_64 answers = refl
never_64 (serves count) = refl

some_not_none : (c : Command) → ◌≡◌ {A = Option Command} (Some c) None → ⊥
some_not_none c e = absurd cc

pub none_by : (words : Option Command) (status : ℕ) → IsStatus words status → (status ≡ 64) ↔ (words ≡ None)
none_by None status is = (λ _. refl, λ _. is)
none_by (Some c) status own = (λ e. absurd (not_own c status 64 own (never_64 c) e), λ wrong. absurd (some_not_none c wrong))

-- ---- connections

abbrev Among : List ℕ → ℕ → Type 0
Among [] s = ⊥
Among (n ∷ ns) s = (s ≡ n) ⊎ Among ns s

same : (n s : ℕ) → (n == s) ≡ true → s ≡ n
same n s h = grind (arith, h)

either_of : (n : ℕ) (ns : List ℕ) (s : ℕ) → is_one_of s (n ∷ ns) ≡ true → (is_one_of s ns ≡ true → Among ns s) → (b : Bool) → (n == s) ≡ b → (s ≡ n) ⊎ Among ns s
either_of n ns s h rest true e = inl (same n s e)
either_of n ns s h rest false e = inr (rest (subst (λ (b : Bool). (b || is_one_of s ns) ≡ true) e h))

among : (ns : List ℕ) (s : ℕ) → is_one_of s ns ≡ true → Among ns s
among [] s h = absurd (true_isnt_false (sym h))
among (n ∷ ns) s h = either_of n ns s h (among ns s) (n == s) refl

module _ (status : ℕ) (m : Tables) (w : World) (known : HasKnownVersion m) (one : HasKnownVersion m → HasUnknownVersion m → ⊥) (stands : Stands m w)
    (no72 : status ≢ 72) (no73 : status ≢ 73) (no74 : status ≢ 74) (no75 : status ≢ 75) (version : VersionEnds m status) where
  of_opening : Among (71 ∷ 72 ∷ 76 ∷ 77 ∷ []) status → (status ≡ 0) ⊎ (status ≡ 71)
  of_opening (inl h) = inr h
  of_opening (inr (inl h)) = absurd (no72 h)
  of_opening (inr (inr (inl h))) = absurd (version.damaged h w stands)
  of_opening (inr (inr (inr (inl h)))) = absurd (one known (version.unknown h))
  of_opening (inr (inr (inr (inr h)))) = absurd h

  of_answers : Among (uses_of answers).statuses status → (status ≡ 0) ⊎ (status ≡ 71)
  of_answers (inl h) = inl h
  of_answers (inr (inl h)) = absurd (no73 h)
  of_answers (inr (inr (inl h))) = absurd (no74 h)
  of_answers (inr (inr (inr h))) = of_opening h

  of_serves : Among (uses_of (serves 1)).statuses status → (status ≡ 0) ⊎ (status ≡ 71)
  of_serves (inl h) = inl h
  of_serves (inr (inl h)) = absurd (no75 h)
  of_serves (inr (inr h)) = of_opening h

  pub served_by : (c : Command) → is_serving c ≡ true → has_status c status ≡ true → (status ≡ 0) ⊎ (status ≡ 71)
  served_by (prints p) serving own = absurd (true_isnt_false (sym serving))
  served_by answers serving own = of_answers (among (uses_of answers).statuses status own)
  served_by (serves count) serving own = of_serves (among (uses_of (serves count)).statuses status own)
