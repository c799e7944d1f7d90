-- A file that couldn't be opened, of a command that uses the keeper.
use Rattle.std.proofs.Common.{◌≡◌, ◌⊎◌, inl, inr, ℕ, true, Option, Some, None, refl, sym, subst}
use Rattle.std.specs.Prelude.{◌↔◌, IfSome}
use Rattle.commands.specs.Commands.{Command, answers, csvq, demo, export, has_status, load, opens_in, org_add, prints, serves, user_set}
use Rattle.platform.specs.Promise.{IsStatus}
use Rattle.carmuguur.specs.Status.{IsStatusOf}

own_71 : (c : Command) → opens_in (Some c) ≡ true → has_status c 71 ≡ true
own_71 (prints (csvq query)) opens = absurd cc
own_71 (prints (org_add name secret)) opens = refl
own_71 (prints (user_set org user secret)) opens = refl
own_71 (prints (export org user secret query)) opens = refl
own_71 (prints (load org user secret object)) opens = refl
own_71 (prints (demo count)) opens = absurd cc
own_71 answers opens = refl
own_71 (serves count) opens = refl

own_72 : (c : Command) → opens_in (Some c) ≡ true → has_status c 72 ≡ true
own_72 (prints (csvq query)) opens = absurd cc
own_72 (prints (org_add name secret)) opens = refl
own_72 (prints (user_set org user secret)) opens = refl
own_72 (prints (export org user secret query)) opens = refl
own_72 (prints (load org user secret object)) opens = refl
own_72 (prints (demo count)) opens = absurd cc
own_72 answers opens = refl
own_72 (serves count) opens = refl

-- 71 and 72 are statuses of such a command
pub status_unopened : (o : Option Command) (status : ℕ) → opens_in o ≡ true → (status ≡ 71) ⊎ (status ≡ 72) → IsStatus o status
status_unopened None status opens is = absurd cc
status_unopened (Some c) status opens (inl is) = subst (λ (n : ℕ). has_status c n ≡ true) (sym is) (own_71 c opens)
status_unopened (Some c) status opens (inr is) = subst (λ (n : ℕ). has_status c n ≡ true) (sym is) (own_72 c opens)

pub if_some_left : {A : Type 0} (o : Option A) (P Q : A → Type 0) → ((a : A) → P a) → IfSome o (λ a. P a ⊎ Q a)
if_some_left None P Q all = tt
if_some_left (Some a) P Q all = inl (all a)

pub if_some_right : {A : Type 0} (o : Option A) (P Q : A → Type 0) → IfSome o Q → IfSome o (λ a. P a ⊎ Q a)
if_some_right None P Q some = tt
if_some_right (Some a) P Q some = inr some

pub if_some_map : {A : Type 0} (o : Option A) (P Q : A → Type 0) → ((a : A) → P a → Q a) → IfSome o P → IfSome o Q
if_some_map None P Q by some = tt
if_some_map (Some a) P Q by some = by a some

-- ---- the status of words

pub status_is : (o : Option Command) (status : ℕ) → (status ≡ 64) ↔ (o ≡ None) → IsStatusOf o status
status_is o status is = record { no_command = is.0; none = λ e. inl (is.1 e) }

pub status_memory : (o : Option Command) → IsStatusOf o 71
status_memory o = record { no_command = λ e. absurd (other e); none = λ e. inr refl }
  where
    other : ◌≡◌ {A = ℕ} 71 64 → ⊥
    other e = absurd cc
