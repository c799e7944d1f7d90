-- A connection has one list of items, unless its bytes end inside a target that nothing completes.
use Rattle.std.proofs.Common.{◌≡◌, ◌⊎◌, ℕ, List, [], ◌∷◌, refl, sym, subst, inl, inr}
use Rattle.server_http.specs.declared.message.HttpMessage.{HttpMessage}
use Rattle.server_http.specs.Item.{Item, whole, refused, ended, broken, IsItem, AreItems, IsOpenBehind, BeginWith}
use Rattle.server_http.proofs.Unique.{only_one}

abbrev Same : List ℕ → List Item → List Item → Type 0
Same bytes xs ys = (xs ≡ ys) ⊎ ((ms : List HttpMessage) × IsOpenBehind bytes ms × BeginWith ms xs × BeginWith ms ys)

abbrev Ends : List ℕ → Item → List Item → Type 0
Ends bytes item items = IsItem bytes item bytes × (items ≡ [])

two_ends : (bytes : List ℕ) (a b : Item) (xs ys : List Item) → Ends bytes a xs → Ends bytes b ys → Same bytes (a ∷ xs) (b ∷ ys)
two_ends bytes a b xs ys (is, none) (are, nothing) = elim (only_one bytes a b bytes bytes is are) [
  | inl (same, here) ↦ inl cc
  | inr target ↦ inr ([], target, tt, tt)
]

-- a message is no end
two_kinds : (bytes : List ℕ) (a b : Item) (r q : List ℕ) (xs ys : List Item) → (a ≡ b → ⊥) → IsItem bytes a r → IsItem bytes b q → Same bytes xs ys
two_kinds bytes a b r q xs ys differ is are = elim (only_one bytes a b r q is are) [
  | inl (same, here) ↦ absurd (differ same)
  | inr target ↦ inr ([], target, tt, tt)
]

pub only_list : (bytes : List ℕ) (xs ys : List Item) → AreItems bytes xs → AreItems bytes ys → Same bytes xs ys
only_list bytes [] ys x y = absurd x
only_list bytes (whole m ∷ xs) [] x y = absurd y
only_list bytes (refused e ∷ xs) [] x y = absurd y
only_list bytes (ended ∷ xs) [] x y = absurd y
only_list bytes (broken ∷ xs) [] x y = absurd y
only_list bytes (whole m ∷ xs) (whole n ∷ ys) (r, is, more) (q, are, others) = elim (only_one bytes (whole m) (whole n) r q is are) [
  | inl (same, here) ↦ elim (only_list r xs ys more (let P : List ℕ → Type 0 = λ b. AreItems b ys in subst P (sym here) others)) [
    | inl rest ↦ inl cc
    | inr (ms, target, front, other) ↦ inr (m ∷ ms, (r, is, target), (refl, front), (sym same, other))
  ]
  | inr target ↦ inr ([], target, tt, tt)
]
only_list bytes (whole m ∷ xs) (refused e ∷ ys) (r, is, more) y = two_kinds bytes (whole m) (refused e) r bytes _ _ (λ s. cc) is y.0
only_list bytes (whole m ∷ xs) (ended ∷ ys) (r, is, more) y = two_kinds bytes (whole m) ended r bytes _ _ (λ s. cc) is y.0
only_list bytes (whole m ∷ xs) (broken ∷ ys) (r, is, more) y = two_kinds bytes (whole m) broken r bytes _ _ (λ s. cc) is y.0
only_list bytes (refused e ∷ xs) (whole n ∷ ys) x (q, are, others) = two_kinds bytes (refused e) (whole n) bytes q _ _ (λ s. cc) x.0 are
only_list bytes (refused e ∷ xs) (refused d ∷ ys) x y = two_ends bytes (refused e) (refused d) xs ys x y
only_list bytes (refused e ∷ xs) (ended ∷ ys) x y = two_ends bytes (refused e) ended xs ys x y
only_list bytes (refused e ∷ xs) (broken ∷ ys) x y = two_ends bytes (refused e) broken xs ys x y
only_list bytes (ended ∷ xs) (whole n ∷ ys) x (q, are, others) = two_kinds bytes ended (whole n) bytes q _ _ (λ s. cc) x.0 are
only_list bytes (ended ∷ xs) (refused d ∷ ys) x y = two_ends bytes ended (refused d) xs ys x y
only_list bytes (ended ∷ xs) (ended ∷ ys) x y = two_ends bytes ended ended xs ys x y
only_list bytes (ended ∷ xs) (broken ∷ ys) x y = two_ends bytes ended broken xs ys x y
only_list bytes (broken ∷ xs) (whole n ∷ ys) x (q, are, others) = two_kinds bytes broken (whole n) bytes q _ _ (λ s. cc) x.0 are
only_list bytes (broken ∷ xs) (refused d ∷ ys) x y = two_ends bytes broken (refused d) xs ys x y
only_list bytes (broken ∷ xs) (ended ∷ ys) x y = two_ends bytes broken ended xs ys x y
only_list bytes (broken ∷ xs) (broken ∷ ys) x y = two_ends bytes broken broken xs ys x y
