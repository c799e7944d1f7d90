-- What the writer writes for a whole value, by the brackets that may be open in it.
use Rattle.std.specs.Prelude.{◌≡◌, ℕ, zero, suc, ◌<◌, true, List, [], ◌∷◌, ◌++◌, map}
use Rattle.std.specs.List.{AllByRecursion}
use Rattle.std.specs.Str.{all_scalars}
use Rattle.base_value.specs.Numerals.{exact_bound}
use Rattle.base_value.specs.Printing.{print_number}
use Rattle.base_json.specs.Printing.{printed_text, printed_truth, printed_null, size}
use Rattle.base_json.specs.declared.tree.Num.{Num}
use Rattle.base_json.specs.declared.tree.Num.TheVariants.{Exact, Beyond}
use Rattle.base_json.specs.declared.tree.Json.{Json, out-Json}
use Rattle.base_json.specs.declared.tree.Json.TheOpen.{Json-F}
use Rattle.base_json.specs.declared.tree.Member.{Member, out-Member}

-- texts with commas between them
abbrev pub joined : List (List ℕ) → List ℕ
joined [] = []
joined (x ∷ []) = x
joined (x ∷ y ∷ ys) = x ++ 44 ∷ joined (y ∷ ys)

abbrev pub printed_num : Num → List ℕ
printed_num (Exact z) = print_number z
printed_num Beyond = []

-- a value, by what is between the brackets of a list and of an object
abbrev pub printed_layer : (List Json → List ℕ) → (List Member → List ℕ) → Json-F Json Member → List ℕ
printed_layer lists objects Json-F.Null = printed_null
printed_layer lists objects (Json-F.Bool b) = printed_truth b
printed_layer lists objects (Json-F.Number n) = printed_num n
printed_layer lists objects (Json-F.Text t) = printed_text t
printed_layer lists objects (Json-F.List xs) = 91 ∷ (lists xs ++ 93 ∷ [])
printed_layer lists objects (Json-F.Object ms) = 123 ∷ (objects ms ++ 125 ∷ [])

abbrev pub printed_member : (Json → List ℕ) → Member → List ℕ
printed_member value m = printed_text (out-Member m).name ++ 58 ∷ value (out-Member m).value

-- the characters that the writer writes for a value in which so many brackets may be open
unfoldable pub printed : ℕ → Json → List ℕ
printed zero v = printed_layer (λ xs. []) (λ ms. []) (out-Json v)
printed (suc levels) v =
    printed_layer (λ xs. joined (map (printed levels) xs)) (λ ms. joined (map (printed_member (printed levels)) ms)) (out-Json v)

abbrev pub IsSmall : Num → Type 0
IsSmall (Exact z) = size z < exact_bound
IsSmall Beyond = ⊥

abbrev pub Fits_layer : (List Json → Type 0) → (List Member → Type 0) → Json-F Json Member → Type 0
Fits_layer lists objects Json-F.Null = Unit {0}
Fits_layer lists objects (Json-F.Bool b) = Unit {0}
Fits_layer lists objects (Json-F.Number n) = IsSmall n
Fits_layer lists objects (Json-F.Text t) = all_scalars t ≡ true
Fits_layer lists objects (Json-F.List xs) = lists xs
Fits_layer lists objects (Json-F.Object ms) = objects ms

abbrev pub Fits_member : (Json → Type 0) → Member → Type 0
Fits_member value m = (all_scalars (out-Member m).name ≡ true) × value (out-Member m).value

-- no more brackets are open than that, each number is exact and small, and texts are of Unicode scalars
unfoldable pub Fits : ℕ → Json → Type 0
Fits zero v = Fits_layer (λ xs. ⊥) (λ ms. ⊥) (out-Json v)
Fits (suc levels) v = Fits_layer (AllByRecursion (Fits levels)) (AllByRecursion (Fits_member (Fits levels))) (out-Json v)
