-- Texts of descriptions.
use Rattle.std.proofs.Common.{◌≡◌, ◌∙◌, ◌∷◌, ◌++◌, ◌-◌, ◌/◌, ◌%◌, [], List, length, take, ℕ, ap, ap₂, div-one, refl, sym}
use Rattle.std.specs.Prelude.{Result, IfOk, codes}
use Rattle.std.specs.Str.{chars}
use Rattle.std.specs.declared.alloc.AllocError.{AllocError}
use Rattle.base_lemmas.proofs.Results.{IfOk-same}
use Rattle.base_json.specs.declared.tree.Json.{Json}
use Rattle.base_value.specs.Digits.{digits}
use Rattle.base_value.specs.Id.{digit62}
use Rattle.model.specs.Objects.{record_prefix}
use Rattle.model.specs.Relationships.{parent_name}
use Rattle.model_reads.specs.DescribeJson.{object_url, urls_json}
use Rattle.api_read.specs.inner.DescribedLayouts.{addresses}

-- the prefix of the ids of an object's records, by its two digits
pub prefix_of : (n high low : ℕ) → high ≡ digit62 ((n / 62) % 62) → low ≡ digit62 (n % 62) → 97 ∷ high ∷ low ∷ [] ≡ record_prefix n
unfolding record_prefix digits
prefix_of n high low first second = ap₂ (λ (x y : ℕ). 97 ∷ x ∷ y ∷ []) first (second ∙ ap (λ (n : ℕ). digit62 (n % 62)) (sym (div-one n)))

-- the last three characters of a field's name are replaced
pub parent_of : (field all kept : List ℕ) (count : ℕ) → all ≡ field → count ≡ length all - 3 → kept ≡ take count all → kept ++ codes "__r" ≡ parent_name field
unfolding parent_name
parent_of field all kept count same counted cut =
    ap (λ (x : List ℕ). x ++ codes "__r") (cut ∙ ap (λ (n : ℕ). take n all) counted ∙ ap (λ (x : List ℕ). take (length x - 3) x) same)

-- ---- texts that are made, or memory ran out

pub url_made : (r : Result (List ℕ) AllocError) (name : List ℕ) → IfOk r (λ text. text ≡ chars (codes "/services/data/v59.0/sobjects/") ++ name) → IfOk r (λ text. text ≡ object_url name)
unfolding chars
url_made r name h = IfOk-same r (codes "/services/data/v59.0/sobjects/" ++ name) (object_url name) refl h

pub parent_made : (r : Result (List ℕ) AllocError) (field all front : List ℕ) (count : ℕ) → all ≡ field → count ≡ length all - 3 → front ≡ take count all
    → IfOk r (λ text. text ≡ front ++ chars (codes "__r")) → IfOk r (λ text. text ≡ parent_name field)
unfolding chars
parent_made r field all front count same counted cut h = IfOk-same r (front ++ codes "__r") (parent_name field) (parent_of field all front count same counted cut) h

pub prefix_made : (r : Result (List ℕ) AllocError) (n high low : ℕ) (all : List ℕ) → high ≡ digit62 ((n / 62) % 62) → low ≡ digit62 (n % 62) → all ≡ 97 ∷ high ∷ low ∷ []
    → IfOk r (λ text. text ≡ all) → IfOk r (λ text. text ≡ record_prefix n)
prefix_made r n high low all first second is h = IfOk-same r all (record_prefix n) (is ∙ prefix_of n high low first second) h

pub urls_made : (r : Result Json AllocError) (name url describe row : List ℕ) → url ≡ object_url name → describe ≡ url ++ chars (codes "/describe") → row ≡ url ++ chars (codes "/{ID}")
    → IfOk r (λ v. v ≡ addresses url describe row) → IfOk r (λ v. v ≡ urls_json name)
unfolding chars
urls_made r name url describe row first second third h =
    IfOk-same r (addresses url describe row) (urls_json name)
    (ap (λ (x : List ℕ). addresses url x row) second
    ∙ ap (λ (x : List ℕ). addresses url (url ++ codes "/describe") x) third
    ∙ ap (λ (x : List ℕ). addresses x (x ++ codes "/describe") (x ++ codes "/{ID}")) first)
    h
