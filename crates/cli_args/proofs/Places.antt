-- Where the secret of a command is among its words.
use Rattle.std.proofs.Common.{◌≡◌, ◌≢◌, ◌<◌, ◌≤◌, ◌+◌, ◌-◌, ◌∙◌, ℕ, suc, List, [], ◌∷◌, drop, length, length-drop, length-take, map, take, get_or, set, Option, Some, None, refl, sym, ap, subst, arith}
use Rattle.std.proofs.Math.ListN.{length-map}
use Rattle.std.proofs.lemmas.List.{map-set}
use Rattle.std.proofs.lemmas.Option.{slice_get-map, slice_get-get_or, slice_get_past}
use Rattle.std.specs.Prelude.{◌↔◌, IfSome, slice_get}
use Rattle.std.specs.Option.{option_map}
use Rattle.commands.specs.Commands.{Command, command_of}
use Rattle.cli_args.specs.Lines.{IsCommandLine}
use Rattle.cli_args.specs.Secrets.{line_command, secret_of, with_secret}
use Rattle.cli_args.specs.inner.Places.{HasNoSecret, HasSecret, IsPlaceOfSecret}

none_of : {A B : Type 0} (g : A → B) (o : Option A) → option_map g o ≡ None → o ≡ None
none_of g None none = refl
none_of g (Some a) none = absurd cc

some_as : {A : Type 0} (g : A → A) (o new : Option A) → new ≡ option_map g o → (new ≢ None) ↔ (o ≢ None)
some_as g o new is = (
  λ some none. some (is ∙ ap (option_map g) none),
  λ some none. some (none_of g o (sym is ∙ none)),
)

along_none : (o : Option Command) (found : Option (List ℕ)) → found ≡ None → IfSome o (λ c. found ≡ secret_of c) → HasNoSecret o
along_none None found none word = tt
along_none (Some c) found none word = sym none ∙ word

-- how many words are behind the first ones
pub count_behind : {X : Type 0} (words : List X) (k : ℕ) → length (take (length words - k) (drop k words)) ≡ length words - k
count_behind words k =
    let left : length (drop k words) ≡ length words - k = length-drop k words in
    length-take (length words - k) (drop k words) ∙ grind arith

pub place_in : {X : Type 0} (f : X → List ℕ) (words : List X) (name : X) (place : ℕ) → 3 ≤ length words → name ≡ get_or words 2 name → HasSecret (f name) (Some place) → place < length words - 3
    → IsPlaceOfSecret (map f words) (3 + place)
place_in f [] name place three is has inside = absurd (omega (arith, three))
place_in f (x ∷ []) name place three is has inside = absurd (omega (arith, three))
place_in f (x ∷ y ∷ []) name place three is has inside = absurd (omega (arith, three))
place_in {X} f (x ∷ y ∷ z ∷ others) name place three is has inside =
    let own : HasSecret (f z) (Some place) = subst (λ (w : X). HasSecret (f w) (Some place)) is has in
    let put : (secret : List ℕ) → command_of (f z ∷ set (map f others) place secret) ≡ option_map (with_secret secret) (command_of (f z ∷ map f others)) = (own (map f others)).1 in
    let size : length (map f others) ≡ length others = length-map others f in
    let at : suc (suc (suc place)) ≡ 3 + place = omega arith in
    subst (IsPlaceOfSecret (f x ∷ f y ∷ f z ∷ map f others)) at (record {
      within = omega (arith, inside, size);
      word = (own (map f others)).0;
      command = put;
      line = λ secret. (
        λ line. (line.0, (some_as (with_secret secret) (command_of (f z ∷ map f others)) _ (put secret)).0 line.1),
        λ line. (line.0, (some_as (with_secret secret) (command_of (f z ∷ map f others)) _ (put secret)).1 line.1),
      );
      before = λ secret. refl;
    })

pub past_place_in : {X : Type 0} (f : X → List ℕ) (words : List X) (name : X) (place : ℕ) → 3 ≤ length words → name ≡ get_or words 2 name → HasSecret (f name) (Some place) → length words - 3 ≤ place
    → HasNoSecret (line_command (map f words))
past_place_in f [] name place three is has past = tt
past_place_in f (x ∷ []) name place three is has past = tt
past_place_in f (x ∷ y ∷ []) name place three is has past = tt
past_place_in {X} f (x ∷ y ∷ z ∷ others) name place three is has past =
    let size : length (map f others) ≡ length others = length-map others f in
    let own : HasSecret (f z) (Some place) = subst (λ (w : X). HasSecret (f w) (Some place)) is has in
    along_none (command_of (f z ∷ map f others)) (slice_get (map f others) place) (slice_get_past (map f others) place (omega (arith, past, size))) (own (map f others)).0

-- fewer than three words are no command
pub short_in : {X : Type 0} (f : X → List ℕ) (words : List X) → length words < 3 → HasNoSecret (line_command (map f words))
short_in f [] few = tt
short_in f (x ∷ []) few = tt
short_in f (x ∷ y ∷ []) few = tt
short_in f (x ∷ y ∷ z ∷ others) few = absurd (omega (arith, few))

pub read_at : {X : Type 0} (f : X → List ℕ) (words : List X) (place : ℕ) (word : X) → IsPlaceOfSecret (map f words) place → word ≡ get_or words place word
    → IfSome (line_command (map f words)) (λ c. Some (f word) ≡ secret_of c)
read_at {X} f words place word is found =
    let inside : place < length words = omega (arith, is.within, length-map words f) in
    let at : slice_get (map f words) place ≡ Some (f word) = slice_get-map f words place ∙ ap (option_map f) (slice_get-get_or words place word inside) ∙ ap (λ (w : X). Some (f w)) (sym found) in
    subst (λ (o : Option (List ℕ)). IfSome (line_command (map f words)) (λ c. o ≡ secret_of c)) at is.word

pub put_line : {X : Type 0} (f : X → List ℕ) (words new : List X) (place : ℕ) (word : X) → IsPlaceOfSecret (map f words) place → new ≡ set words place word → IsCommandLine (map f new) ↔ IsCommandLine (map f words)
put_line {X} f words new place word is put = subst (λ (w : List (List ℕ)). IsCommandLine w ↔ IsCommandLine (map f words)) (sym (ap (map f) put ∙ map-set f words place word)) (is.line (f word))

pub put_command : {X : Type 0} (f : X → List ℕ) (words new : List X) (place : ℕ) (word : X) → IsPlaceOfSecret (map f words) place → new ≡ set words place word
    → line_command (map f new) ≡ option_map (with_secret (f word)) (line_command (map f words))
put_command f words new place word is put = ap line_command (ap (map f) put ∙ map-set f words place word) ∙ is.command (f word)

pub put_before : {X : Type 0} (f : X → List ℕ) (words new : List X) (place : ℕ) (word : X) → IsPlaceOfSecret (map f words) place → new ≡ set words place word → take 2 (map f new) ≡ take 2 (map f words)
put_before f words new place word is put = ap (take 2) (ap (map f) put ∙ map-set f words place word) ∙ is.before (f word)
