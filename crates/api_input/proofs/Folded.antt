-- Names in lower case that were seen, and those to come.
use Rattle.std.proofs.Common.{◌≡◌, ℕ, Bool, true, false, not, ◌&&◌, ◌||◌, cond, List, [], ◌∷◌, ◌++◌, refl, sym, ap, ◌∙◌, append-nil}
use Rattle.std.specs.Prelude.{bytes_eq, encode_utf8_all}
use Rattle.std.specs.BTreeSet.{BTreeSet, Updates, contains, contains_text}
use Rattle.std.specs.Char.{encode_utf8, to_ascii_lowercase}
use Rattle.std.specs.List.{list_any}
use Rattle.std.specs.String.{string_bytes, string_cmp}
use Rattle.std.specs.declared.string.String.{String}
use Rattle.std.proofs.lemmas.Bool.Decides.{same_from_decides}
use Rattle.std.proofs.lemmas.List.{map-append}
use Rattle.std.proofs.lemmas.Map.Text.{btree_set_updates_text}
use Rattle.std.proofs.lemmas.Slice.Eq.{bytes_eq-Decides}
use Rattle.std.proofs.lemmas.Str.{encodes-append, encodes_same}
use Rattle.std.proofs.lemmas.Bool.{not-true as unseen}
use Rattle.base_value.specs.Texts.{lower, texts_differ}

-- ---- a name in lower case

-- one character more
pub lower_more : (bytes cs : List ℕ) (c : ℕ) → bytes ≡ encode_utf8_all (lower cs) → bytes ++ encode_utf8 (to_ascii_lowercase c) ≡ encode_utf8_all (lower (cs ++ c ∷ []))
lower_more bytes cs c same =
    ap (λ (x : List ℕ). x ++ encode_utf8 (to_ascii_lowercase c)) same
    ∙ ap (λ (x : List ℕ). encode_utf8_all (lower cs) ++ x) (sym (append-nil (encode_utf8 (to_ascii_lowercase c))))
    ∙ sym (encodes-append (lower cs) (to_ascii_lowercase c ∷ []))
    ∙ ap encode_utf8_all (sym (map-append to_ascii_lowercase cs (c ∷ [])))

-- ---- names that were seen

-- whether none of the names was seen, and no two are equal
abbrev pub are_new : {Y : Type 0} → BTreeSet (String Y) → List (List ℕ) → Bool
are_new seen [] = true
are_new seen (name ∷ names) = not (contains_text seen (encode_utf8_all name)) && (not (list_any (bytes_eq name) names) && are_new seen names)

-- where none was seen
pub none_seen : {Y : Type 0} (seen : BTreeSet (String Y)) (names : List (List ℕ)) → seen.keys ≡ [] → are_new seen names ≡ texts_differ names
none_seen seen [] e = refl
none_seen seen (name ∷ names) e =
    let unseen : contains_text seen (encode_utf8_all name) ≡ false = rw e refl in
    ap (λ (b : Bool). not b && (not (list_any (bytes_eq name) names) && are_new seen names)) unseen
    ∙ ap (λ (b : Bool). not (list_any (bytes_eq name) names) && b) (none_seen seen names e)

-- texts are equal where their bytes are
same_bytes : (a b : List ℕ) → bytes_eq (encode_utf8_all a) (encode_utf8_all b) ≡ bytes_eq a b
same_bytes a b =
    let d = bytes_eq-Decides (encode_utf8_all a) (encode_utf8_all b) in
    let t = bytes_eq-Decides a b in
    same_from_decides (bytes_eq (encode_utf8_all a) (encode_utf8_all b)) (bytes_eq a b)
    d
    (λ e. ap encode_utf8_all (t.0 e), λ e. t.1 (encodes_same a b e))

exchanged : (same later seen twice rest : Bool) → (not (same || later) && (not seen && (not twice && rest))) ≡ (not (cond same true seen) && (not twice && (not later && rest)))
exchanged true later seen twice rest = refl
exchanged false true true twice rest = refl
exchanged false true false true rest = refl
exchanged false true false false rest = refl
exchanged false false seen twice rest = refl

-- one name more was seen
more_seen : {Y : Type 0} (old new : BTreeSet (String Y)) (name : List ℕ) (names : List (List ℕ))
    → ((cs : List ℕ) → contains_text new cs ≡ cond (bytes_eq (encode_utf8_all name) cs) true (contains_text old cs))
    → (not (list_any (bytes_eq name) names) && are_new old names) ≡ are_new new names
more_seen old new name [] h = refl
more_seen old new name (m ∷ ms) h =
    let found : contains_text new (encode_utf8_all m) ≡ cond (bytes_eq name m) true (contains_text old (encode_utf8_all m)) =
    h (encode_utf8_all m) ∙ ap (λ (b : Bool). cond b true (contains_text old (encode_utf8_all m))) (same_bytes name m) in
    exchanged (bytes_eq name m) (list_any (bytes_eq name) ms) (contains_text old (encode_utf8_all m)) (list_any (bytes_eq m) ms) (are_new old ms)
    ∙ ap (λ (b : Bool). not b && (not (list_any (bytes_eq m) ms) && (not (list_any (bytes_eq name) ms) && are_new old ms))) (sym found)
    ∙ ap (λ (b : Bool). not (contains_text new (encode_utf8_all m)) && (not (list_any (bytes_eq m) ms) && b)) (more_seen old new name ms h)

-- a name that wasn't seen is put to those that were
pub one_seen : {Y : Type 0} (old new : BTreeSet (String Y)) (key : String Y) (name : List ℕ) (names : List (List ℕ)) (added : Bool) → string_bytes key ≡ encode_utf8_all name
    → added ≡ true → added ≡ not (contains string_cmp old key) → Updates string_cmp old new key true → are_new old (name ∷ names) ≡ are_new new names
one_seen old new key name names added e so is h =
    let absent : contains_text old (encode_utf8_all name) ≡ false = ap (contains_text old) (sym e) ∙ unseen (contains string_cmp old key) (sym is ∙ so) in
    ap (λ (b : Bool). not b && (not (list_any (bytes_eq name) names) && are_new old names)) absent
    ∙ more_seen old new name names (λ cs. btree_set_updates_text (string_bytes key) old new true h cs ∙ ap (λ (bs : List ℕ). cond (bytes_eq bs cs) true (contains_text old cs)) e)
