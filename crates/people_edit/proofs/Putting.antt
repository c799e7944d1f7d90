-- Keys of people beside those of the changes.
use Rattle.std.proofs.Common.{◌≡◌, ℕ, Bool, false, eqb, List, Some, refl, bytes_eq}
use Rattle.base_lemmas.proofs.Bools.{and_second_false as both_false}
use Rattle.base_lemmas.proofs.Options.{eqb-same_Some as own_number}
use Rattle.people_rows.specs.Roster.{is_group_key, is_role_key, is_user_key}
use Rattle.store_abstraction.specs.Stands.{org_of_key}
use Rattle.store_rows.specs.Keys as key
use Rattle.store_rows.specs.Keys.{Key, key_eq}

pub other_user : (org : ℕ) (i : List ℕ) (k : Key) → org_of_key k ≡ Some org → key_eq k (key.User org i) ≡ false → is_user_key i k ≡ false
other_user org i (key.User m j) of e = both_false (eqb m org) (bytes_eq j i) (own_number m org of) e
other_user org i k of e = refl

pub other_role : (org : ℕ) (i : List ℕ) (k : Key) → org_of_key k ≡ Some org → key_eq k (key.Role org i) ≡ false → is_role_key i k ≡ false
other_role org i (key.Role m j) of e = both_false (eqb m org) (bytes_eq j i) (own_number m org of) e
other_role org i k of e = refl

pub other_group : (org : ℕ) (i : List ℕ) (k : Key) → org_of_key k ≡ Some org → key_eq k (key.Group org i) ≡ false → is_group_key i k ≡ false
other_group org i (key.Group m j) of e = both_false (eqb m org) (bytes_eq j i) (own_number m org of) e
other_group org i k of e = refl
