-- Two keys are two places, and whether two keys are one is told by their parts.
use Rattle.std.proofs.Common.{◌≡◌, ℕ, zero, suc, true, IsTrue, List, Option, Some, None, refl, sym, ap, subst, ◌∙◌}
use Rattle.std.specs.Prelude.{nat_eq, slice_get, ◌==◌, ◌↔◌, if◌then◌else◌}
use Rattle.std.specs.Cmp.Lexicographic.{pointwise, bytes_decides}
use Rattle.std.specs.Option.{option_map}
use Rattle.std.proofs.lemmas.Bool.{eqb-true, and_parts as and_both}
use Rattle.std.proofs.lemmas.Option.{same_Some as some_is}
use Rattle.base_lemmas.proofs.Numbers.{eqb-self as same_number}
use Rattle.base_value.specs.declared.sharing.Principal.{Principal}
use Rattle.base_value.specs.declared.sharing.Principal.TheVariants as p
use Rattle.store_kv.specs.Tables.{Place}
use Rattle.store_codec.specs.Composed.{principal}
use Rattle.store_codec.specs.Plain.{whole, number32}
use Rattle.store_codec.specs.Shapes.{Shape, Nothing, Number8, Number16, Number32, Identity, Named, Ordered, Both, Val, spelled, FitsIn, taken}
use Rattle.store_rows.specs.Keys.{Key, Version, Org, Object, Field, Job, User, Role, Group, Validation, Sharing, Data, Index, Unique, Relation, Owner, Share, Grant, marked, record_key, slot_key, spelling, spell, FitsKey, key_eq}

-- what is spelled by a shape is read by it, as `store_codec` says
abbrev pub ReadsAgain : Type 0
ReadsAgain = (s : Shape) (v : Val s) → FitsIn s v → whole (taken s) (spelled s v) ≡ Some v

-- ---- a key is read from its place again

-- the key that stands at a place, if one does: read by its table, and by its fifth byte where a table has several forms
abbrev user_made : ℕ × (Unit {0} × List ℕ) → Key
user_made p = User p.0 p.1.1

abbrev role_made : ℕ × (Unit {0} × List ℕ) → Key
role_made p = Role p.0 p.1.1

abbrev group_made : ℕ × (Unit {0} × List ℕ) → Key
group_made p = Group p.0 p.1.1

abbrev person_at : Option ℕ → List ℕ → Option Key
person_at (Some zero) key = option_map user_made (whole (taken (marked 0 Identity)) key)
person_at (Some (suc zero)) key = option_map role_made (whole (taken (marked 1 Identity)) key)
person_at (Some (suc (suc zero))) key = option_map group_made (whole (taken (marked 2 Identity)) key)
person_at _ key = None

abbrev rule_at : Option ℕ → List ℕ → Option Key
rule_at (Some zero) key = option_map (λ p. Validation p.0 p.1.1.0 p.1.1.1) (whole (taken (marked 0 (Both Number16 Ordered))) key)
rule_at (Some (suc zero)) key = option_map (λ p. Sharing p.0 p.1.1) (whole (taken (marked 1 Ordered)) key)
rule_at _ key = None

abbrev grant_at : Option ℕ → List ℕ → Option Key
grant_at (Some zero) key = option_map (λ p. Share p.0 p.1.1.0 p.1.1.1) (whole (taken (marked 0 (Both Identity Named))) key)
grant_at (Some (suc zero)) key = option_map (λ p. Grant p.0 p.1.1.0 p.1.1.1.0 p.1.1.1.1.0 p.1.1.1.1.1) (whole (taken (marked 1 (Both Named (Both Number16 (Both Identity Number32))))) key)
grant_at _ key = None

abbrev key_at : ℕ → List ℕ → Option Key
key_at t key =
    if t == 0 then option_map (λ u. Version) (whole (taken Nothing) key) else
    if t == 1 then option_map Org (whole (taken Number32) key) else
    if t == 2 then option_map (λ p. Object p.0 p.1) (whole (taken (Both Number32 Number16)) key) else
    if t == 3 then option_map (λ p. Field p.0 p.1.0 p.1.1) (whole (taken (Both Number32 (Both Number16 Number8))) key) else
    if t == 4 then option_map Job (whole (taken Number32) key) else
    if t == 5 then person_at (slice_get key 4) key else
    if t == 6 then rule_at (slice_get key 4) key else
    if t == 7 then option_map (λ p. Data p.0 p.1.0 p.1.1) (whole (taken record_key) key) else
    if t == 8 then option_map (λ p. Index p.0 p.1.0 p.1.1.0 p.1.1.1.0 p.1.1.1.1) (whole (taken (slot_key (Both Ordered Identity))) key) else
    if t == 9 then option_map (λ p. Unique p.0 p.1.0 p.1.1.0 p.1.1.1) (whole (taken (slot_key Ordered)) key) else
    if t == 10 then option_map (λ p. Relation p.0 p.1.0 p.1.1.0 p.1.1.1.0 p.1.1.1.1) (whole (taken (slot_key (Both Identity Identity))) key) else
    if t == 11 then option_map (λ p. Owner p.0 p.1.0 p.1.1.0 p.1.1.1) (whole (taken (Both Number32 (Both Number16 (Both Identity Identity)))) key) else
    if t == 12 then grant_at (slice_get key 4) key else
    None

module _ (again : ReadsAgain) where
  pub key_again : (k : Key) → FitsKey k → key_at (spell k).0 (spell k).1 ≡ Some k
  unfolding number32
  key_again Version f = refl
  key_again (Org o) f = ap (option_map Org) (again Number32 o f)
  key_again (Object o n) f = ap (option_map (λ p. Object p.0 p.1)) (again (Both Number32 Number16) (o, n) f)
  key_again (Field o n s) f = ap (option_map (λ p. Field p.0 p.1.0 p.1.1)) (again (Both Number32 (Both Number16 Number8)) (o, (n, s)) f)
  key_again (Job o) f = ap (option_map Job) (again Number32 o f)
  key_again (User o i) f = ap (option_map (λ p. User p.0 p.1.1)) (again (spelling (User o i)).shape (o, (tt, i)) f)
  key_again (Role o i) f = ap (option_map (λ p. Role p.0 p.1.1)) (again (spelling (Role o i)).shape (o, (tt, i)) f)
  key_again (Group o i) f = ap (option_map (λ p. Group p.0 p.1.1)) (again (spelling (Group o i)).shape (o, (tt, i)) f)
  key_again (Validation o n r) f = ap (option_map (λ p. Validation p.0 p.1.1.0 p.1.1.1)) (again (spelling (Validation o n r)).shape (o, (tt, (n, r))) f)
  key_again (Sharing o r) f = ap (option_map (λ p. Sharing p.0 p.1.1)) (again (spelling (Sharing o r)).shape (o, (tt, r)) f)
  key_again (Data o n i) f = ap (option_map (λ p. Data p.0 p.1.0 p.1.1)) (again (spelling (Data o n i)).shape (o, (n, i)) f)
  key_again (Index o n s k i) f = ap (option_map (λ p. Index p.0 p.1.0 p.1.1.0 p.1.1.1.0 p.1.1.1.1)) (again (spelling (Index o n s k i)).shape (o, (n, (s, (k, i)))) f)
  key_again (Unique o n s k) f = ap (option_map (λ p. Unique p.0 p.1.0 p.1.1.0 p.1.1.1)) (again (spelling (Unique o n s k)).shape (o, (n, (s, k))) f)
  key_again (Relation o n s t i) f = ap (option_map (λ p. Relation p.0 p.1.0 p.1.1.0 p.1.1.1.0 p.1.1.1.1)) (again (spelling (Relation o n s t i)).shape (o, (n, (s, (t, i)))) f)
  key_again (Owner o n w i) f = ap (option_map (λ p. Owner p.0 p.1.0 p.1.1.0 p.1.1.1)) (again (spelling (Owner o n w i)).shape (o, (n, (w, i))) f)
  key_again (Share o i p) f = ap (option_map (λ p. Share p.0 p.1.1.0 p.1.1.1)) (again (spelling (Share o i p)).shape (o, (tt, (i, p))) f)
  key_again (Grant o p n i c) f = ap (option_map (λ p. Grant p.0 p.1.1.0 p.1.1.1.0 p.1.1.1.1.0 p.1.1.1.1.1)) (again (spelling (Grant o p n i c)).shape (o, (tt, (p, (n, (i, c))))) f)

  -- two keys are two places
  pub spell_same : (a b : Key) → FitsKey a → FitsKey b → spell a ≡ spell b → a ≡ b
  spell_same a b fa fb e = some_is a b (sym (key_again a fa) ∙ ap (λ (p : Place). key_at p.0 p.1) e ∙ key_again b fb)

-- ---- whether two keys are one

bytes : (i j : List ℕ) → pointwise nat_eq i j ≡ true → i ≡ j
bytes i j e = (bytes_decides i j).0 e

named : (a b : Principal) → principal a ≡ principal b → a ≡ b
named (p.User i) (p.User j) e = cc
named (p.User i) _ e = absurd cc
named (p.Role i) (p.Role j) e = cc
named (p.Role i) _ e = absurd cc
named (p.Subordinates i) (p.Subordinates j) e = cc
named (p.Subordinates i) _ e = absurd cc
named (p.Group i) (p.Group j) e = cc
named (p.Group i) _ e = absurd cc

pub key_eq_same : (a b : Key) → key_eq a b ≡ true → a ≡ b
key_eq_same Version Version e = refl
key_eq_same Version _ e = absurd cc
key_eq_same (Org a) (Org b) e = ap Org (eqb-true a b e)
key_eq_same (Org a) _ e = absurd cc
key_eq_same (Object a b) (Object c d) e = let h = and_both _ _ e in λ t. Object (eqb-true a c h.0 t) (eqb-true b d h.1 t)
key_eq_same (Object a b) _ e = absurd cc
key_eq_same (Field a b x) (Field c d y) e = let h = and_both _ _ e in let g = and_both _ _ h.1 in λ t. Field (eqb-true a c h.0 t) (eqb-true b d g.0 t) (eqb-true x y g.1 t)
key_eq_same (Field a b x) _ e = absurd cc
key_eq_same (Job a) (Job b) e = ap Job (eqb-true a b e)
key_eq_same (Job a) _ e = absurd cc
key_eq_same (User a i) (User b j) e = let h = and_both _ _ e in λ t. User (eqb-true a b h.0 t) (bytes i j h.1 t)
key_eq_same (User a i) _ e = absurd cc
key_eq_same (Role a i) (Role b j) e = let h = and_both _ _ e in λ t. Role (eqb-true a b h.0 t) (bytes i j h.1 t)
key_eq_same (Role a i) _ e = absurd cc
key_eq_same (Group a i) (Group b j) e = let h = and_both _ _ e in λ t. Group (eqb-true a b h.0 t) (bytes i j h.1 t)
key_eq_same (Group a i) _ e = absurd cc
key_eq_same (Validation a n i) (Validation b m j) e = let h = and_both _ _ e in let g = and_both _ _ h.1 in λ t. Validation (eqb-true a b h.0 t) (eqb-true n m g.0 t) (bytes i j g.1 t)
key_eq_same (Validation a n i) _ e = absurd cc
key_eq_same (Sharing a i) (Sharing b j) e = let h = and_both _ _ e in λ t. Sharing (eqb-true a b h.0 t) (bytes i j h.1 t)
key_eq_same (Sharing a i) _ e = absurd cc
key_eq_same (Data a n i) (Data b m j) e = let h = and_both _ _ e in let g = and_both _ _ h.1 in λ t. Data (eqb-true a b h.0 t) (eqb-true n m g.0 t) (bytes i j g.1 t)
key_eq_same (Data a n i) _ e = absurd cc
key_eq_same (Index a n s k i) (Index b m u l j) e = let h = and_both _ _ e in let g = and_both _ _ h.1 in let f = and_both _ _ g.1 in let d = and_both _ _ f.1 in λ t. Index (eqb-true a b h.0 t) (eqb-true n m g.0 t) (eqb-true s u f.0 t) (bytes k l d.0 t) (bytes i j d.1 t)
key_eq_same (Index a n s k i) _ e = absurd cc
key_eq_same (Unique a n s k) (Unique b m u l) e = let h = and_both _ _ e in let g = and_both _ _ h.1 in let f = and_both _ _ g.1 in λ t. Unique (eqb-true a b h.0 t) (eqb-true n m g.0 t) (eqb-true s u f.0 t) (bytes k l f.1 t)
key_eq_same (Unique a n s k) _ e = absurd cc
key_eq_same (Relation a n s k i) (Relation b m u l j) e = let h = and_both _ _ e in let g = and_both _ _ h.1 in let f = and_both _ _ g.1 in let d = and_both _ _ f.1 in λ t. Relation (eqb-true a b h.0 t) (eqb-true n m g.0 t) (eqb-true s u f.0 t) (bytes k l d.0 t) (bytes i j d.1 t)
key_eq_same (Relation a n s k i) _ e = absurd cc
key_eq_same (Owner a n k i) (Owner b m l j) e = let h = and_both _ _ e in let g = and_both _ _ h.1 in let f = and_both _ _ g.1 in λ t. Owner (eqb-true a b h.0 t) (eqb-true n m g.0 t) (bytes k l f.0 t) (bytes i j f.1 t)
key_eq_same (Owner a n k i) _ e = absurd cc
key_eq_same (Share a i x) (Share b j y) e = let h = and_both _ _ e in let g = and_both _ _ h.1 in λ t. Share (eqb-true a b h.0 t) (bytes i j g.0 t) (named x y (bytes (principal x) (principal y) g.1) t)
key_eq_same (Share a i x) _ e = absurd cc
key_eq_same (Grant a x n i c) (Grant b y m j d) e = let h = and_both _ _ e in let g = and_both _ _ h.1 in let f = and_both _ _ g.1 in let k = and_both _ _ f.1 in λ t. Grant (eqb-true a b h.0 t) (named x y (bytes (principal x) (principal y) g.0) t) (eqb-true n m f.0 t) (bytes i j k.0 t) (eqb-true c d k.1 t)
key_eq_same (Grant a x n i c) _ e = absurd cc

same_bytes : (i : List ℕ) → pointwise nat_eq i i ≡ true
same_bytes i = (bytes_decides i i).1 refl

pub key_eq_itself : (a : Key) → key_eq a a ≡ true
key_eq_itself Version = refl
key_eq_itself (Org a) = same_number a
key_eq_itself (Object a n) = rw (same_number a, same_number n) refl
key_eq_itself (Field a n f) = rw (same_number a, same_number n, same_number f) refl
key_eq_itself (Job a) = same_number a
key_eq_itself (User a i) = rw (same_number a, same_bytes i) refl
key_eq_itself (Role a i) = rw (same_number a, same_bytes i) refl
key_eq_itself (Group a i) = rw (same_number a, same_bytes i) refl
key_eq_itself (Validation a n r) = rw (same_number a, same_number n, same_bytes r) refl
key_eq_itself (Sharing a r) = rw (same_number a, same_bytes r) refl
key_eq_itself (Data a n i) = rw (same_number a, same_number n, same_bytes i) refl
key_eq_itself (Index a n s v i) = rw (same_number a, same_number n, same_number s, same_bytes v, same_bytes i) refl
key_eq_itself (Unique a n s v) = rw (same_number a, same_number n, same_number s, same_bytes v) refl
key_eq_itself (Relation a n s v i) = rw (same_number a, same_number n, same_number s, same_bytes v, same_bytes i) refl
key_eq_itself (Owner a n w i) = rw (same_number a, same_number n, same_bytes w, same_bytes i) refl
key_eq_itself (Share a i x) = rw (same_number a, same_bytes i, same_bytes (principal x)) refl
key_eq_itself (Grant a x n i c) = rw (same_number a, same_bytes (principal x), same_number n, same_bytes i, same_number c) refl

pub key_eq_decides : (a b : Key) → IsTrue (key_eq a b) ↔ (a ≡ b)
key_eq_decides a b = (key_eq_same a b, λ e. subst (λ (k : Key). key_eq a k ≡ true) e (key_eq_itself a))
