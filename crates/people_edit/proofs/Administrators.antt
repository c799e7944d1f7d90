-- Who administers once a user is changed: by the user's row as it was and as it is then, and by the rows of the others.
use Rattle.std.proofs.Common.{◌≡◌, ◌∙◌, ℕ, Bool, true, false, not, ◌&&◌, ◌||◌, cond, T, List, [], ◌∷◌, map, Some, refl, sym, ap, ap₂, subst, bytes_eq, nat_cmp}
use Rattle.std.specs.Prelude.{Option}
use Rattle.std.specs.declared.cmp.Ordering.TheVariants.{Less, Equal}
use Rattle.std.specs.declared.cmp.Ordering.{Ordering}
use Rattle.std.specs.Cmp.Lexicographic.{nat_list_cmp_total}
use Rattle.std.specs.Cmp.Lexicographic.{slice_cmp}
use Rattle.std.specs.FinMap.Entries.{below_all}
use Rattle.std.specs.List.{list_any}
use Rattle.std.specs.Ordering.{is_lt}
use Rattle.std.proofs.lemmas.Cmp.{tied_itself}
use Rattle.std.proofs.lemmas.Option.{same_Some as some_is}
use Rattle.std.proofs.lemmas.Slice.Eq.{bytes_eq-Decides}
use Rattle.base_lemmas.proofs.Bools.{T-and_first as first, T-and_second as second, by_answer as pick}
use Rattle.base_lemmas.proofs.Texts.{bytes_eq_false_sym}
use Rattle.base_lemmas.proofs.Orders.{less_from_T as is_less}
use Rattle.model.specs.declared.refusal.Refusal.TheVariants.{LastAdministrator}
use Rattle.model.specs.declared.people_bodies.UserChange.{UserChange}
use Rattle.model.specs.People.{changed, changed_user, no_administrator, users_with}
use Rattle.model.specs.Principals.{spelled_id}
use Rattle.model.specs.Rules.{refuse_if}
use Rattle.model.specs.SoundPeople.{administers, ids_rise}
use Rattle.model.specs.Tenant.{Tenant, User}
use Rattle.model.specs.World.{having_id, user_at, user_id}
use Rattle.store_abstraction.specs.Metadata.{user_of}
use Rattle.store_rows.specs.declared.user.UserRow.{UserRow}
use Rattle.people_edit.specs.inner.Changing.{IsRowAs, is_another, none_administers, row_administers, user_row_with}
use Rattle.people_edit.proofs.Changing.{having_its_id}

abbrev compare : List ℕ → List ℕ → Ordering
compare = slice_cmp nat_cmp

abbrev above : List ℕ → List User → Bool
above i us = below_all compare i (map (λ u. (user_id u, u)) us)

-- an id above this is another
other_id : (i j : List ℕ) → compare i j ≡ Less → bytes_eq j i ≡ false
other_id i j less = pick (bytes_eq j i) (λ b. b ≡ false) (λ same. absurd (by same)) (λ e. refl)
  where
    by : bytes_eq j i ≡ true → ⊥
    by same =
        let tied : compare i i ≡ Equal = tied_itself nat_list_cmp_total i in
        let lower : compare i i ≡ Less = ap (compare i) (sym ((bytes_eq-Decides j i).0 same)) ∙ less in
        cc

module _ (org : ℕ) (f : User → User) (i : List ℕ) where
  abbrev then : List User → Bool
  then us = list_any administers (changed user_id f i us)

  abbrev others : List User → Bool
  others us = list_any (is_another i) (map (user_of org) us)

  -- where all have ids above this, none is changed, and each is another
  rest_stays : (us : List User) → T (above i us) → then us ≡ others us
  rest_stays [] h = refl
  rest_stays (u ∷ us) h =
      by (bytes_eq u.id i) (other_id i u.id (is_less (compare i u.id) (first (is_lt (compare i u.id)) (above i us) h))) (rest_stays us (second (is_lt (compare i u.id)) (above i us) h))
    where
      by : (b : Bool) → b ≡ false → then us ≡ others us → (administers (cond b (f u) u) || then us) ≡ ((administers u && not b) || others us)
      by true e same = absurd cc
      by false e same = ap₂ (λ (x y : Bool). x || y) (keeps (administers u)) same
        where
          keeps : (x : Bool) → x ≡ (x && true)
          keeps true = refl
          keeps false = refl

  swaps : (x y z : Bool) → (x || (y || z)) ≡ (y || ((x && true) || z))
  swaps true true z = refl
  swaps true false z = refl
  swaps false true z = refl
  swaps false false z = refl

  without : (x z : Bool) → z ≡ ((x && false) || z)
  without true z = refl
  without false z = refl

  -- the one who is changed, and the others
  pub then_is : (us : List User) (u : User) → T (ids_rise user_id us) → having_id user_id us i ≡ Some u → then us ≡ (administers (f u) || others us)
  then_is [] u rise e = absurd cc
  then_is (x ∷ us) u rise e =
      pick (bytes_eq i x.id) (λ b. cond b (Some x) (having_id user_id us i) ≡ Some u → then (x ∷ us) ≡ (administers (f u) || others (x ∷ us)))
      (λ same h. here ((bytes_eq-Decides i x.id).0 same) (some_is x u h))
      (λ differ h. further (bytes_eq_false_sym i x.id differ) (then_is us u (second (above x.id us) (ids_rise user_id us) rise) h))
      e
    where
      here : i ≡ x.id → x ≡ u → then (x ∷ us) ≡ (administers (f u) || others (x ∷ us))
      here same is =
          let own : bytes_eq x.id i ≡ true = (bytes_eq-Decides x.id i).1 (sym same) in
          let rest : then us ≡ others us = rest_stays us (first (above i us) (ids_rise user_id us) (subst (λ (j : List ℕ). T (above j us && ids_rise user_id us)) (sym same) rise)) in
          ap (λ (b : Bool). administers (cond b (f x) x) || then us) own
          ∙ ap₂ (λ (v : User) (b : Bool). administers (f v) || b) is (rest ∙ without (administers x) (others us))
          ∙ ap (λ (b : Bool). administers (f u) || ((administers x && not b) || others us)) (sym own)

      further : bytes_eq x.id i ≡ false → then us ≡ (administers (f u) || others us) → then (x ∷ us) ≡ (administers (f u) || others (x ∷ us))
      further differ h =
          ap (λ (b : Bool). administers (cond b (f x) x) || then us) differ
          ∙ ap (λ (b : Bool). administers x || b) h
          ∙ swaps (administers x) (administers (f u)) (others us)
          ∙ ap (λ (b : Bool). administers (f u) || ((administers x && not b) || others us)) (sym differ)

-- a change that leaves the user as it is leaves who administers
now_is : (i : List ℕ) (us : List User) → list_any administers (changed user_id (λ u. u) i us) ≡ list_any administers us
now_is i [] = refl
now_is i (u ∷ us) = ap₂ (λ (v : User) (b : Bool). administers v || b) (itself (bytes_eq u.id i)) (now_is i us)
  where
    itself : (b : Bool) → cond b u u ≡ u
    itself true = refl
    itself false = refl

-- where somebody administers now, only the one who does and is changed can leave nobody who does
one_is : (before after others : Bool) → (before || others) ≡ true → (before && not (after || others)) ≡ not (after || others)
one_is true after others h = refl
one_is false true others h = refl
one_is false false true h = refl
one_is false false false h = absurd cc

-- the rule on it, by the user's row as it was and as it is then
pub same_rule : (org : ℕ) (t : Tenant) (user : List ℕ) (b : UserChange) (named : Option (List ℕ)) (row : UserRow) → T (ids_rise user_id t.users) → list_any administers t.users ≡ true
    → IsRowAs (user_of org) (user_at t.users (spelled_id user)) row
    → none_administers org t (row_administers row) (user_row_with b named row) ≡ no_administrator (users_with b user t.users)
same_rule org t user b named row rise administered is =
    let i = spelled_id user in
    let u = is.it in
    let others = list_any (is_another i) (map (user_of org) t.users) in
    let now : (administers u || others) ≡ true = sym (then_is org (λ v. v) i t.users u rise is.is_there) ∙ now_is i t.users ∙ administered in
    ap (λ (r : UserRow). none_administers org t (row_administers r) (user_row_with b named r)) is.is
    ∙ ap (λ (j : List ℕ). refuse_if (administers u && not (administers (changed_user b u) || list_any (is_another j) (map (user_of org) t.users))) LastAdministrator) (having_its_id user_id t.users i u is.is_there)
    ∙ ap (λ (x : Bool). refuse_if x LastAdministrator) (one_is (administers u) (administers (changed_user b u)) others now)
    ∙ ap (λ (x : Bool). refuse_if (not x) LastAdministrator) (sym (then_is org (changed_user b) i t.users u rise is.is_there))
