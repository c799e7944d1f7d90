-- What is read at a user's key is that user of the organisation.
use Rattle.std.proofs.Common.{◌≡◌, ℕ, ◌^◌, ◌<◌, IsTrue, List, Option, Some, None, refl, ap}
use Rattle.std.specs.Prelude.{Result}
use Rattle.std.specs.Option.{option_and_then, option_map}
use Rattle.std.specs.FinMap as map
use Rattle.std.specs.FinMap.{IsAntisymmetric}
use Rattle.base_lemmas.proofs.Options.{option_map-compose as map_twice}
use Rattle.base_value.specs.Id.{is_id}
use Rattle.store_kv.specs.Tables.{Tables, place_cmp}
use Rattle.store_rows.specs.declared.fail.StoreFail.{StoreFail}
use Rattle.store_rows.specs.declared.user.UserRow.{UserRow}
use Rattle.store_rows.specs.Forms.{row_bytes}
use Rattle.store_rows.specs.Keys.{User, spell}
use Rattle.store_rows.specs.Reads.{MayStandAt, ReadsAs}
use Rattle.store_rows.specs.Rows.{user_form}
use Rattle.model.specs.Known.{known}
use Rattle.model.specs.Sound.{IsSound}
use Rattle.model.specs.SoundPeople.{IsSoundUser}
use Rattle.model.specs.Tenant as model
use Rattle.model.specs.Tenant.{Tenant}
use Rattle.model.specs.World.{user_at, user_id, users_in, user_prefix}
use Rattle.store_abstraction.specs.Local.{FindsIn}
use Rattle.store_abstraction.specs.Metadata.{user_of}
use Rattle.store_abstraction.specs.Plan.{OrgPlan}
use Rattle.store_abstraction.specs.Stands.{row_in}
use Rattle.store_abstraction.proofs.Found.{FindsRow, IsRowOf, found_same, found_with_id, row_finds, row_in_org}
use Rattle.store_abstraction.proofs.Names.{MakesIds, NamesAreShort, NamesAreTexts, drawn_is_id, name_fits, role_is_id}
use Rattle.store_abstraction.proofs.Places.{PrefixLaws}

-- the row of a user, if there is one
abbrev pub user_there : ℕ → List ℕ → OrgPlan → Tenant → Option UserRow
user_there org i p t = option_map (user_of org) (user_at t.users i)

user_rows_are : (org : ℕ) (i : List ℕ) (p : OrgPlan) (t : Tenant) → row_in p t (User org i) ≡ option_map (row_bytes user_form) (user_there org i p t)
unfolding row_in
user_rows_are org i p t = map_twice (row_bytes user_form) (user_of org) (user_at t.users i)

module _ (makes : MakesIds) (texts : NamesAreTexts) (short : NamesAreShort) where
  user_may : (org : ℕ) (i : List ℕ) (t : Tenant) → org < 2 ^ 32 → IsSound t → (o : Option model.User) → user_at t.users i ≡ o → MayStandAt user_form (org, (tt, i)) (option_map (user_of org) o)
  user_may org i t lo st None e = tt
  user_may org i t lo st (Some u) e =
      let su = found_with_id user_id (IsSoundUser (known t)) t.users i u st.users.each e in (
        ap (λ (j : List ℕ). (org, (tt, j))) su.0,
        (
          (lo, (tt, drawn_is_id makes user_prefix t.counter u.id refl refl su.1.id)),
          (name_fits texts short u.name su.1.name, (su.1.digest, (role_is_id makes (known t) t.roles st.roles.each u.role su.1.role, refl))),
        ),
      )

  pub user_is_row : (org : ℕ) (i : List ℕ) → org < 2 ^ 32 → IsTrue (is_id i) → IsRowOf user_form org (org, (tt, i)) (user_there org i)
  user_is_row org i lo id = record {
    owned = refl;
    fits = (lo, (tt, id));
    rows = user_rows_are org i;
    stands = λ p t s f. user_may org i t lo s (user_at t.users i) refl;
  }

-- what is read at a user's key is that user
pub user_finds : PrefixLaws → IsAntisymmetric place_cmp → FindsRow user_form → MakesIds → NamesAreTexts → NamesAreShort → (m : Tables) (org : ℕ) (i : List ℕ) → org < 2 ^ 32 → IsTrue (is_id i)
    → (r : Result (Option UserRow) StoreFail) → ReadsAs user_form (org, (tt, i)) (map.get m (spell (User org i))) r → FindsIn org (λ q t. option_map (user_of org) (user_at (users_in t) i)) m r
user_finds laws exact finds makes texts short m org i lo id r e =
    found_same org (row_in_org (user_there org i)) (λ q t. option_map (user_of org) (user_at (users_in t) i)) m r same
    (row_finds laws exact user_form org lo (org, (tt, i)) (user_there org i) (user_is_row makes texts short org i lo id) finds m r e)
  where
    same : (q : OrgPlan) (t : Option Tenant) → option_and_then (user_there org i q) t ≡ option_map (user_of org) (user_at (users_in t) i)
    same q None = refl
    same q (Some t) = refl
