-- The owner of a record of a sound organisation is one of its users.
use Rattle.std.proofs.Common.{◌≡◌, ◌∙◌, ℕ, Bool, true, false, ◌&&◌, not, cond, List, [], ◌∷◌, map, Option, Some, None, refl, sym, ap, subst, inl, inr, bytes_eq, IsTrue}
use Rattle.std.specs.Prelude.{Result, Ok, Err, IfOk, is_some}
use Rattle.std.specs.List.{AllByRecursion}
use Rattle.std.specs.Option.{option_and_then}
use Rattle.std.specs.declared.alloc.AllocError.{AllocError}
use Rattle.std.proofs.lemmas.Slice.Eq.{bytes_eq-Decides}
use Rattle.std.proofs.lemmas.Option.{same_Some as some_is}
use Rattle.base_value.specs.declared.sharing.Level.{Level}
use Rattle.base_value.specs.declared.sharing.Level.TheVariants.{Nothing}
use Rattle.access_closure.specs.declared.reading.Sharer.{Sharer}
use Rattle.access_closure.specs.Keyrings.{IsUserAmong}
use Rattle.model.specs.declared.record.Record.{Record}
use Rattle.model.specs.Cases.{in_case}
use Rattle.model.specs.Fields.{is_detail}
use Rattle.model.specs.Known.{known}
use Rattle.model.specs.Levels.{greatest}
use Rattle.model.specs.Membership.{Has}
use Rattle.model.specs.Sound.{IsSound}
use Rattle.model.specs.SoundRecords.{IsSoundRecord, is_sound_owner}
use Rattle.model.specs.Tenant.{Tenant, User}
use Rattle.model.specs.World.{user_at}
use Rattle.access_user.specs.declared.level.knowing.OwnerRule.{OwnerRule}
use Rattle.access_user.specs.level.Own.{IsSharerOf}
use Rattle.access_user.specs.level.inner.Parts.{by_owner_rule, rules_on_owner}

each : {X : Type 0} (P : X → Type 0) (xs : List X) (x : X) → AllByRecursion P xs → Has xs x → P x
each P [] x all has = absurd has
each P (y ∷ xs) x all (inl e) = subst P (sym e) all.0
each P (y ∷ xs) x all (inr has) = each P xs x all.1 has

-- a user that is found has the id
pub found : (us : List User) (i : List ℕ) (x : User) → user_at us i ≡ Some x → Has us x × (x.id ≡ i)
found [] i x e = absurd cc
found (y ∷ us) i x e = by (found us i x) (bytes_eq i y.id) refl e
  where
    by : (user_at us i ≡ Some x → Has us x × (x.id ≡ i)) → (b : Bool) → bytes_eq i y.id ≡ b → cond b (Some y) (user_at us i) ≡ Some x → Has (y ∷ us) x × (x.id ≡ i)
    by more true same e = let is : y ≡ x = some_is y x e in (inl (sym is), ap (λ (z : User). z.id) (sym is) ∙ sym ((bytes_eq-Decides i y.id).0 same))
    by more false other e = let rest = more e in (inr rest.0, rest.1)

there : (us : List User) (i : List ℕ) (d : Bool) → IsTrue (not d && is_some (user_at us i)) → (x : User) × (user_at us i ≡ Some x)
there us i true h = absurd cc
there us i false h = by (user_at us i) refl h
  where
    by : (o : Option User) → user_at us i ≡ o → IsTrue (is_some o) → (x : User) × (user_at us i ≡ Some x)
    by None is h = absurd cc
    by (Some x) is h = (x, is)

owner_there : (t : Tenant) (r : Record) (i : List ℕ) → IsSound t → Has t.records r → r.owner ≡ Some i → (x : User) × (user_at t.users i ≡ Some x)
owner_there t r i sound has e =
    let its : IsSoundRecord (known t) t.objects r = each (IsSoundRecord (known t) t.objects) t.records r sound.records.each has in
    there t.users i (is_detail its.object) (subst (λ (o : Option (List ℕ)). IsTrue (is_sound_owner (known t) its.object o)) e its.owner)

-- what is so by the id of an owner among the users is so of the record
abbrev OnOwner : Sharer → List OwnerRule → List ℕ → Level → Type 0
OnOwner s rules i level = (org : ℕ) (t : Tenant) (x : User) → IsUserAmong org t x s.people → x.id ≡ i → level ≡ greatest (map (by_owner_rule t x) rules)

abbrev OnRecord : Sharer → List OwnerRule → Record → Level → Type 0
OnRecord s rules r level = (org : ℕ) (t : Tenant) (u : User) → IsSharerOf org t u s → Has t.records r → level ≡ rules_on_owner t r rules

pub owner_rules_are : (s : Sharer) (rules : List OwnerRule) (r : Record) (i : List ℕ) → r.owner ≡ Some i → (result : Result Level AllocError)
    → IfOk result (OnOwner s rules i) → IfOk result (OnRecord s rules r)
owner_rules_are s rules r i e (Err fail) h = h
owner_rules_are s rules r i e (Ok level) h = λ org t u is has.
    let one = owner_there t r i is.sound has e in
    let its = found t.users i one.0 one.1 in
    h org t one.0 (record { rows = is.sharer.people; sound = is.sound; user = its.0 }) its.1
    ∙ sym (ap (λ (o : Option User). in_case o Nothing (λ x. greatest (map (by_owner_rule t x) rules))) (ap (option_and_then (user_at t.users)) e ∙ one.1))
