-- A text that is no id names nothing: no record, and no principal.
use Rattle.std.proofs.Common.{◌≡◌, ◌∙◌, ℕ, Bool, true, false, not, cond, IsTrue, List, [], ◌∷◌, codes, Option, Some, None, refl, sym, ap, subst, bytes_eq, unwrap_or}
use Rattle.std.specs.List.{AllByRecursion}
use Rattle.std.specs.Prelude.{is_some}
use Rattle.std.proofs.lemmas.Slice.Eq.{bytes_eq-Decides}
use Rattle.record_read.proofs.RecordFits.{record_is_id}
use Rattle.record_read.proofs.Standing.{found_id}
use Rattle.model.specs.declared.people_bodies.PrincipalKind.{PrincipalKind}
use Rattle.model.specs.declared.people_bodies.PrincipalKind.TheVariants as kind
use Rattle.model.specs.declared.record.Record.{Record}
use Rattle.model.specs.declared.refusal.Refusal.{Refusal}
use Rattle.model.specs.declared.refusal.Refusal.TheVariants.{InvalidReference}
use Rattle.model.specs.declared.people_bodies.Spelled.{Spelled}
use Rattle.model.specs.Known.{group_id, known, role_id}
use Rattle.model.specs.Objects.{record_at}
use Rattle.model.specs.Principals.{is_there, kind_of, not_there, principal_of}
use Rattle.model.specs.Rules.{refuse_if}
use Rattle.model.specs.Sound.{IsSound}
use Rattle.model.specs.SoundPeople.{IsSoundGroup, IsSoundRole, IsSoundUser}
use Rattle.model.specs.Tenant.{Tenant}
use Rattle.model.specs.World.{group_prefix, having_id, role_prefix, user_id, user_prefix}
use Rattle.store_abstraction.proofs.Names.{MakesIds, drawn_is_id}
use Rattle.base_value.specs.Id.{id_in, is_id}

-- no id is empty
none_at : {X : Type 0} (id : X → List ℕ) (P : X → Type 0) → ((x : X) → P x → IsTrue (is_id (id x))) → (xs : List X) → AllByRecursion P xs → having_id id xs [] ≡ None
none_at id P each [] all = refl
none_at {X = X} id P each (x ∷ xs) all = by (none_at id P each xs all.1) (bytes_eq [] (id x)) refl
  where
    by : having_id id xs [] ≡ None → (b : Bool) → bytes_eq [] (id x) ≡ b → cond b (Some x) (having_id id xs []) ≡ None
    by rest false e = rest
    by rest true e =
        let empty : IsTrue (is_id []) = subst (λ (i : List ℕ). IsTrue (is_id i)) (sym ((bytes_eq-Decides [] (id x)).0 e)) (each x all.0) in
        absurd cc

module _ (makes : MakesIds) (t : Tenant) (sound : IsSound t) where
  -- no record has an empty id
  pub no_record : record_at t [] ≡ None
  no_record = by (record_at t []) refl
    where
      by : (x : Option Record) → record_at t [] ≡ x → x ≡ None
      by None e = refl
      by (Some r) e =
          let (same, has) = found_id t.records [] r e in
          let empty : IsTrue (is_id []) = subst (λ (i : List ℕ). IsTrue (is_id i)) same (record_is_id makes t r sound has) in
          absurd cc

  no_principal : (k : PrincipalKind) → is_there t (kind_of k []) ≡ false
  no_principal kind.User = ap is_some (none_at user_id (IsSoundUser (known t)) (λ u s. drawn_is_id makes user_prefix t.counter u.id refl refl s.id) t.users sound.users.each)
  no_principal kind.Role = ap is_some (none_at role_id (IsSoundRole (known t)) (λ r s. drawn_is_id makes role_prefix t.counter r.id refl refl s.id) t.roles sound.roles.each)
  no_principal kind.Subordinates = ap is_some (none_at role_id (IsSoundRole (known t)) (λ r s. drawn_is_id makes role_prefix t.counter r.id refl refl s.id) t.roles sound.roles.each)
  no_principal kind.Group = ap is_some (none_at group_id (IsSoundGroup (known t)) (λ g s. drawn_is_id makes group_prefix t.counter g.id refl refl s.id) t.groups sound.groups.each)

  -- a principal whose text is no id isn't there
  pub unspelled_refused : (p : Spelled) (r : Refusal) → id_in p.text ≡ None → r ≡ InvalidReference (codes "to") → not_there t (codes "to") (principal_of p) ≡ Some r
  unspelled_refused p r none is =
      ap (λ (o : Option (List ℕ)). not_there t (codes "to") (kind_of p.kind (unwrap_or o []))) none
      ∙ ap (λ (b : Bool). refuse_if (not b) (InvalidReference (codes "to"))) (no_principal p.kind)
      ∙ ap Some (sym is)
