-- The rows of sharing rules fit their form, and what they name has ids.
use Rattle.std.proofs.Common.{◌≡◌, inl, inr, ℕ, ◌<◌, ◌≤◌, ◌^◌, true, false, not, IsTrue, List, [], ◌∷◌, length, Option, Some, None, refl, sym, subst, arith}
use Rattle.std.specs.Prelude.{nat_le, slice_get, is_some}
use Rattle.std.specs.List.{AllByRecursion, list_all}
use Rattle.std.specs.Str.{all_scalars}
use Rattle.std.proofs.lemmas.Bool.Decides.{nat_tests}
use Rattle.std.proofs.lemmas.Option.{slice_get_within}
use Rattle.std.proofs.lemmas.Bool.{and_parts as both}
use Rattle.base_value.specs.Id.{is_digit62, is_id}
use Rattle.base_value.specs.declared.job.RuleState.{RuleState}
use Rattle.base_value.specs.declared.sharing.Level.{Level}
use Rattle.base_value.specs.declared.sharing.Level.TheVariants as level
use Rattle.base_value.specs.declared.sharing.Principal.{Principal}
use Rattle.base_value.specs.declared.sharing.Principal.TheVariants as to
use Rattle.store_rows.specs.Forms.{FitsForm}
use Rattle.store_rows.specs.Rows.{sharing_form}
use Rattle.store_codec.specs.Choices.{Levels, is_spelled}
use Rattle.store_codec.specs.Composed.{FitsPrincipal, FitsSource}
use Rattle.store_codec.specs.Plain.{FitsText}
use Rattle.model.specs.Cases.{in_case}
use Rattle.model.specs.Fields.{is_detail}
use Rattle.model.specs.Known.{IsDrawn, group_id, known, knows, role_id}
use Rattle.model.specs.Membership.{Has}
use Rattle.model.specs.RuleFormulas.{is_rule_text}
use Rattle.model.specs.Sound.{IsSound}
use Rattle.model.specs.SoundPeople.{IsSoundGroup, IsSoundRole, IsSoundUser}
use Rattle.model.specs.SoundSharing.{IsSoundRule, is_grant, is_sound_source, is_whole, shareable}
use Rattle.model.specs.Tenant as model
use Rattle.model.specs.Tenant.{Tenant, meets, owned}
use Rattle.model.specs.World.{group_prefix, having_id, role_prefix, user_id, user_prefix}
use Rattle.store_abstraction.specs.Metadata.{sharing_of, source_part}
use Rattle.store_abstraction.proofs.Found.{found_with_id}
use Rattle.store_abstraction.proofs.Names.{MakesIds, drawn_is_id}
use Rattle.store_abstraction.proofs.Spelled.{cursor_is_id, short_fits, stem_bytes, stem_fits}

pub of_each : {X : Type 0} (P : X → Type 0) (xs : List X) → AllByRecursion P xs → (x : X) → Has xs x → P x
of_each P [] all x h = absurd h
of_each P (y ∷ xs) all x (inl e) = subst P (sym e) all.0
of_each P (y ∷ xs) all x (inr h) = of_each P xs all.1 x h

-- ---- principals

-- a thing that is found has an id
named_is_id : MakesIds → {X : Type 0} (id : X → List ℕ) (prefix : List ℕ) (counter : ℕ) (P : X → Type 0) (xs : List X) → length prefix ≡ 3 → IsTrue (list_all is_digit62 prefix) → ((x : X) → P x → IsDrawn prefix counter (id x)) → AllByRecursion P xs
    → (i : List ℕ) → IsTrue (is_some (having_id id xs i)) → IsTrue (is_id i)
named_is_id makes {X} id prefix counter P xs size digits drawn all i h = by (having_id id xs i) refl h
  where
    by : (o : Option X) → having_id id xs i ≡ o → IsTrue (is_some o) → IsTrue (is_id i)
    by None e h = absurd cc
    by (Some x) e h =
        let f = found_with_id id P xs i x all e in
        subst (λ (j : List ℕ). IsTrue (is_id j)) f.0 (drawn_is_id makes prefix counter (id x) size digits (drawn x f.1))

module _ (makes : MakesIds) (t : Tenant) (s : IsSound t) where
  pub principal_fits : (p : Principal) → IsTrue (knows (known t) p) → FitsPrincipal p
  principal_fits (to.User i) h = named_is_id makes user_id user_prefix t.counter (IsSoundUser (known t)) t.users refl refl (λ u x. x.id) s.users.each i h
  principal_fits (to.Role i) h = named_is_id makes role_id role_prefix t.counter (IsSoundRole (known t)) t.roles refl refl (λ u x. x.id) s.roles.each i h
  principal_fits (to.Subordinates i) h = named_is_id makes role_id role_prefix t.counter (IsSoundRole (known t)) t.roles refl refl (λ u x. x.id) s.roles.each i h
  principal_fits (to.Group i) h = named_is_id makes group_id group_prefix t.counter (IsSoundGroup (known t)) t.groups refl refl (λ u x. x.id) s.groups.each i h

-- ---- parts

level_fits : (l : Level) → IsTrue (is_grant l) → IsTrue (is_spelled Levels l)
level_fits level.Read h = refl
level_fits level.Edit h = refl
level_fits level.Nothing h = absurd cc
level_fits level.Full h = absurd cc

pub text_fits : (text : List ℕ) → is_rule_text text ≡ true → FitsText text
text_fits text h =
    let p = both (all_scalars text) (nat_le (length text) 4000) h in
    let few : nat_le (length text) 4000 ≡ true = p.1 in
    short_fits text (grind (arith, nat_tests)) p.0

object_below : (os : List model.Object) (n : ℕ) → length os ≤ 100 → IsTrue (shareable os n) → n < 2 ^ 16
object_below os n few h = by (slice_get os n) refl h
  where
    by : (o : Option model.Object) → slice_get os n ≡ o → IsTrue (in_case o false (λ o. not (is_detail o))) → n < 2 ^ 16
    by None e h = absurd cc
    by (Some o) e h = let there : n < length os = slice_get_within os n o e in omega (arith, there, few)

module _ (makes : MakesIds) (org : ℕ) (t : Tenant) (lo : org < 2 ^ 32) (s : IsSound t) where
  source_fits : (state : RuleState) (source : model.Source) → IsTrue (is_sound_source (known t) state source) → FitsSource (source_part source)
  source_fits state (owned p) h = principal_fits makes t s p (both (knows (known t) p) (is_whole state) h).0
  source_fits state (meets text) h = text_fits text h

  pub sharing_fits : (r : model.SharingRule) → Has t.sharing_rules r → FitsForm sharing_form (sharing_of org r)
  sharing_fits r has =
      let x = of_each (IsSoundRule (known t) t.objects t.rule_numbers) t.sharing_rules s.rules.each r has in
      let n = both (nat_le 1 r.number) (nat_le r.number t.rule_numbers) x.number in
      let upto : nat_le r.number t.rule_numbers ≡ true = n.1 in
      let below : r.number ≤ t.rule_numbers = grind (arith, nat_tests) in
      let few = s.rules.few_drawn in (
        (lo, (tt, stem_bytes r.name x.name)),
        (stem_fits r.name x.name, (object_below t.objects r.object s.metadata.few x.object, (omega (arith, below, few), (source_fits r.state r.source x.source, (principal_fits makes t s r.to x.to, (level_fits r.level x.level, (refl, cursor_is_id makes t.counter r.object r.cursor x.cursor))))))),
      )
