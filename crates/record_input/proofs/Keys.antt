-- What is given with a key: it is looked for in the body first.
use Rattle.std.proofs.Common.{◌≡◌, ◌⊎◌, inl, inr, ℕ, true, List, [], ◌∷◌, Option, Some, None, Result, Ok, Err, MatchResult, refl, sym, ap, ◌∙◌}
use Rattle.std.specs.List.{find}
use Rattle.std.specs.Option.{option_map, option_or}
use Rattle.std.proofs.lemmas.List.Folds.{find-append}
use Rattle.base_value.specs.declared.value.Value.{Value}
use Rattle.model.specs.declared.record_bodies.Assignment.{Assignment}
use Rattle.model.specs.declared.record_bodies.Given.TheVariants as gives
use Rattle.model.specs.Edits.{given_to}
use Rattle.model.specs.Fields.{Column, same_name}
use Rattle.model.specs.Given.{read_given}
use Rattle.model.specs.Keys.{Key, with_key}
use Rattle.model.specs.Membership.{Has}
use Rattle.model.specs.Tenant.{Tenant}
use Rattle.record_input.specs.declared.unread.Unread.{Unread}
use Rattle.record_input.specs.declared.unread.Unread.TheVariants.{Refused, Memory}
use Rattle.record_input.specs.inner.Read.{Reads, ReadsGiven}

with_both : (key : Option Key) (given : List Assignment) (name : List ℕ) → find (λ x. same_name x.field name) (with_key key given)
    ≡ option_or (find (λ x. same_name x.field name) given) (find (λ x. same_name x.field name) (with_key key []))
with_both None given name = by (find (λ x. same_name x.field name) given)
  where
    by : (found : Option Assignment) → found ≡ option_or found None
    by None = refl
    by (Some x) = refl
with_both (Some k) given name = find-append (λ (x : Assignment). same_name x.field name) given (with_key (Some k) [])

-- what the body has is found there
pub found_first : (key : Option Key) (given : List Assignment) (name : List ℕ) (x : Assignment)
    → Some x ≡ find (λ y. same_name y.field name) given → Some x ≡ find (λ y. same_name y.field name) (with_key key given)
found_first key given name x is =
    sym (with_both key given name ∙ ap (λ (found : Option Assignment). option_or found (find (λ y. same_name y.field name) (with_key key []))) (sym is))

-- so what the body gives is read
pub first_given : (t : Tenant) (key : Option Key) (given : List Assignment) (c : Column) (x : Assignment) (r : Result Value Unread)
    → Some x ≡ find (λ y. same_name y.field c.name) given → Reads (read_given t c x.given) r → ReadsGiven (given_to t (with_key key given) c) (Some r)
first_given t key given c x r is reads =
    (read_given t c x.given, ap (option_map (λ (y : Assignment). read_given t c y.given)) (sym (found_first key given c.name x is)), reads)

-- else the key alone gives it
pub key_alone : (t : Tenant) (key : Option Key) (given : List Assignment) (c : Column)
    → None ≡ find (λ y. same_name y.field c.name) given → given_to t (with_key key given) c ≡ given_to t (with_key key []) c
key_alone t key given c none =
    ap (option_map (λ (y : Assignment). read_given t c y.given))
    (with_both key given c.name ∙ ap (λ (found : Option Assignment). option_or found (find (λ y. same_name y.field c.name) (with_key key []))) (sym none))

-- and it gives its value to the field with its name
pub key_gives : (t : Tenant) (key : Key) (c : Column) (r : Result Value Unread)
    → same_name key.column.name c.name ≡ true → MatchResult r (λ v. v ≡ key.value) (λ e. e ≡ Memory) → ReadsGiven (given_to t (with_key (Some key) []) c) (Some r)
key_gives t key c r same is = (Ok key.value, rw same refl, by r is)
  where
    by : (r : Result Value Unread) → MatchResult r (λ v. v ≡ key.value) (λ e. e ≡ Memory) → Reads (Ok key.value) r
    by (Ok v) is = ap (λ (x : Value). Ok x) (sym is)
    by (Err Memory) is = tt
    by (Err (Refused refusal)) is = absurd cc

-- what is given is in the body, or the key's value
pub by_body_or_key : (key : Option Key) (body : List Assignment) (x : Assignment) → Has (with_key key body) x → (Has body x) ⊎ ((v : Value) × (x.given ≡ gives.Read v))
by_body_or_key None body x has = inl has
by_body_or_key (Some k) [] x (inl is) = inr (k.value, ap (λ (y : Assignment). y.given) is)
by_body_or_key (Some k) [] x (inr has) = absurd has
by_body_or_key (Some k) (y ∷ body) x (inl is) = inl (inl is)
by_body_or_key (Some k) (y ∷ body) x (inr has) = elim (by_body_or_key (Some k) body x has) [ inl more ↦ inl (inr more) | inr value ↦ inr value ]
