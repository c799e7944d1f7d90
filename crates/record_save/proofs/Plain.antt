-- A key of a field of the layout is plain.
use Rattle.std.proofs.Common.{◌≡◌, Bor, Some, subst, IsTrue, List}
use Rattle.std.proofs.lemmas.Option.{same_Some as some_is}
use Rattle.record_input.specs.Given.{IsPlain, has_key_type}
use Rattle.record_input.specs.declared.found.Found.{Found}
use Rattle.record_input.specs.declared.key.UpsertKey.{UpsertKey}
use Rattle.model.specs.declared.record_bodies.Assignment.{Assignment}

pub plain_with : (body : Bor (List Assignment)) (found : Bor (List Found)) (k : UpsertKey) → IsTrue (has_key_type k) → IsPlain (record { body = body; key = Some k; found = found })
plain_with body found k kind = record { key = λ other e. subst (λ (x : UpsertKey). IsTrue (has_key_type x)) (some_is k other e) kind }
