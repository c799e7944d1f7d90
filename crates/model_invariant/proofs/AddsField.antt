-- What a request for a new field leaves is sound.
use Rattle.std.proofs.Common.{◌≡◌, ℕ, ◌+◌, ◌<◌, Bool, true, false, not, ◌&&◌, ◌||◌, ◌==◌, cond, List, [], ◌∷◌, ◌++◌, map, length, Option, Some, None, refl, ap, sym, ◌∙◌, eq-eqb, arith, bytes_eq, codes, slice_get, nat_lt}
use Rattle.std.specs.List.{list_any}
use Rattle.std.proofs.lemmas.Bool.Decides.{nat_tests}
use Rattle.std.proofs.lemmas.Option.{slice_get_within}
use Rattle.std.proofs.lemmas.Bool.{not-true as not_so, and_from as both, not-false as holds_not}
use Rattle.base_lemmas.proofs.Bools.{and_first as both_left, and_second as both_right}
use Rattle.base_lemmas.proofs.Texts.{bytes_eq_false_sym as not_turned}
use Rattle.base_value.specs.Types.{is_reference, is_type, suits_indexed, suits_unique}
use Rattle.base_value.specs.declared.value.FieldType.{FieldType}
use Rattle.base_value.specs.declared.value.FieldType.TheVariants as type
use Rattle.base_value.specs.declared.value.OnDelete.{OnDelete}
use Rattle.base_value.specs.declared.value.OnDelete.TheVariants as on_delete
use Rattle.model.specs.declared.limit.Limit.TheVariants as limit
use Rattle.model.specs.declared.refusal.Refusal.TheVariants as refusal
use Rattle.model.specs.Cases.{in_case}
use Rattle.model.specs.Fields.{is_master, same_name}
use Rattle.model.specs.Names.{bad_name, is_child_name, is_custom_name, taken}
use Rattle.model.specs.declared.metadata_bodies.NewField.{NewField}
use Rattle.model.specs.declared.metadata_bodies.SpelledType.{SpelledType}
use Rattle.model.specs.declared.metadata_bodies.SpelledType.TheVariants.{Plain, LookupTo}
use Rattle.model.specs.NewFields.{add_field, child_taken, field_rules, is_before, name_taken, new_field, on_target, own_child, own_parent, parent_taken, with_field}
use Rattle.model.specs.Objects.{Numbered}
use Rattle.model.specs.Relationships.{parent_name, relationship_names, target_of}
use Rattle.model.specs.Rules.{MemberRules, refuse_if}
use Rattle.model_invariant.proofs.SoundParts.{HasSoundParts}
use Rattle.model.specs.SoundMetadata.{IsSoundField, implies, may_be_required}
use Rattle.model.specs.Tenant.{Field, Tenant}
use Rattle.model.specs.Verdict.{Verdict, accept, done, judged, on_object}
use Rattle.model.specs.TypeForms.{flags_suit}
use Rattle.model_invariant.specs.Fit.{has_member, is_fit_field}
use Rattle.model_invariant.proofs.Parts.{member_rule, none_refuses, unrefused}
use Rattle.model_invariant.proofs.Growing.{within_limit}
use Rattle.model_invariant.proofs.PeopleSound.{when_judged}
use Rattle.model_invariant.proofs.SharingSound.{when_object}
use Rattle.model_invariant.proofs.NewFieldsSound.{any_parts, field_added, name_turned}
use Rattle.model_invariant.proofs.SwitchSound.{plain_master, plain_target}

custom : (is_good : List ℕ → Bool) (name : List ℕ) → bad_name is_good name ≡ None → is_good name ≡ true
custom is_good name e = holds_not (is_good name) (unrefused (not (is_good name)) (refusal.InvalidName name) e)

untaken : (others : List (List ℕ)) (name : List ℕ) → taken others name ≡ None → list_any (same_name name) others ≡ false
untaken others name e = unrefused (list_any (same_name name) others) (refusal.NameTaken name) e

then_so : (a b : Bool) → implies a b ≡ true → a ≡ true → b ≡ true
then_so true b h e = h
then_so false b h e = absurd cc

-- of two members one is before the other
either_before : (members : List (List ℕ)) (x y : List ℕ) → has_member members x ≡ true → (is_before members x y || is_before members y x) ≡ true
either_before [] x y h = absurd cc
either_before (m ∷ members) x y h = by (bytes_eq m x) (bytes_eq m y) refl h (λ h. either_before members x y h)
  where
    by : (a b : Bool) → bytes_eq m x ≡ a → (bytes_eq x m || list_any (bytes_eq x) members) ≡ true → (list_any (bytes_eq x) members ≡ true → (is_before members x y || is_before members y x) ≡ true)
        → ((a || (not b && is_before members x y)) || (b || (not a && is_before members y x))) ≡ true
    by true b e h more = refl
    by false true e h more = refl
    by false false e h more = more (ap (λ z. z || list_any (bytes_eq x) members) (sym (not_turned m x e)) ∙ h)

one_of : (a : Bool) (x : List ℕ) (names : List (List ℕ)) → list_any (same_name x) (cond a names []) ≡ false → a ≡ true → list_any (same_name x) names ≡ false
one_of true x names e h = e
one_of false x names e h = absurd cc

module _ (t : Tenant) (s : HasSoundParts t) (o : Numbered) (at : slice_get t.objects o.number ≡ Some o.object) (b : NewField) (named : has_member b.members (codes "name") ≡ true) where
  -- the field's own name
  own_name : (target : Option ℕ) (kind : SpelledType) → name_taken t o target (record b { kind = kind }) ≡ None → list_any (same_name b.name) (map (λ (x : Field). x.name) o.object.fields) ≡ false
  own_name target kind e =
      untaken (map (λ (x : Field). x.name) o.object.fields) b.name
      (none_refuses (taken (map (λ (x : Field). x.name) o.object.fields) b.name ∷ in_case target None (parent_taken t o.number (record b { kind = kind })) ∷ []) e).0

  -- a field that is no reference
  plain_sound : (kind : FieldType) → is_reference kind ≡ false → is_type kind ≡ true → flags_suit (Plain kind) b.required b.unique b.indexed ≡ true
      → HasSoundParts (judged t (field_rules t o None (record b { kind = Plain kind })) (accept done (with_field o.number (new_field None (record b { kind = Plain kind })) t))).tenant
  plain_sound kind reference bounds flags =
      let b2 : NewField = record b { kind = Plain kind } in
      let f = new_field None b2 in
      when_judged HasSoundParts t (field_rules t o None b2) (accept done (with_field o.number f t)) s (λ h.
      let form = member_rule ((codes "name", bad_name is_custom_name b.name) ∷ (codes "type", None) ∷ []) b.members (codes "name") h.0 named in
      let free = member_rule ((codes "name", name_taken t o None b2) ∷ (codes "type", None) ∷ []) b.members (codes "name") h.1.0 named in
      let limits = none_refuses (refuse_if (nat_lt 40 (length o.object.fields + 1)) (refusal.LimitExceeded limit.FieldsPerObject) ∷ []) h.1.1.0 in
      let required = both_left (implies b.required (may_be_required kind)) (implies b.unique (suits_unique kind) && implies b.indexed (suits_indexed kind)) flags in
      let others = both_right (implies b.required (may_be_required kind)) (implies b.unique (suits_unique kind) && implies b.indexed (suits_indexed kind)) flags in
      let unique = both_left (implies b.unique (suits_unique kind)) (implies b.indexed (suits_indexed kind)) others in
      let no_target = plain_target kind reference in
      let sound_field : IsSoundField (length t.objects) f =
      record {
        name = custom is_custom_name b.name form;
        kind = bounds;
        target = ap (λ z. in_case z true (λ m. nat_lt m (length t.objects))) no_target;
        required = both (implies b.required (may_be_required kind)) (implies (is_master kind) b.required) required (ap (λ z. implies z b.required) (plain_master kind reference));
        unique = unique;
        indexed = both_right (implies b.unique (suits_unique kind)) (implies b.indexed (suits_indexed kind)) others;
        child = sym reference;
        child_name = refl;
      } in
      field_added t s o.number o.object at f (plain_master kind reference) sound_field (then_so b.unique (suits_unique kind) unique)
      (within_limit 40 (length o.object.fields + 1) (refusal.LimitExceeded limit.FieldsPerObject) limits.0)
      (own_name None (Plain kind) free)
      (record { parent = λ q e. absurd (no_some (target_of kind) q no_target e); child = λ q e. absurd (no_some (target_of kind) q no_target e) }))
    where
      no_some : (z : Option ℕ) (q : ℕ) → z ≡ None → z ≡ Some q → ⊥
      no_some None q e h = cc
      no_some (Some r) q e h = cc

  -- a lookup to an object that is there
  lookup_sound : (object : List ℕ) (d : OnDelete) (child : List ℕ) (q : Numbered) → slice_get t.objects q.number ≡ Some q.object → has_member b.members (codes "type") ≡ true
      → flags_suit (LookupTo object d child) b.required b.unique b.indexed ≡ true
      → HasSoundParts (judged t (field_rules t o (Some q.number) (record b { kind = LookupTo object d child })) (accept done (with_field o.number (new_field (Some q.number) (record b { kind = LookupTo object d child })) t))).tenant
  lookup_sound object d child q there typed flags =
      let b2 : NewField = record b { kind = LookupTo object d child } in
      let f = new_field (Some q.number) b2 in
      let n = o.number in
      when_judged HasSoundParts t (field_rules t o (Some q.number) b2) (accept done (with_field n f t)) s (λ h.
      let forms : MemberRules = (codes "name", bad_name is_custom_name b.name) ∷ (codes "type", bad_name is_child_name child) ∷ [] in
      let frees : MemberRules = (codes "name", name_taken t o (Some q.number) b2) ∷ (codes "type", child_taken t n b2 q.number) ∷ [] in
      let free = member_rule frees b.members (codes "name") h.1.0 named in
      let taken_parent = (none_refuses (taken (map (λ (x : Field). x.name) o.object.fields) b.name ∷ parent_taken t n b2 q.number ∷ []) free).1.0 in
      let parents = any_parts (same_name (parent_name b.name)) (relationship_names t.objects n) (own_child n q.number b2) (untaken (relationship_names t.objects n ++ own_child n q.number b2) (parent_name b.name) taken_parent) in
      let children = any_parts (same_name child) (relationship_names t.objects q.number) (own_parent n q.number b2) (untaken (relationship_names t.objects q.number ++ own_parent n q.number b2) child (member_rule frees b.members (codes "type") h.1.0 typed)) in
      let limits = none_refuses (refuse_if (nat_lt 40 (length o.object.fields + 1)) (refusal.LimitExceeded limit.FieldsPerObject) ∷ []) h.1.1.0 in
      let required = both_left (implies b.required (may_be_required (type.Lookup 0 d))) (implies b.unique false && implies b.indexed false) flags in
      let others = both_right (implies b.required (may_be_required (type.Lookup 0 d))) (implies b.unique false && implies b.indexed false) flags in
      let unique = both_left (implies b.unique false) (implies b.indexed false) others in
      let sound_field : IsSoundField (length t.objects) f =
      record {
        name = custom is_custom_name b.name (member_rule forms b.members (codes "name") h.0 named);
        kind = refl;
        target = within q.number (length t.objects) (slice_get_within t.objects q.number q.object there);
        required = both (implies b.required (may_be_required (type.Lookup q.number d))) (implies false b.required) (ap (λ z. implies b.required z) (whatever d) ∙ required) refl;
        unique = unique;
        indexed = both_right (implies b.unique false) (implies b.indexed false) others;
        child = refl;
        child_name = custom is_child_name child (member_rule forms b.members (codes "type") h.0 typed);
      } in
      field_added t s n o.object at f refl sound_field (then_so b.unique false unique)
      (within_limit 40 (length o.object.fields + 1) (refusal.LimitExceeded limit.FieldsPerObject) limits.0)
      (own_name (Some q.number) (LookupTo object d child) free)
      (record {
        parent = λ r e. parents.0;
        child = λ r e. (child, refl, ap (λ (k : ℕ). list_any (same_name child) (relationship_names t.objects k)) (sym (out q.number r e)) ∙ children.0, λ same. apart (same ∙ sym (out q.number r e)) parents.1 children.1);
      }))
    where
      out : (a r : ℕ) → Some a ≡ Some r → a ≡ r
      out a r e = ap (λ z. in_case z a (λ m. m)) e

      within : (a c : ℕ) → a < c → nat_lt a c ≡ true
      within a c h = grind (arith, nat_tests)

      whatever : (d : OnDelete) → may_be_required (type.Lookup q.number d) ≡ may_be_required (type.Lookup 0 d)
      whatever on_delete.Clear = refl
      whatever on_delete.Restrict = refl

      no_other : (a : Bool) → (a || false) ≡ false → a ≡ false
      no_other true e = absurd cc
      no_other false e = refl

      apart : o.number ≡ q.number → list_any (same_name (parent_name b.name)) (own_child o.number q.number (record b { kind = LookupTo object d child })) ≡ false
          → list_any (same_name child) (own_parent o.number q.number (record b { kind = LookupTo object d child })) ≡ false → same_name (parent_name b.name) child ≡ false
      apart same e g = by (is_before b.members (codes "name") (codes "type")) refl (either_before b.members (codes "name") (codes "type") named)
        where
          here_is : (o.number == q.number) ≡ true
          here_is = eq-eqb o.number q.number same

          by : (a : Bool) → is_before b.members (codes "name") (codes "type") ≡ a → (a || is_before b.members (codes "type") (codes "name")) ≡ true → same_name (parent_name b.name) child ≡ false
          by true w h =
              name_turned child (parent_name b.name) (no_other (same_name child (parent_name b.name)) (one_of ((o.number == q.number) && is_before b.members (codes "name") (codes "type")) child (parent_name b.name ∷ []) g
              (both (o.number == q.number) (is_before b.members (codes "name") (codes "type")) here_is w)))
          by false w h =
              no_other (same_name (parent_name b.name) child) (one_of ((o.number == q.number) && is_before b.members (codes "type") (codes "name")) (parent_name b.name) (child ∷ []) e
              (both (o.number == q.number) (is_before b.members (codes "type") (codes "name")) here_is h))

pub add_field_sound : (t : Tenant) (b : NewField) → is_fit_field b ≡ true → HasSoundParts t → HasSoundParts (add_field t b).tenant
add_field_sound t b fit s = by b.kind fit
  where
    verdict : SpelledType → Numbered → Verdict
    verdict kind o = on_target t kind (λ target. judged t (field_rules t o target (record b { kind = kind })) (accept done (with_field o.number (new_field target (record b { kind = kind })) t)))

    by : (kind : SpelledType) → is_fit_field (record b { kind = kind }) ≡ true
        → HasSoundParts (on_object t b.object (λ o. on_target t kind (λ target. judged t (field_rules t o target (record b { kind = kind })) (accept done (with_field o.number (new_field target (record b { kind = kind })) t))))).tenant
    by (Plain kind) fit =
        let named = both_left (has_member b.members (codes "name")) (not (is_reference kind) && (is_type kind && flags_suit (Plain kind) b.required b.unique b.indexed)) fit in
        let rest = both_right (has_member b.members (codes "name")) (not (is_reference kind) && (is_type kind && flags_suit (Plain kind) b.required b.unique b.indexed)) fit in
        let more = both_right (not (is_reference kind)) (is_type kind && flags_suit (Plain kind) b.required b.unique b.indexed) rest in
        when_object HasSoundParts t b.object (λ o. judged t (field_rules t o None (record b { kind = Plain kind })) (accept done (with_field o.number (new_field None (record b { kind = Plain kind })) t))) s (λ o at.
        plain_sound t s o at b named kind (not_so (is_reference kind) (both_left (not (is_reference kind)) (is_type kind && flags_suit (Plain kind) b.required b.unique b.indexed) rest))
        (both_left (is_type kind) (flags_suit (Plain kind) b.required b.unique b.indexed) more) (both_right (is_type kind) (flags_suit (Plain kind) b.required b.unique b.indexed) more))
    by (LookupTo object d child) fit =
        let b2 : NewField = record b { kind = LookupTo object d child } in
        let flags = flags_suit (LookupTo object d child) b.required b.unique b.indexed in
        let named = both_left (has_member b.members (codes "name")) (has_member b.members (codes "type") && (true && flags)) fit in
        let rest = both_right (has_member b.members (codes "name")) (has_member b.members (codes "type") && (true && flags)) fit in
        when_object HasSoundParts t b.object (λ o. on_object t object (λ q. judged t (field_rules t o (Some q.number) b2) (accept done (with_field o.number (new_field (Some q.number) b2) t)))) s (λ o at.
        when_object HasSoundParts t object (λ q. judged t (field_rules t o (Some q.number) b2) (accept done (with_field o.number (new_field (Some q.number) b2) t))) s (λ q there.
        lookup_sound t s o at b named object d child q there (both_left (has_member b.members (codes "type")) (true && flags) rest) (both_right (has_member b.members (codes "type")) (true && flags) rest)))
