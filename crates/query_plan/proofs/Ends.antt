-- Where paths end: the field, and the record whose value it is.
use Rattle.std.proofs.Common.{◌≡◌, ℕ, cond, List, [], ◌∷◌, ◌++◌, Option, Some, None, refl, sym, ap, subst, ◌∙◌}
use Rattle.std.specs.Option.{option_and_then, option_map}
use Rattle.base_lemmas.proofs.Bools.{by_answer as pick}
use Rattle.std.proofs.lemmas.Option.{same_Some as some_is}
use Rattle.model.specs.declared.record.Record.{Record}
use Rattle.model.specs.Asking.{path_column}
use Rattle.model.specs.Cases.{in_case}
use Rattle.model.specs.Fields.{Column, column_named}
use Rattle.model.specs.Levels.{can_read}
use Rattle.model.specs.Membership.{Has}
use Rattle.model.specs.Objects.{object_number, object_numbered, object_of_record}
use Rattle.model.specs.Paths.{Asked, field_value, if_readable, parent_of, path_value}
use Rattle.model.specs.Relationships.{Reference, named_record, parent_named}
use Rattle.model.specs.Sound.{IsSound}
use Rattle.model.specs.Tenant.{Object, Tenant}
use Rattle.base_value.specs.declared.value.Value.{Value}
use Rattle.base_value.specs.declared.value.Value.TheVariants as value
use Rattle.query_plan.specs.declared.paths.parents.ParentStep.{ParentStep}
use Rattle.query_plan.specs.paths.Ways.{led_to, parent_step, path_end}
use Rattle.query_plan.proofs.Owned.{parent_has}
use Rattle.query_plan.proofs.Sound.{Names, object_there, reference_names}

-- steps, and the object at their end
abbrev pub End : Type 0
End = List ParentStep × ℕ

abbrev pub with_first : ParentStep → End → End
with_first s e = (s ∷ e.0, e.1)

-- ---- the field

module _ (t : Tenant) (name : List ℕ) where
  abbrev column_at : ℕ → Option Column
  column_at n = option_and_then (λ o. column_named o name) (object_numbered t n)

  -- the first step of a path
  step_column : (n : ℕ) (x : List ℕ) (names : List (List ℕ)) → path_column t n (x ∷ names ++ name ∷ []) ≡ in_case (parent_named t n x) None (λ f. path_column t f.target (names ++ name ∷ []))
  step_column n x [] = refl
  step_column n x (y ∷ names) = refl

  behind : (s : ParentStep) (e : Option End) → in_case e None (λ e. column_at e.1) ≡ in_case (option_map (with_first s) e) None (λ e. column_at e.1)
  behind s None = refl
  behind s (Some e) = refl

  pub end_column : (n : ℕ) (names : List (List ℕ)) → path_column t n (names ++ name ∷ []) ≡ in_case (path_end t n names) None (λ e. column_at e.1)
  end_column n [] = refl
  end_column n (x ∷ names) = step_column n x names ∙ by (parent_named t n x) (λ m. end_column m names)
    where
      by : (f : Option Reference) → ((m : ℕ) → path_column t m (names ++ name ∷ []) ≡ in_case (path_end t m names) None (λ e. column_at e.1))
          → in_case f None (λ f. path_column t f.target (names ++ name ∷ []))
          ≡ in_case (in_case f None (λ f. option_map (with_first (parent_step f)) (path_end t f.target names))) None (λ e. column_at e.1)
      by None more = refl
      by (Some f) more = more f.target ∙ behind (parent_step f) (path_end t f.target names)

-- ---- the record

module _ (a : Asked) (sound : IsSound a.tenant) (name : List ℕ) where
  abbrev value_at_end : Option Record → Value
  value_at_end o = in_case o value.Null (λ p. field_value a.tenant p name)

  -- a record's value by a path is that of the record to which these steps lead, which is of the object at their end
  pub record EndsAt (r : Record) (names : List (List ℕ)) (e : End) : Type 0 where
    pub value : path_value a r (names ++ name ∷ []) ≡ value_at_end (led_to a e.0 r)
    pub number : (p : Record) → led_to a e.0 r ≡ Some p → Has a.tenant.records p × (object_number p.id ≡ e.1)

  -- its value by the rest of a path
  abbrev of_parent : List (List ℕ) → Option Record → Value
  of_parent names o = in_case o value.Null (λ s. path_value a s (names ++ name ∷ []))

  step_value : (r : Record) (x : List ℕ) (names : List (List ℕ)) → path_value a r (x ∷ names ++ name ∷ []) ≡ of_parent names (parent_of a r x)
  step_value r x [] = refl
  step_value r x (y ∷ names) = refl

  -- what may be read is the record itself
  readable_is : (o : Option Record) (s : Record) → option_and_then (if_readable a) o ≡ Some s → o ≡ Some s
  readable_is None s e = absurd cc
  readable_is (Some r) s e =
      pick (can_read a.tenant a.user r) (λ b. cond b (Some r) None ≡ Some s → ◌≡◌ {A = Option Record} (Some r) (Some s)) (λ _ some. some) (λ _ none. absurd cc) e

  stepped : (r : Record) (x : List ℕ) (names : List (List ℕ)) (f : Reference) (e : End) → Names a.tenant r f → parent_named a.tenant (object_number r.id) x ≡ Some f
      → ((s : Record) → Has a.tenant.records s → object_number s.id ≡ f.target → EndsAt s names e) → EndsAt r (x ∷ names) (with_first (parent_step f) e)
  stepped r x names f e named is more = by (option_and_then (if_readable a) (named_record a.tenant f r)) refl
    where
      parent : (o : Option Record) → option_and_then (if_readable a) (named_record a.tenant f r) ≡ o → path_value a r (x ∷ names ++ name ∷ []) ≡ of_parent names o
      parent o e =
          step_value r x names
          ∙ ap (λ (g : Option Reference). of_parent names (option_and_then (if_readable a) (option_and_then (λ f. named_record a.tenant f r) g))) is
          ∙ ap (of_parent names) e

      led : (o : Option Record) → option_and_then (if_readable a) (named_record a.tenant f r) ≡ o → led_to a (parent_step f ∷ e.0) r ≡ option_and_then (led_to a e.0) o
      led o g = ap (λ (p : Option Record). option_and_then (led_to a e.0) (option_and_then (if_readable a) p)) (sym named.same) ∙ ap (option_and_then (led_to a e.0)) g

      by : (o : Option Record) → option_and_then (if_readable a) (named_record a.tenant f r) ≡ o → EndsAt r (x ∷ names) (with_first (parent_step f) e)
      by None none =
          record {
            value = parent None none ∙ sym (ap value_at_end (led None none));
            number = λ p some. absurd (clash p (sym (led None none) ∙ some));
          }
        where
          clash : (p : Record) → ◌≡◌ {A = Option Record} None (Some p) → ⊥
          clash p e = cc
      by (Some s) some =
          let there = named.there s (readable_is (named_record a.tenant f r) s some) in
          let rest = more s there.0 there.1 in
          record {
            value = parent (Some s) some ∙ rest.value ∙ sym (ap value_at_end (led (Some s) some));
            number = λ p at. rest.number p (sym (led (Some s) some) ∙ at);
          }

  pub ends_at : (names : List (List ℕ)) (r : Record) (e : End) → Has a.tenant.records r → path_end a.tenant (object_number r.id) names ≡ Some e → EndsAt r names e
  ends_at [] r e has at = subst (EndsAt r []) (some_is _ e at) (record { value = refl; number = λ p same. subst (λ (q : Record). Has a.tenant.records q × (object_number q.id ≡ object_number r.id)) (some_is r p same) (has, refl) })
  ends_at (x ∷ names) r e has at = by_parent (parent_named a.tenant (object_number r.id) x) refl at (ends_at names)
    where
      object : (o : Object) × (object_of_record a.tenant r ≡ Some o)
      object = object_there a.tenant sound r has

      by_rest : (f : Reference) (rest : Option End) → parent_named a.tenant (object_number r.id) x ≡ Some f → path_end a.tenant f.target names ≡ rest → option_map (with_first (parent_step f)) rest ≡ Some e
          → ((s : Record) (e : End) → Has a.tenant.records s → path_end a.tenant (object_number s.id) names ≡ Some e → EndsAt s names e) → EndsAt r (x ∷ names) e
      by_rest f None is ends at more = absurd cc
      by_rest f (Some rest) is ends at more =
          subst (EndsAt r (x ∷ names)) (some_is (with_first (parent_step f) rest) e at)
          (stepped r x names f rest
          (reference_names a.tenant sound r object.0 f has object.1 (parent_has a.tenant (object_number r.id) object.0 x f object.1 is)) is
          (λ s there number. more s rest there (ap (λ (n : ℕ). path_end a.tenant n names) number ∙ ends)))

      by_parent : (f : Option Reference) → parent_named a.tenant (object_number r.id) x ≡ f → in_case f None (λ f. option_map (with_first (parent_step f)) (path_end a.tenant f.target names)) ≡ Some e
          → ((s : Record) (e : End) → Has a.tenant.records s → path_end a.tenant (object_number s.id) names ≡ Some e → EndsAt s names e) → EndsAt r (x ∷ names) e
      by_parent None is at more = absurd cc
      by_parent (Some f) is at more = by_rest f (path_end a.tenant f.target names) is refl at more
