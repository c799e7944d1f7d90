-- The place to which a parent relationship leads from another place.
use Rattle.std.proofs.Common.{◌≡◌, ℕ, ◌<◌, Bool, true, false, cond, List, [], ◌∷◌, ◌++◌, filter, length, Option, Some, None, refl, sym, ap, subst, ◌∙◌, inl, inr, arith, length-append}
use Rattle.std.specs.Prelude.{slice_get}
use Rattle.std.specs.Option.{option_and_then}
use Rattle.std.proofs.lemmas.Bool.{eqb-true}
use Rattle.std.proofs.lemmas.Option.{slice_get_within}
use Rattle.base_lemmas.proofs.Numbers.{eqb-self as eqb_same}
use Rattle.base_lemmas.proofs.Bools.{by_answer as pick}
use Rattle.model.specs.declared.record.Record.{Record}
use Rattle.model.specs.Levels.{can_read}
use Rattle.model.specs.Membership.{Has}
use Rattle.model.specs.Objects.{is_of, object_number, object_numbered, object_of_record, records_of}
use Rattle.model.specs.Paths.{Asked, if_readable, parent_of}
use Rattle.model.specs.Relationships.{Reference, named_record, parent_named}
use Rattle.model.specs.Sound.{IsSound}
use Rattle.model.specs.Tenant.{Tenant}
use Rattle.store_abstraction.specs.Layouts.{IsLayout, own_layout}
use Rattle.store_abstraction.specs.Plan.{OrgPlan}
use Rattle.query_plan.specs.declared.paths.branches.Branch.{Branch}
use Rattle.query_plan.specs.declared.paths.branches.Place.{Place}
use Rattle.query_plan.specs.declared.paths.parents.ParentStep.{ParentStep}
use Rattle.query_plan.specs.paths.Branches.{AddsBranches, IsAmong, LeadsToParent, branch_records, record_above}
use Rattle.query_plan.specs.paths.Ways.{parent_step, record_to}
use Rattle.query_plan.proofs.Branching.{record_is, records_stay}
use Rattle.query_plan.proofs.ByLayout.{layout_is, read_is}
use Rattle.query_plan.proofs.Owned.{parent_has}
use Rattle.query_plan.proofs.Sound.{Names, reference_names}

-- ---- records of an object

kept : (p : Record → Bool) (rs : List Record) (r : Record) → Has (filter p rs) r → Has rs r × (p r ≡ true)
kept p [] r h = absurd h
kept p (x ∷ rs) r h = by (p x) refl h (λ h. kept p rs r h)
  where
    behind : Has rs r × (p r ≡ true) → Has (x ∷ rs) r × (p r ≡ true)
    behind k = (inr k.0, k.1)

    by : (b : Bool) → p x ≡ b → Has (cond b (x ∷ filter p rs) (filter p rs)) r → (Has (filter p rs) r → Has rs r × (p r ≡ true)) → Has (x ∷ rs) r × (p r ≡ true)
    by true is (inl e) more = (inl e, ap p e ∙ is)
    by true is (inr h) more = behind (more h)
    by false is h more = behind (more h)

filtered : (p : Record → Bool) (rs : List Record) (r : Record) → p r ≡ true → Has rs r → Has (filter p rs) r
filtered p [] r e h = absurd h
filtered p (x ∷ rs) r e (inl same) = subst (λ (b : Bool). Has (cond b (x ∷ filter p rs) (filter p rs)) r) (sym (ap p (sym same) ∙ e)) (inl same)
filtered p (x ∷ rs) r e (inr h) = by (p x) (filtered p rs r e h)
  where
    by : (b : Bool) → Has (filter p rs) r → Has (cond b (x ∷ filter p rs) (filter p rs)) r
    by true h = inr h
    by false h = h

of_object : (t : Tenant) (n : ℕ) (r : Record) → Has t.records r → object_number r.id ≡ n → Has (records_of t n) r
of_object t n r h e = filtered (is_of n) t.records r (ap (λ (m : ℕ). is_of m r) (sym e) ∙ eqb_same (object_number r.id)) h

-- ---- records of branches

-- what may be read is the record itself
readable_is : (a : Asked) (o : Option Record) (s : Record) → option_and_then (if_readable a) o ≡ Some s → o ≡ Some s
readable_is a None s e = absurd cc
readable_is a (Some r) s e =
    pick (can_read a.tenant a.user r) (λ b. cond b (Some r) None ≡ Some s → ◌≡◌ {A = Option Record} (Some r) (Some s)) (λ _ some. some) (λ _ none. absurd cc) e

more_among : (old new : List Branch) (at : Option ℕ) → AddsBranches old new → IsAmong old at → IsAmong new at
more_among old new None adds h = tt
more_among old new (Some n) adds h = subst (λ (bs : List Branch). n < length bs) (sym adds.behind) (omega (arith, h, length-append old adds.more))

abbrev to_parent : Asked → ParentStep → Record → Option Record
to_parent a s p = option_and_then (if_readable a) (record_to a.tenant s p)

-- the record of a branch that is there is one step on from the one from which it leads, whatever branches follow
next_record : (a : Asked) (r : Record) (old new more : List Branch) (at : Option ℕ) (n : ℕ) (s : ParentStep) → AddsBranches old new → IsAmong old at
    → slice_get new n ≡ Some (record { above = at; step = s })
    → record_above r (branch_records a r [] (new ++ more)) (Some n) ≡ option_and_then (to_parent a s) (record_above r (branch_records a r [] (new ++ more)) at)
next_record a r old new more at n s adds among there =
    records_stay a r new more (Some n) (slice_get_within new n (record { above = at; step = s }) there)
    ∙ record_is a r new n (record { above = at; step = s }) adds.order there
    ∙ ap (option_and_then (to_parent a s)) (sym (records_stay a r new more at (more_among old new at adds among)))

-- ---- parents

module _ (q : OrgPlan) (t : Tenant) (sound : IsSound t) (from : Place) (laid : IsLayout q t from.layout.now) (name : List ℕ) (f : Reference)
    (is : parent_named t from.layout.now.object name ≡ Some f) where
  abbrev object : ℕ
  object = from.layout.now.object

  numbered : (s : Record) → Has (records_of t object) s → object_number s.id ≡ object
  numbered s has = eqb-true (object_number s.id) object (kept (is_of object) t.records s has).1

  named : (s : Record) → Has (records_of t object) s → parent_named t (object_number s.id) name ≡ Some f
  named s has = ap (λ (n : ℕ). parent_named t n name) (numbered s has) ∙ is

  names : (s : Record) → Has (records_of t object) s → Names t s f
  names s has =
      let it = layout_is q t from.layout.now laid in
      let own : object_of_record t s ≡ Some it.object = ap (object_numbered t) (numbered s has) ∙ it.there in
      reference_names t sound s it.object f (kept (is_of object) t.records s has).0 own (parent_has t (object_number s.id) it.object name f own (named s has))

  -- a record's parent is the one that its reference names
  parent_named_by : (a : Asked) (s : Record) → a.tenant ≡ t → Has (records_of t object) s → parent_of a s name ≡ option_and_then (if_readable a) (named_record t f s)
  parent_named_by a s same has =
      ap (λ (u : Tenant). option_and_then (if_readable a) (option_and_then (λ f. named_record u f s) (parent_named u (object_number s.id) name))) same
      ∙ ap (λ (o : Option Reference). option_and_then (if_readable a) (option_and_then (λ f. named_record t f s) o)) (named s has)

  parent_found : (a : Asked) (s x : Record) → a.tenant ≡ t → Has (records_of t object) s → parent_of a s name ≡ Some x → Has (records_of t f.target) x
  parent_found a s x same has e =
      let it = (names s has).there x (readable_is a (named_record t f s) x (sym (parent_named_by a s same has) ∙ e)) in
      of_object t f.target x it.0 it.1

  parent_stepped : (a : Asked) (s : Record) → a.tenant ≡ t → Has (records_of t object) s → to_parent a (parent_step f) s ≡ parent_of a s name
  parent_stepped a s same has =
      ap (λ (u : Tenant). option_and_then (if_readable a) (record_to u (parent_step f) s)) same
      ∙ ap (option_and_then (if_readable a)) (sym (names s has).same)
      ∙ sym (parent_named_by a s same has)

  pub parent_place : (old new : List Branch) (n : ℕ) (p : Place) (step : ParentStep) (org : ℕ) → AddsBranches old new → IsAmong old from.branch
      → slice_get new n ≡ Some (record { above = from.branch; step = step }) → step ≡ parent_step f → p.branch ≡ Some n → own_layout org step.target q (Some t) ≡ Some p.layout.now
      → LeadsToParent q t from name new p
  parent_place old new n p step org adds among there same at read =
      let it = read_is org step.target q t p.layout.now read in
      let target : p.layout.now.object ≡ f.target = it.number ∙ ap (λ (x : ParentStep). x.target) same in
      let next = λ (a : Asked) (r : Record) (more : List Branch).
      ap (record_above r (branch_records a r [] (new ++ more))) at
      ∙ next_record a r old new more from.branch n step adds among there
      ∙ ap (λ (x : ParentStep). option_and_then (to_parent a x) (record_above r (branch_records a r [] (new ++ more)) from.branch)) same in
      record {
        reference = f;
        named = is;
        layout = it.layout;
        target = target;
        number = n;
        branch = at;
        among = subst (IsAmong new) (sym at) (slice_get_within new n (record { above = from.branch; step = step }) there);
        none = λ a r more _ e. next a r more ∙ ap (option_and_then (to_parent a (parent_step f))) e;
        parent = λ a r s more same e has. next a r more ∙ ap (option_and_then (to_parent a (parent_step f))) e ∙ parent_stepped a s same has;
        found = λ a s x same has e. subst (λ (m : ℕ). Has (records_of t m) x) (sym target) (parent_found a s x same has e);
      }
