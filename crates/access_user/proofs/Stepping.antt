-- What is read of an object's masters: one step, and then those above it.
use Rattle.std.proofs.Common.{◌≡◌, ℕ, suc, ◌+◌, ◌≤◌, List, ◌∷◌, add-one, Option, Some, None, refl, sym, ap, subst, ◌∙◌, arith}
use Rattle.std.specs.Prelude.{Result, Ok, Err}
use Rattle.store_kv.specs.Tables.{Tables}
use Rattle.store_rows.specs.declared.fail.StoreFail.{StoreFail}
use Rattle.store_rows.specs.declared.fail.StoreFail.TheVariants.{Damaged, Keeper, Memory}
use Rattle.model.specs.Cases.{in_case}
use Rattle.model.specs.Metadata.{masters_above}
use Rattle.model.specs.Relationships.{Reference, master_of_object}
use Rattle.model.specs.Objects.{object_numbered}
use Rattle.model.specs.Tenant.{Object, Tenant, User}
use Rattle.store_abstraction.specs.declared.layout.Layout.{Layout}
use Rattle.store_abstraction.specs.Layouts.{IsLayout, own_layout}
use Rattle.store_abstraction.specs.Local.{FindsIn, StandsIn}
use Rattle.store_abstraction.specs.Plan.{OrgPlan}
use Rattle.access_user.specs.declared.steps.MasterField.{MasterField}
use Rattle.access_user.specs.declared.steps.Step.{Step}
use Rattle.access_user.specs.inner.Steps.{Fact, Leads, LeadsIfAny, LeadsTo, TellsWhere, master_from, most_above, step_to}
use Rattle.access_user.proofs.Layouts.{none_is, read_is}
use Rattle.access_user.proofs.Masters.{first_there, target_there}

-- such rows are never damaged
abbrev pub FailsWhere : (org : ℕ) → Fact → Tables → StoreFail → Type 0
FailsWhere org A m e = TellsWhere {X = Unit {0}} org A (λ x q t u. Unit {0}) m (Err e)

-- what failed failed for whoever asked more of it
pub failed : (org other : ℕ) (A B : Fact) (m n : Tables) (e : StoreFail)
    → ((q : OrgPlan) (t : Tenant) (u : User) → StandsIn other q n (Some t) → B q t u → StandsIn org q m (Some t) × A q t u)
    → FailsWhere org A m e → FailsWhere other B n e
failed org other A B m n Damaged into h = λ q t u s b. let x = into q t u s b in h q t u x.0 x.1
failed org other A B m n Keeper into h = tt
failed org other A B m n Memory into h = tt

-- ---- one step

abbrev IsIts : Layout → Fact
IsIts l q t u = IsLayout q t l

abbrev LeadsFrom : Layout → Option Step → Fact
LeadsFrom l x q t u = LeadsIfAny q t l.org l.object x

module _ (m : Tables) (l : Layout) (x : MasterField) (some : Some x ≡ master_from 1 l.fields) where
  by_read : (r : Result (Option Layout) StoreFail) → FindsIn l.org (own_layout l.org x.target) m r → TellsWhere l.org (IsIts l) (LeadsFrom l) m (step_to x.position r)
  by_read (Ok (Some k)) h = λ q t u s is.
      let first = first_there q t l is x some in
      let read = read_is l.org x.target q t k (sym (h q (Some t) s)) in
      record { reference = first.reference; first = first.first; position = first.position; target = read.number ∙ first.target; own = read.its_org; layout = read.layout }
  by_read (Ok None) h = λ q t u s is.
      let first = first_there q t l is x some in
      target_there q t l is s.sound first.reference first.first (subst (λ (n : ℕ). object_numbered t n ≡ None) first.target (none_is l.org x.target q t (h q (Some t) s)))
  by_read (Err Damaged) h = λ q t u s is. h q (Some t) s
  by_read (Err Keeper) h = tt
  by_read (Err Memory) h = tt

  pub stepped : (r : Result (Option Layout) StoreFail) → FindsIn l.org (own_layout l.org x.target) m r → (out : Result (Option Step) StoreFail) → out ≡ step_to x.position r
      → TellsWhere l.org (IsIts l) (LeadsFrom l) m out
  stepped r h out is = subst (TellsWhere l.org (IsIts l) (LeadsFrom l) m) (sym is) (by_read r h)

-- ---- how many there are

-- no more than there may be
pub at_most : (most : ℕ) (l : Layout) → most_above most l ≤ most
at_most most l = by (master_from 1 l.fields)
  where
    by : (f : Option MasterField) → in_case f 0 (λ f. most) ≤ most
    by None = omega arith
    by (Some f) = omega arith

-- one more, where a field is a Master
pub one_more : (most less n : ℕ) (l : Layout) (s : Step) → less + 1 ≡ most → n ≤ less → (master_from 1 l.fields ≡ None → Some s ≡ None) → suc n ≤ most_above most l
one_more most less n l s e h none = by (master_from 1 l.fields) none
  where
    by : (f : Option MasterField) → (f ≡ None → Some s ≡ None) → suc n ≤ in_case f 0 (λ f. most)
    by None none = let no = none refl in absurd cc
    by (Some f) none = omega (arith, e, h)

-- ---- one step after another

deeper : (os : List Object) (n : ℕ) (f : Reference) (most less : ℕ) → less + 1 ≡ most → master_of_object os n ≡ Some f → masters_above (most + 1) os n ≤ most
    → masters_above (less + 1) os f.target ≤ less
deeper os n f most less e at h =
    let more : masters_above (most + 1) os n ≡ suc (masters_above most os f.target) =
    ap (λ (j : ℕ). masters_above j os n) (add-one most) ∙ ap (λ (o : Option Reference). in_case o 0 (λ f. suc (masters_above most os f.target))) at in
    let same : masters_above (less + 1) os f.target ≡ masters_above most os f.target = ap (λ (j : ℕ). masters_above j os f.target) e in
    omega (arith, more, same, h, e)

-- the layout is the tenant's, and its records have at most so many masters above
abbrev pub MayStep : Layout → ℕ → Fact
MayStep l most q t u = IsLayout q t l × (masters_above (most + 1) t.objects l.object ≤ most)

module _ (m n : Tables) (same : n ≡ m) (l : Layout) (s : Step) (most less : ℕ) (one : less + 1 ≡ most) (found : TellsWhere l.org (IsIts l) (LeadsFrom l) m (Ok (Some s))) where
  leads : (q : OrgPlan) (t : Tenant) (u : User) → StandsIn l.org q m (Some t) → MayStep l most q t u → LeadsTo q t l.org l.object s
  leads q t u stands may = found q t u stands may.0

  -- what is so of the object is so of that of its masters
  pub onward : (q : OrgPlan) (t : Tenant) (u : User) → StandsIn l.org q m (Some t) → MayStep l most q t u → StandsIn s.layout.org q n (Some t) × MayStep s.layout less q t u
  onward q t u stands may =
      let it = leads q t u stands may in (
        subst (λ (o : ℕ). StandsIn o q n (Some t)) (sym it.own) (subst (λ (k : Tables). StandsIn l.org q k (Some t)) (sym same) stands),
        (it.layout, subst (λ (k : ℕ). masters_above (less + 1) t.objects k ≤ less) (sym it.target) (deeper t.objects l.object it.reference most less one it.first may.1)),
      )

  pub all_led : (rest : List Step) → ((q : OrgPlan) (t : Tenant) (u : User) → StandsIn s.layout.org q n (Some t) → MayStep s.layout less q t u → Leads q t s.layout.org s.layout.object rest)
      → (q : OrgPlan) (t : Tenant) (u : User) → StandsIn l.org q m (Some t) → MayStep l most q t u → Leads q t l.org l.object (s ∷ rest)
  all_led rest above q t u stands may =
      let it = leads q t u stands may in
      let next = onward q t u stands may in
      (it, subst (λ (o : ℕ). Leads q t o s.layout.object rest) it.own (above q t u next.0 next.1))
