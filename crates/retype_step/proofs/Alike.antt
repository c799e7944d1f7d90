-- The records that a step doesn't come to are kept alike.
use Rattle.std.proofs.Common.{◌≡◌, ℕ, true, false, cond, eqb, List, Option, Some, None, refl, sym, ap, subst, ◌∙◌}
use Rattle.std.specs.Option.{option_and_then, option_map}
use Rattle.std.proofs.lemmas.Bool.{eqb-true}
use Rattle.base_lemmas.proofs.Bools.{by_answer as pick}
use Rattle.model.specs.declared.record.Record.{Record}
use Rattle.model.specs.Jobs.{is_past}
use Rattle.model.specs.Membership.{Has}
use Rattle.model.specs.Objects.{is_of, object_numbered, record_at}
use Rattle.model.specs.Retyping.{with_job}
use Rattle.model.specs.Tenant.{Job, Object, Tenant}
use Rattle.retype_step.proofs.Entries.{entry_stays, object_apart}
use Rattle.store_abstraction.specs.Entries.{slot_entry}
use Rattle.store_abstraction.specs.Plan.{OrgPlan}
use Rattle.store_abstraction.specs.Stands.{kept_at, kept_in}
use Rattle.record_index.proofs.Records.{named}
use Rattle.record_index.specs.diff.Touched.{IsAlike, SameKept, has}

module _ (q : OrgPlan) (t : Tenant) (j : Job) (c : Option (List ℕ)) (ids : List (List ℕ)) (is : t.job ≡ Some j)
    (stays : (r : Record) → Has t.records r → is_of j.object r ≡ true → has ids r.id ≡ false → is_past c r.id ≡ is_past j.cursor r.id) where
  abbrev u : Tenant
  u = with_job (record j { cursor = c }) t

  -- in each slot
  entry_same : (m : ℕ) (o : Object) (r : Record) (s : ℕ) → Has t.records r → is_of m r ≡ true → has ids r.id ≡ false → slot_entry q u.job m o r s ≡ slot_entry q t.job m o r s
  entry_same m o r s there of out =
      pick (eqb j.object m) (λ b. eqb j.object m ≡ b → slot_entry q u.job m o r s ≡ slot_entry q (Some j) m o r s)
      (λ same _. entry_stays q j c m o r s (stays r there (subst (λ (k : ℕ). is_of k r ≡ true) (sym (eqb-true j.object m same)) of) out))
      (λ differ _. object_apart q j c m o r s differ)
      refl
      ∙ sym (ap (λ (job : Option Job). slot_entry q job m o r s) is)

  others : (m : ℕ) (i : List ℕ) → has ids i ≡ false → SameKept (kept_at q u m i) (kept_at q t m i)
  unfolding kept_at
  others m i out = by (record_at t i) refl
    where
      in_object : (r : Record) → Has t.records r → is_of m r ≡ true → has ids r.id ≡ false → (x : Option Object) → SameKept (option_map (λ o. kept_in q u m o r) x) (option_map (λ o. kept_in q t m o r) x)
      in_object r there of free None = tt
      in_object r there of free (Some o) = (refl, λ s. entry_same m o r s there of free)

      by : (x : Option Record) → record_at t i ≡ x
          → SameKept (option_and_then (λ (r : Record). cond (is_of m r) (option_map (λ o. kept_in q u m o r) (object_numbered t m)) None) x)
          (option_and_then (λ (r : Record). cond (is_of m r) (option_map (λ o. kept_in q t m o r) (object_numbered t m)) None) x)
      by None at = tt
      by (Some r) at =
          let one = named t.records i r at in
          pick (is_of m r)
          (λ b. is_of m r ≡ b
          → SameKept (cond b (option_map (λ o. kept_in q u m o r) (object_numbered t m)) None) (cond b (option_map (λ o. kept_in q t m o r) (object_numbered t m)) None))
          (λ _ of. in_object r one.0 of (subst (λ (x : List ℕ). has ids x ≡ false) (sym one.1) out) (object_numbered t m))
          (λ _ _. tt)
          refl

  pub alike : IsAlike q q t u ids
  alike = record { objects = refl; others = others }
