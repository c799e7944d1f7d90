-- The record that has a value in a unique field is one of its object's, and the one that its id names.
use Rattle.std.proofs.Common.{◌≡◌, ◌∙◌, ℕ, ◌+◌, suc, Bool, true, cond, List, Option, Some, None, add-one, refl, sym, ap, subst}
use Rattle.std.specs.Prelude.{Result, Ok, Err}
use Rattle.std.specs.Option.{option_map}
use Rattle.std.proofs.lemmas.Option.{same_Some as some_is}
use Rattle.record_read.proofs.Rising.{found_itself, has_filter}
use Rattle.record_read.proofs.Standing.{of_object}
use Rattle.store_rows.specs.declared.fail.StoreFail.{StoreFail}
use Rattle.model.specs.Given.{has_value, record_by_value}
use Rattle.model.specs.Membership.{Has}
use Rattle.model.specs.Objects.{is_of, records_of}
use Rattle.model.specs.Rights.{record_of_object}
use Rattle.model.specs.Sound.{IsSound}
use Rattle.model.specs.Tenant.{Tenant}
use Rattle.model.specs.declared.record.Record.{Record}
use Rattle.record_target.specs.Kept.{IsKept, Keeps}
use Rattle.record_target.specs.declared.kept.KeptRecord.{KeptRecord}
use Rattle.record_constraints.proofs.Searching.{find_has}
use Rattle.store_abstraction.specs.Plan.{OrgPlan}
use Rattle.store_abstraction.specs.declared.layout.Layout.{Layout}
use Rattle.record_save.specs.upsert.Finding.{FindsKept, kept_there}
use Rattle.base_value.specs.declared.value.Value.{Value}

pub has_record : (t : Tenant) (n position : ℕ) (v : Value) (r : Record) → record_by_value t n position v ≡ Some r → Has t.records r × (is_of n r ≡ true)
unfolding record_by_value
has_record t n position v r e = has_filter (is_of n) t.records r (find_has (has_value position v) (records_of t n) r e).0

named_by_id : (t : Tenant) (n position : ℕ) (v : Value) (r : Record) → IsSound t → record_by_value t n position v ≡ Some r → record_of_object t n r.id ≡ Some r
named_by_id t n position v r sound e =
    let has = has_record t n position v r e in
    ap (of_object n) (found_itself t.records r sound.records.rise has.0) ∙ ap (λ (b : Bool). cond b (Some r) None) has.1

module _ (q : OrgPlan) (t : Tenant) (l : Layout) (number : ℕ) (v : Value) (sound : IsSound t) where
  abbrev there : Option Record
  there = record_by_value t l.object (number + 1) v

  one_more : record_by_value t l.object (suc number) v ≡ there
  one_more = ap (λ (p : ℕ). record_by_value t l.object p v) (sym (add-one number))

  -- no record has the value
  pub finds_none : None ≡ option_map (λ (r : Record). r.id) there → FindsKept q t l number v (Ok None)
  finds_none e = one_more ∙ by there e
    where
      by : (x : Option Record) → None ≡ option_map (λ (r : Record). r.id) x → x ≡ None
      by None e = refl
      by (Some r) e = absurd cc

  -- a record has it
  pub finds_kept : (id : List ℕ) (kept : Result (Option KeptRecord) StoreFail) → Some id ≡ option_map (λ (r : Record). r.id) there → Keeps q t l id kept → FindsKept q t l number v (kept_there kept)
  finds_kept id kept e keeps = by there refl e
    where
      record_is : (r : Record) → there ≡ Some r → r.id ≡ id → (kept : Result (Option KeptRecord) StoreFail) → Keeps q t l id kept → FindsKept q t l number v (kept_there kept)
      record_is r is same (Ok None) none =
          absurd (apart (sym (named_by_id t l.object (number + 1) v r sound is) ∙ ap (record_of_object t l.object) same ∙ none))
        where
          apart : Some r ≡ None → ⊥
          apart x = cc
      record_is r is same (Ok (Some k)) h =
          let found : r ≡ k.item = some_is r k.item (sym (named_by_id t l.object (number + 1) v r sound is) ∙ ap (record_of_object t l.object) same ∙ h.is) in
          (one_more ∙ is ∙ ap Some found, subst (λ (i : List ℕ). IsKept q t l i k) (sym same ∙ ap (λ (x : Record). x.id) found) h)
      record_is r is same (Err e) h = h

      by : (x : Option Record) → there ≡ x → Some id ≡ option_map (λ (r : Record). r.id) x → FindsKept q t l number v (kept_there kept)
      by None is e = absurd cc
      by (Some r) is e = record_is r is (sym (some_is id r.id e)) kept keeps
