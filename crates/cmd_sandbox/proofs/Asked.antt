-- Who asks a query, and what it comes to where there is no object.
use Rattle.std.proofs.Common.{◌≡◌, ℕ, true, List, Option, None, Some, refl, sym, ap, subst, inr, Result, Ok, Err, ℤ, ◌∙◌}
use Rattle.std.specs.Option.{option_map}
use Rattle.std.specs.Result.{result_and}
use Rattle.store_kv.specs.Draft.{Held, tables_of}
use Rattle.store_kv.specs.Memory.{InMemory, memory_state}
use Rattle.store_rows.specs.declared.fail.StoreFail.{StoreFail}
use Rattle.soql.specs.declared.query.Query.{Query}
use Rattle.model.specs.declared.refusal.Refusal.{Refusal}
use Rattle.model.specs.declared.refusal.Refusal.TheVariants.{InvalidType}
use Rattle.model.specs.Asking.{query_rules}
use Rattle.model.specs.Cases.{in_case}
use Rattle.model.specs.Objects.{Numbered, object_named}
use Rattle.model.specs.Paths.{Asked}
use Rattle.model.specs.Tenant.{Tenant, User}
use Rattle.model.specs.Verdict.{accept, judged, refuse, rows_of}
use Rattle.query_check.specs.Reaching.{Reaches}
use Rattle.access_traits.specs.Rights.{Whose}
use Rattle.store_abstraction.specs.Calls.{HasFallen, ended}
use Rattle.store_abstraction.specs.Layouts.{layout_of}
use Rattle.store_abstraction.specs.Local.{StandsIn}
use Rattle.store_abstraction.specs.Plan.{OrgPlan}
use Rattle.store_abstraction.specs.declared.layout.Layout.{Layout}
use Rattle.query_csv.specs.Answered.{IsAskedBy, IsLines}
use Rattle.query_csv.specs.Lines.{lines_found, query_lines}
use Rattle.cmd_sandbox.specs.Making.{IsOwned, OrMemory}
use Rattle.cmd_sandbox.proofs.Sure.{only_memory}

-- ---- who asks

-- an administrator has all rights, and sees all
abbrev pub Administers : Whose
Administers t u = u.admin ≡ true

pub is_asked : (layouts : List Layout) (l : Layout) (q : Query) (now : ℕ) (d : Held InMemory) (a : Asked) (made : IsOwned now d a) (o : Numbered)
    → object_named a.tenant q.tail.from ≡ Some o → l ≡ layout_of 1 made.plan a.tenant o → Reaches 1 made.plan a.tenant layouts q
    → (moment : ℤ) → a.now ≡ moment → IsAskedBy layouts l Administers Administers moment q (tables_of memory_state d) made.plan a
is_asked layouts l q now d a made o named is reaches moment at =
    let org : l.org ≡ 1 = ap (λ (x : Layout). x.org) is in
    let admin : a.user.admin ≡ true = ap (λ (u : User). u.admin) made.user in
    record {
      asked = record {
        stands = subst (λ (n : ℕ). StandsIn n made.plan (tables_of memory_state d) (Some a.tenant)) (sym org) made.stands;
        object = o;
        named = named;
        its = is ∙ ap (λ (n : ℕ). layout_of n made.plan a.tenant o) (sym org);
        sight = admin;
        now = at;
      };
      reaches = subst (λ (n : ℕ). Reaches n made.plan a.tenant layouts q) (sym org) reaches;
      rights = inr admin;
    }

-- ---- the object

module _ (p : OrgPlan) (t : Tenant) where
  pub found_at : (x : Option Numbered) (l : Layout) → Some l ≡ option_map (layout_of 1 p t) x → (o : Numbered) × (x ≡ Some o) × (l ≡ layout_of 1 p t o)
  found_at None l e = absurd cc
  found_at (Some o) l e = let same : l ≡ layout_of 1 p t o = cc in (o, refl, same)

  pub none_at : (x : Option Numbered) → None ≡ option_map (layout_of 1 p t) x → x ≡ None
  none_at None e = refl
  none_at (Some o) e = absurd cc

-- no object has the name
pub nowhere : (a : Asked) (q : Query) → object_named a.tenant q.tail.from ≡ None → Err (InvalidType q.tail.from) ≡ query_lines a q
nowhere a q none =
    ap (λ (x : Option Numbered). result_and (in_case x (refuse a.tenant (InvalidType q.tail.from)) (λ o. judged a.tenant (query_rules a.tenant o.number q) (accept (rows_of q) a.tenant))).answer (Ok (lines_found a q))) (sym none)

-- what is returned of a query that was answered
pub lines_are : (a : Asked) (q : Query) (r : Result (Result (List ℕ) Refusal) StoreFail) → IsLines a q r → (HasFallen (ended r) → ⊥) → OrMemory r (λ lines. lines ≡ query_lines a q)
lines_are a q (Ok lines) h never = h
lines_are a q (Err e) h never = only_memory e never h
