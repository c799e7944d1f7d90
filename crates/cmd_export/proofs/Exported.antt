-- What is exported, by the definitions.
use Rattle.std.proofs.Common.{◌≡◌, ◌⊎◌, inl, inr, ℕ, Bool, true, false, List, Option, Some, None, Result, Ok, Err, refl, sym, ap, subst, ◌∙◌, ℤ}
use Rattle.std.specs.Prelude.{if◌then◌else◌}
use Rattle.std.specs.List.{list_any}
use Rattle.std.specs.Result.{result_and}
use Rattle.query_json.specs.Answers.{IsAskedOf, IsAskedOver}
use Rattle.store_kv.specs.Tables.{Tables}
use Rattle.store_rows.specs.declared.fail.StoreFail.{StoreFail}
use Rattle.query_csv.specs.Answered.{IsAskedBy, IsLines}
use Rattle.query_csv.specs.Lines.{lines_found, query_lines}
use Rattle.model.specs.declared.caller.Caller.{Caller}
use Rattle.model.specs.declared.refusal.Refusal.{Refusal}
use Rattle.model.specs.declared.refusal.Refusal.TheVariants.{InvalidType, MalformedQuery, SubqueryNotExported}
use Rattle.model.specs.Asking.{ask, query_rules}
use Rattle.model.specs.Cases.{in_case}
use Rattle.model.specs.Objects.{Numbered, object_named}
use Rattle.model.specs.Paths.{Asked}
use Rattle.model.specs.Tenant.{Tenant, User}
use Rattle.model.specs.Verdict.{Verdict, accept, judged, refuse, rows_of}
use Rattle.query_run.specs.Forms.{IsAnswer}
use Rattle.soql.specs.declared.query.Query.{Query}
use Rattle.query_check.specs.Reaching.{Reaches}
use Rattle.access_traits.specs.Rights.{Whose}
use Rattle.store_abstraction.specs.declared.judged.Judged.{Judged}
use Rattle.store_abstraction.specs.declared.judged.Judged.TheVariants.{Same}
use Rattle.store_abstraction.specs.declared.layout.Layout.{Layout}
use Rattle.store_abstraction.specs.Layouts.{own_layouts}
use Rattle.store_abstraction.specs.Local.{KeepsOthers, StandsFor, StandsIn}
use Rattle.store_abstraction.specs.Operations.{IsChange, Judges}
use Rattle.store_abstraction.specs.Plan.{OrgPlan}
use Rattle.model.specs.Flat.{is_flat}
use Rattle.model.specs.Asker.{IsAsking}
use Rattle.model.specs.Asker.{asking}
use Rattle.cmd_auth.specs.Judging.{JudgesAsked}
use Rattle.cmd_export.specs.Exports.{exported, exported_query, exported_read, is_child}
use Rattle.cmd_export.specs.inner.Unchanged.{Answer, IsExport, query_read, unchanged}

abbrev Read : Type 0
Read = Result Answer StoreFail

-- ---- lines

-- who asks of this object alone asks by no layout and no right
pub asked_flat : (l : Layout) (sees whose : Whose) (moment : ℤ) (q : Query) (m : Tables) (p : OrgPlan) (a : Asked) (ls : List Layout) → IsAskedOf l sees moment q m p a → is_flat q ≡ true
    → IsAskedBy ls l sees whose moment q m p a
asked_flat l sees whose moment q m p a ls is flat = record { asked = is; reaches = inl flat; rights = inl flat }

-- and who asks over all layouts of the tenant, with these rights, by both
pub over_all : (l : Layout) (sees whose : Whose) (now moment : ℤ) (q : Query) (m : Tables) (p : OrgPlan) (a : Asked) (ls : List Layout) → now ≡ moment → IsAskedOver ls l sees whose now q m p a
    → IsAskedBy ls l sees whose moment q m p a
over_all l sees whose now moment q m p a ls same is = record {
  asked = subst (λ (z : ℤ). IsAskedOf l sees z q m p a) same is.asked;
  reaches = inr (is.asked.stands.sound, is.all);
  rights = inr is.rights;
}

pub lines_of : (a : Asked) (q : Query) (r : Read) → IsLines a q r → IsAnswer (query_lines a q) r
lines_of a q (Ok x) h = h
lines_of a q (Err e) h = h

-- the refusal where there is no such object
pub no_object : (a : Asked) (q : Query) → object_named a.tenant q.tail.from ≡ None → Err (InvalidType q.tail.from) ≡ query_lines a q
no_object a q none =
    let verdict : ask a q ≡ refuse a.tenant (InvalidType q.tail.from) =
    ap (λ (x : Option Numbered). in_case x (refuse a.tenant (InvalidType q.tail.from)) (λ o. judged a.tenant (query_rules a.tenant o.number q) (accept (rows_of q) a.tenant))) none in
    ap (λ (v : Verdict). result_and v.answer (Ok (lines_found a q))) (sym verdict)

-- ---- a query

-- one with a child subquery
pub child_refused : (a : Asked) (q : Query) → list_any is_child q.select ≡ true → Err SubqueryNotExported ≡ exported_query a q
child_refused a q child = ap (λ (b : Bool). if◌then◌else◌ {A = Answer} b (Err SubqueryNotExported) (query_lines a q)) (sym child)

pub without_child : (a : Asked) (q : Query) (r : Read) → list_any is_child q.select ≡ false → IsAnswer (query_lines a q) r → IsExport (exported_query a q) r
without_child a q r none h = subst (λ (b : Bool). IsAnswer (if◌then◌else◌ {A = Answer} b (Err SubqueryNotExported) (query_lines a q)) r) (sym none) h

-- ---- a text

pub read_done : (r : Result Query ℕ) (q : Query) → Ok q ≡ query_read r → r ≡ Ok q
read_done (Ok p) q is = cc
read_done (Err place) q is = absurd cc

pub read_refused : (a : Asked) (r : Result Query ℕ) (why : Refusal) → Err why ≡ query_read r → Err why ≡ exported_read a r
read_refused a (Ok p) why is = absurd cc
read_refused a (Err place) why is = let same : why ≡ MalformedQuery place = cc in ap (λ (w : Refusal). Err w) same

-- ---- as what is asked

no_change : (r : Read) → IsChange (unchanged r) → ⊥
no_change (Ok x) c = c
no_change (Err e) c = c

module _ (text : List ℕ) (c : Caller) (now : ℕ) (before after : Tables) where
  read_judged : (t : Tenant) (u : User) (r : Read) → IsExport (exported text (asking t now u)).0 r
      → Judges (StandsFor c.org) (λ s. ((exported text (asking t now u)).0, Some (exported text (asking t now u)).1)) (Some t) after (unchanged r)
  read_judged t u (Ok x) h = (h, refl)
  read_judged t u (Err e) h = h

  pub judges_read : (r : Read) → ((p : OrgPlan) (a : Asked) → StandsIn c.org p before (Some a.tenant) → IsAsking c now a → IsExport (exported text a).0 r) → JudgesAsked (exported text) c now before after (unchanged r)
  judges_read r h = record {
    others = λ change. absurd (no_change r change);
    judged = λ q t u s asks. read_judged t u r (h q (asking t now u) s asks);
  }
