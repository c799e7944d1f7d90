-- Rows of who is named, over tables.
use Rattle.std.proofs.Common.{◌≡◌, ◌∙◌, ℕ, ◌<◌, ◌≤◌, ◌^◌, Bool, true, false, ◌||◌, List, [], ◌∷◌, ◌++◌, Option, Some, None, Result, Ok, Err, refl, sym, ap, subst, append-nil, append_assoc}
use Rattle.std.proofs.lemmas.Bool.{true≢false as not_true}
use Rattle.cmd_auth.specs.Judging.{JudgesFor, JudgesIn, RefusesUncalled}
use Rattle.cmd_load_plan.specs.Rows.{refused_line}
use Rattle.cmd_load_plan.specs.declared.plan.LoadPlan.{LoadPlan}
use Rattle.store_kv.specs.Tables.{Tables}
use Rattle.store_rows.specs.declared.fail.StoreFail.{StoreFail}
use Rattle.store_rows.specs.declared.fail.StoreFail.TheVariants.{Memory}
use Rattle.model.specs.declared.refusal.Refusal.TheVariants.{InvalidSession}
use Rattle.model.specs.Callers.{Named}
use Rattle.model.specs.Tenant.{Tenant}
use Rattle.store_abstraction.specs.declared.judged.Judged.{Judged}
use Rattle.store_abstraction.specs.declared.judged.Judged.TheVariants.{Changed, Same}
use Rattle.store_abstraction.specs.Local.{KeepsOthers, StandsFor, StandsIn}
use Rattle.store_abstraction.specs.Operations.{IsChange, IsSame}
use Rattle.store_abstraction.specs.Plan.{OrgPlan}
use Rattle.cmd_load.specs.Batches.{AskedRow, JudgesRows, JudgesRowsFor, refused_rows, row_asked, named_row}
use Rattle.cmd_load.specs.inner.Joining.{is_changed, judged_so, line_in}
use Rattle.cmd_load.proofs.Joining.{Done, all_done, none_done, one_done}

-- a row that is asked by anyone, judged
abbrev pub RowJudged : LoadPlan → AskedRow → Option Named → (before after : Tables) → Result (Judged (List ℕ)) StoreFail → Type 0
RowJudged p r named before after result = JudgesFor (row_asked p r.number r.cells) (refused_line r.number InvalidSession) r.moment named before after result

-- who isn't a user of an organisation: each line refuses, and nothing changed
pub record Refused (all rest : List AskedRow) (lines : List ℕ) (changed : Bool) : Type 0 where
  pub same : refused_rows all ≡ lines ++ refused_rows rest
  pub still : changed ≡ false

module _ (all : List AskedRow) where
  none_refused : Refused all all [] false
  none_refused = record { same = refl; still = refl }

  one_refused : (r : AskedRow) (rest : List AskedRow) (lines : List ℕ) (changed : Bool) (j : Judged (List ℕ)) → Refused all (r ∷ rest) lines changed → RefusesUncalled (refused_line r.number InvalidSession) (Ok j) → Refused all rest (lines ++ line_in j) (changed || is_changed j)
  one_refused r rest lines changed (Same line) h is = record {
    same = h.same ∙ (ap (λ (l : List ℕ). lines ++ (l ++ refused_rows rest)) (sym is) ∙ sym (append_assoc lines line (refused_rows rest)));
    still = ap (λ (b : Bool). b || false) h.still;
  }
  one_refused r rest lines changed (Changed line) h is = absurd is

  all_refused : (lines : List ℕ) (changed : Bool) → Refused all [] lines changed → RefusesUncalled (refused_rows all) (Ok (judged_so changed lines))
  all_refused lines false h = sym (append-nil lines) ∙ sym h.same
  all_refused lines true h = absurd (not_true h.still)

-- ---- in the organisation that is named

module _ (n : Named) (p : LoadPlan) (all : List AskedRow) (before : Tables) where
  pub record Loaded (rest : List AskedRow) (lines : List ℕ) (changed : Bool) (m : Tables) : Type 0 where
    pub others : KeepsOthers n.org before m
    pub done : (q : OrgPlan) (t : Option Tenant) → StandsIn n.org q before t → Done (StandsFor n.org) (named_row n p) all t rest lines changed m

  none_loaded : Loaded all [] false before
  none_loaded = record { others = λ place e. refl; done = λ q t s. none_done (StandsFor n.org) (named_row n p) all t before (q, s) }

  kept_then : (m after : Tables) (j : Judged (List ℕ)) → KeepsOthers n.org before m → (IsChange (Ok j) → KeepsOthers n.org m after) → (IsSame (Ok j) → after ≡ m) → KeepsOthers n.org before after
  kept_then m after (Same line) first then same = subst (KeepsOthers n.org before) (sym (same tt)) first
  kept_then m after (Changed line) first then same = λ place e. then tt place e ∙ first place e

  one_loaded : (r : AskedRow) (rest : List AskedRow) (lines : List ℕ) (changed : Bool) (m after : Tables) (j : Judged (List ℕ)) → Loaded (r ∷ rest) lines changed m
      → JudgesIn (row_asked p r.number r.cells) (refused_line r.number InvalidSession) r.moment n m after (Ok j) → (IsSame (Ok j) → after ≡ m) → Loaded rest (lines ++ line_in j) (changed || is_changed j) after
  one_loaded r rest lines changed m after j h judged same = record {
    others = kept_then m after j h.others judged.others same;
    done = λ q t s.
        let d = h.done q t s in
        one_done (StandsFor n.org) (named_row n p) all t r rest lines changed m after d j (judged.judged d.stands_so.0 d.came d.stands_so.1) same;
  }

  failed_loaded : (r : AskedRow) (rest : List AskedRow) (lines : List ℕ) (changed : Bool) (m after : Tables) (e : StoreFail) → Loaded (r ∷ rest) lines changed m
      → JudgesIn (row_asked p r.number r.cells) (refused_line r.number InvalidSession) r.moment n m after (Err e) → JudgesRows n p all before after (Err e)
  failed_loaded r rest lines changed m after e h judged = record {
    others = λ none. absurd none;
    judged = λ q t s. let d = h.done q t s in judged.judged d.stands_so.0 d.came d.stands_so.1;
  }

  change_so : (changed : Bool) (lines : List ℕ) (after : Tables) → KeepsOthers n.org before after → IsChange (Ok (judged_so changed lines)) → KeepsOthers n.org before after
  change_so changed lines after h c = h

  all_loaded : (lines : List ℕ) (changed : Bool) (after : Tables) → Loaded [] lines changed after → JudgesRows n p all before after (Ok (judged_so changed lines))
  all_loaded lines changed after h = record {
    others = change_so changed lines after h.others;
    judged = λ q t s. all_done (StandsFor n.org) (named_row n p) all t lines changed after (h.done q t s);
  }

-- ---- of anyone

abbrev pub LoadedBy : Option Named → LoadPlan → (all : List AskedRow) → (before : Tables) → (rest : List AskedRow) → (lines : List ℕ) → (changed : Bool) → Tables → Type 0
LoadedBy None p all before rest lines changed m = Refused all rest lines changed
LoadedBy (Some n) p all before rest lines changed m = (n.org < 2 ^ 32 → Loaded n p all before rest lines changed m) × (2 ^ 32 ≤ n.org → Refused all rest lines changed)

module _ (p : LoadPlan) (all : List AskedRow) (before : Tables) where
  pub none_by : (key : Option Named) → LoadedBy key p all before all [] false before
  none_by None = none_refused all
  none_by (Some n) = ((λ lo. none_loaded n p all before), (λ hi. none_refused all))

  pub one_by : (key : Option Named) (r : AskedRow) (rest : List AskedRow) (lines : List ℕ) (changed : Bool) (m after : Tables) (j : Judged (List ℕ)) → LoadedBy key p all before (r ∷ rest) lines changed m → RowJudged p r key m after (Ok j) → (IsSame (Ok j) → after ≡ m)
      → LoadedBy key p all before rest (lines ++ line_in j) (changed || is_changed j) after
  one_by None r rest lines changed m after j h judged same = one_refused all r rest lines changed j h judged
  one_by (Some n) r rest lines changed m after j h judged same =
      ((λ lo. one_loaded n p all before r rest lines changed m after j (h.0 lo) (judged.0 lo) same), (λ hi. one_refused all r rest lines changed j (h.1 hi) (judged.1 hi)))

  pub failed_by : (key : Option Named) (r : AskedRow) (rest : List AskedRow) (lines : List ℕ) (changed : Bool) (m after : Tables) (e : StoreFail) → LoadedBy key p all before (r ∷ rest) lines changed m → RowJudged p r key m after (Err e)
      → JudgesRowsFor key p all before after (Err e)
  failed_by None r rest lines changed m after e h judged = judged
  failed_by (Some n) r rest lines changed m after e h judged = ((λ lo. failed_loaded n p all before r rest lines changed m after e (h.0 lo) (judged.0 lo)), (λ hi. judged.1 hi))

  pub all_by : (key : Option Named) (lines : List ℕ) (changed : Bool) (after : Tables) → LoadedBy key p all before [] lines changed after → JudgesRowsFor key p all before after (Ok (judged_so changed lines))
  all_by None lines changed after h = all_refused all lines changed h
  all_by (Some n) lines changed after h = ((λ lo. all_loaded n p all before lines changed after (h.0 lo)), (λ hi. all_refused all lines changed (h.1 hi)))

  -- out of memory between two
  pub memory_by : (key : Option Named) (after : Tables) → JudgesRowsFor key p all before after (Err Memory)
  memory_by None after = refl
  memory_by (Some n) after = ((λ lo. record { others = λ none. absurd none; judged = λ q t s d. cc }), (λ hi. refl))
