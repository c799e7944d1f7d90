-- The lines of a query are those of its verdict.
use Rattle.std.proofs.Common.{◌≡◌, ◌∙◌, ◌⊎◌, ◌==◌, ◌≤◌, arith, ℕ, true, false, List, [], ◌∷◌, ◌++◌, filter_map, length, Option, Some, None, refl, sym, ap, subst, inl, inr, Result, Ok, Err, ℤ}
use Rattle.std.proofs.lemmas.Bool.{eqb-true}
use Rattle.std.specs.List.{flat_map}
use Rattle.std.specs.Result.{result_and}
use Rattle.store_kv.specs.Tables.{Tables}
use Rattle.store_rows.specs.declared.fail.StoreFail.{StoreFail}
use Rattle.soql.specs.declared.query.Query.{Query}
use Rattle.model.specs.declared.record.Record.{Record}
use Rattle.model.specs.declared.refusal.Refusal.{Refusal}
use Rattle.model.specs.Asking.{ask, query_rules}
use Rattle.model.specs.Objects.{Numbered, object_numbered}
use Rattle.model.specs.Paths.{Asked}
use Rattle.model.specs.Rules.{first_refusal}
use Rattle.model.specs.Verdict.{Verdict}
use Rattle.access_traits.specs.Rights.{Whose}
use Rattle.store_abstraction.specs.Layouts.{layout_of, own_layouts}
use Rattle.store_abstraction.specs.Plan.{OrgPlan}
use Rattle.store_abstraction.specs.declared.layout.Layout.{Layout}
use Rattle.query_plan.specs.declared.paths.branches.Branch.{Branch}
use Rattle.model.specs.Flat.{is_flat}
use Rattle.model.specs.Shown.{query_steps}
use Rattle.query_check.specs.Reaching.{Reaches}
use Rattle.query_bind.specs.Cells.{MeansCells}
use Rattle.query_bind.specs.declared.cells.CellPlan.{CellPlan}
use Rattle.query_bind.proofs.Planned.{no_branches}
use Rattle.query_exec.specs.Relatives.{by_parents}
use Rattle.query_exec.specs.Written.{seeing}
use Rattle.query_json.specs.Answers.{IsAskedOf}
use Rattle.query_json.specs.Planned.{Parents, choice_rows}
use Rattle.query_json.proofs.Found.{Laws, accepted, refused}
use Rattle.query_csv.specs.Answered.{IsAskedBy, IsLines}
use Rattle.query_csv.specs.Lines.{line, lines_found, query_lines, record_line, selected_names}
use Rattle.query_csv.specs.inner.Names.{item_by}
use Rattle.query_csv.specs.inner.Rows.{PutsLines, parents_of, row_line, serves}
use Rattle.query_csv.proofs.Naming.{names_are}
use Rattle.query_csv.proofs.Rows.{rows_are}

-- ---- lines that were appended for some are so for others

abbrev pub Who : Type 1
Who = OrgPlan → Asked → Type 0

pub puts_so : (l : Layout) (one other : Who) (parents own : Parents) (p : CellPlan) (old new : List ℕ) (m : Tables) (r : Result (Unit {0}) StoreFail)
    → ((q : OrgPlan) (a : Asked) → other q a → one q a) → parents ≡ own → PutsLines l one parents p old new m r → PutsLines l other own p old new m r
puts_so l one other parents own p old new m (Ok x) who same h = λ q a s i its.
    h q a s i (who q a its)
    ∙ ap (λ (ps : Parents). old ++ flat_map (by_parents ps (row_line p.cells) a) (choice_rows ps p.choice l.object a)) same
puts_so l one other parents own p old new m (Err e) who same h = λ q a s i its. h q a s i (who q a its)

pub none_there : {X : Type 0} (xs : List X) → (length xs == 0) ≡ true → xs ≡ []
none_there [] e = refl
none_there (x ∷ xs) e =
    let empty : length (x ∷ xs) ≡ 0 = eqb-true (length (x ∷ xs)) 0 e in
    absurd (omega (arith, empty))

pub some_there : {X : Type 0} (xs ys : List X) → (length xs == 0) ≡ false → xs ≡ ys → ys ≡ [] → ⊥
some_there [] ys e same none = absurd (apart e)
  where
    apart : (0 == 0) ≡ false → ⊥
    apart e = cc
some_there (x ∷ xs) ys e same none = clash (same ∙ none)
  where
    clash : x ∷ xs ≡ [] → ⊥
    clash e = cc

-- a plan with branches asks for all layouts and for rights
pub there : (ls : List Layout) (l : Layout) (whose : Whose) (p : CellPlan) (q : OrgPlan) (a : Asked) → (p.choice.branches ≡ [] → ⊥) → serves ls l whose p q a
    → (ls ≡ own_layouts l.org q (Some a.tenant)) × whose a.tenant a.user
there ls l whose p q a some (inl none) = absurd (some none)
there ls l whose p q a some (inr all) = all

-- ---- a query of an object

module _ (laws : Laws) (ls : List Layout) (l : Layout) (sees whose : Whose) (moment : ℤ) (q : Query) (m : Tables) (p : OrgPlan) (a : Asked)
    (by_these : IsAskedBy ls l sees whose moment q m p a) where
  abbrev its : IsAskedOf l sees moment q m p a
  its = by_these.asked

  number : l.object ≡ its.object.number
  number = ap (λ (x : Layout). x.object) its.its

  same_rules : first_refusal (query_rules a.tenant its.object.number q) ≡ first_refusal (query_rules a.tenant l.object q)
  same_rules = ap (λ (n : ℕ). first_refusal (query_rules a.tenant n q)) (sym number)

  pub refused_so : (why : Refusal) → Some why ≡ first_refusal (query_rules a.tenant l.object q) → Err why ≡ query_lines a q
  refused_so why e =
      ap (λ (v : Verdict). result_and v.answer (Ok (lines_found a q))) (sym (refused laws a q its.object its.named its.stands.sound why (same_rules ∙ sym e)))

  module _ (plan : CellPlan) (means : MeansCells a l.object q plan) (free : first_refusal (query_rules a.tenant l.object q) ≡ None) where
    -- by these layouts the plan's parents are read
    pub serves_so : length plan.choice.branches ≤ query_steps q → serves ls l whose plan p a
    serves_so few = by by_these.reaches
      where
        by_rights : ls ≡ own_layouts l.org p (Some a.tenant) → (is_flat q ≡ true) ⊎ whose a.tenant a.user → serves ls l whose plan p a
        by_rights layouts (inl flat) = inl (no_branches q plan.choice.branches few flat)
        by_rights layouts (inr rights) = inr (layouts, rights)

        by : Reaches l.org p a.tenant ls q → serves ls l whose plan p a
        by (inl flat) = inl (no_branches q plan.choice.branches few flat)
        by (inr all) = by_rights all.1 by_these.rights

    by_number : MeansCells a its.object.number q plan
    by_number = subst (λ (n : ℕ). MeansCells a n q plan) number means

    abbrev written : List Branch → ℕ → List ℕ
    written bs n = flat_map (by_parents (parents_of bs) (row_line plan.cells) a) (choice_rows (parents_of bs) plan.choice n a)

    names_so : filter_map (item_by ls l) q.select ≡ selected_names a.tenant q
    names_so =
        ap (λ (x : Layout). filter_map (item_by ls x) q.select) its.its
        ∙ names_are l.org p a.tenant ls its.object (laws.named a.tenant q.tail.from its.object its.named) q its.named by_these.reaches

    lines_so : line (filter_map (item_by ls l) q.select) ++ written plan.choice.branches l.object ≡ lines_found a q
    unfolding lines_found
    lines_so =
        ap (λ (names : List (List ℕ)). line names ++ written plan.choice.branches l.object) names_so
        ∙ ap (λ (n : ℕ). line (selected_names a.tenant q) ++ written plan.choice.branches n) number
        ∙ ap (λ (rows : List ℕ). line (selected_names a.tenant q) ++ rows) (rows_are laws a q its.object its.named its.stands.sound plan by_number)

    abbrev ok_of : List ℕ → Result (List ℕ) Refusal
    ok_of text = Ok text

    pub found_so : (names text bytes : List ℕ) → bytes ≡ text → text ≡ names ++ written plan.choice.branches l.object → names ≡ line (filter_map (item_by ls l) q.select)
        → Ok bytes ≡ query_lines a q
    found_so names text bytes same put heading =
        ap ok_of (same ∙ put ∙ ap (λ (n : List ℕ). n ++ written plan.choice.branches l.object) heading ∙ lines_so)
        ∙ ap (λ (v : Verdict). result_and v.answer (Ok (lines_found a q))) (sym (accepted laws a q its.object its.named its.stands.sound (same_rules ∙ free)))
