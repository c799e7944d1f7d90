-- The cells of a query's lines.
use Rattle.std.proofs.Common.{◌≡◌, ◌≤◌, ◌+◌, ℕ, List, [], ◌∷◌, ◌++◌, ◌∙◌, ap, append-nil, arith, length, map, None, refl, subst, sym, ℤ}
use Rattle.std.specs.List.{AllByRecursion, sum_by}
use Rattle.std.specs.Option.{unwrap_or}
use Rattle.base_value.specs.Printing.{day_of_moment}
use Rattle.base_value.specs.declared.value.Value.{Value}
use Rattle.soql.specs.declared.query.Path.{Path}
use Rattle.soql.specs.declared.query.Query.{Query}
use Rattle.model.specs.declared.record.Record.{Record}
use Rattle.model.specs.Asking.{query_rules}
use Rattle.model.specs.Membership.{Has}
use Rattle.model.specs.Objects.{records_of}
use Rattle.model.specs.Paths.{Asked, path_value}
use Rattle.model.specs.Rules.{first_refusal}
use Rattle.model.specs.Sound.{IsSound}
use Rattle.store_abstraction.specs.Layouts.{IsLayout}
use Rattle.store_abstraction.specs.Plan.{OrgPlan}
use Rattle.store_abstraction.specs.declared.layout.Layout.{Layout}
use Rattle.model.specs.Shown.{item_steps, path_steps, query_steps, tail_steps}
use Rattle.query_plan.specs.paths.Branches.{AddsBranches}
use Rattle.query_plan.specs.declared.paths.branches.Branch.{Branch}
use Rattle.query_plan.specs.Checks.{spot_value}
use Rattle.query_plan.specs.declared.check.Spot.{Spot}
use Rattle.query_check.specs.Reaching.{Reaches}
use Rattle.query_check.proofs.Reaching.{refused_alike}
use Rattle.query_bind.specs.Cells.{MeansCells, paths_in}
use Rattle.query_bind.specs.declared.cells.CellPlan.{CellPlan}
use Rattle.query_bind.specs.declared.choosing.BoundTail.{BoundTail}
use Rattle.query_bind.specs.declared.spots.Bound.{Bound}
use Rattle.query_bind.specs.inner.Cells.{BindsCell}
use Rattle.query_bind.specs.inner.Ends.{Each}
use Rattle.query_bind.specs.inner.Members.{IsLed}
use Rattle.query_bind.specs.inner.Spots.{Binds, IsOf, Setting, far_of}
use Rattle.query_bind.specs.inner.Tails.{BindsTail}
use Rattle.query_bind.proofs.Counted.{paths_steps}
use Rattle.query_bind.proofs.Picked.{led_in}
use Rattle.query_bind.proofs.Serving.{query_serves}
use Rattle.query_bind.proofs.Tailed.{tail_chooses}
use Rattle.query_bind.proofs.Tested.{behind_both}

pub cell_bound : (ls : List Layout) (l : Layout) (branches : List Branch) (path : Path) (b : Bound) → Binds ls l branches path.names b
    → BindsCell ls l branches path b.spot
cell_bound ls l branches path b binds = record { value = λ s c r serve there one more. (binds s c r serve there one).value more }

pub cell_later : (ls : List Layout) (l : Layout) (old new : List Branch) → AddsBranches old new → (path : Path) (spot : Spot) → BindsCell ls l old path spot
    → BindsCell ls l new path spot
cell_later ls l old new adds path spot binds = record {
  value = λ s c r serve there one more.
      subst (λ (bs : List Branch). spot_value (far_of s r bs) r spot ≡ path_value s.asked r path.names)
      (sym (behind_both old new more adds)) (binds.value s c r serve there one (adds.more ++ more));
}

-- ---- the paths that are selected

module _ (s : Setting) (ls : List Layout) (l : Layout) (r : Record) (of_it : IsOf s l r) (bs more : List Branch) where
  cells_are : (paths : List Path) (cells : List Spot) → Each (BindsCell ls l bs) paths cells → AllByRecursion (IsLed s ls l) paths
      → map (spot_value (far_of s r (bs ++ more)) r) cells ≡ map (λ x. path_value s.asked r x.names) paths
  cells_are [] [] bound led = refl
  cells_are [] (cell ∷ cells) bound led = absurd bound
  cells_are (p ∷ paths) [] bound led = absurd bound
  cells_are (p ∷ paths) (cell ∷ cells) bound led =
      ap (λ (v : Value). v ∷ map (spot_value (far_of s r (bs ++ more)) r) cells) (bound.0.value s led.0.column r led.0.serve led.0.there of_it more)
      ∙ ap (λ (vs : List Value). path_value s.asked r p.names ∷ vs) (cells_are paths cells bound.1 led.1)

-- ---- how many branches there are

within : (first mid new all paths items tail : ℕ) → first ≡ 0 → mid ≤ first + paths → paths ≡ items → new ≤ mid + tail → all ≡ new → all ≤ items + tail
within first mid new all paths items tail none one fewer two same = omega (arith, none, one, fewer, two, same)

pub few_cells : (q : Query) (paths : List Path) (first mid new bs : List Branch) → paths ≡ paths_in q.select → first ≡ []
    → length mid ≤ length first + sum_by path_steps paths → length new ≤ length mid + tail_steps q.tail → bs ≡ new → length bs ≤ query_steps q
few_cells q paths first mid new bs is none one two same =
    within (length first) (length mid) (length new) (length bs) (sum_by path_steps paths) (sum_by item_steps q.select) (tail_steps q.tail) (ap length none) one
    (ap (sum_by path_steps) is ∙ paths_steps q.select) two (ap length same)

-- ---- a query that nothing refuses

-- what the plan of a query has: the cells, bound first, and the tail, whose branches may be behind
pub record IsCellPlan (ls : List Layout) (l : Layout) (day : ℤ) (q : Query) (mid new : List Branch) (cells : List Spot) (b : BoundTail) (p : CellPlan) : Type 0 where
  pub bound : Each (BindsCell ls l mid) (paths_in q.select) cells
  pub tail : BindsTail ls l day q.tail new b
  pub adds : AddsBranches mid new
  pub branches : p.choice.branches ≡ new
  pub check : p.choice.check ≡ b.check
  pub order : p.choice.order ≡ b.order
  pub skip : p.choice.skip ≡ unwrap_or q.offset 0
  pub most : p.choice.most ≡ q.tail.limit
  pub cells_of : p.cells ≡ cells

module _ (ls : List Layout) (l : Layout) (day : ℤ) (q : Query) (mid new : List Branch) (cells : List Spot) (b : BoundTail) (p : CellPlan) (is : IsCellPlan ls l day q mid new cells b p) where
  pub means_cells : (org : ℕ) (plan : OrgPlan) (a : Asked) → Reaches org plan a.tenant ls q → IsLayout plan a.tenant l → IsSound a.tenant → day ≡ day_of_moment a.now
      → first_refusal (query_rules a.tenant l.object q) ≡ None → MeansCells a l.object q p
  means_cells org plan a reach laid sound today none =
      let s : Setting = record { org = org; plan = plan; asked = a } in
      let serves = query_serves s ls l q reach (refused_alike org plan a.tenant ls l q laid reach ∙ none) in
      let of_it : (r : Record) → Has (records_of a.tenant l.object) r → IsOf s l r = λ r h. record { laid = laid; sound = sound; has = h } in
      record {
        chooses = tail_chooses s ls l day q.tail new [] b (unwrap_or q.offset 0) p.choice is.tail serves.tail today laid sound
            (is.branches ∙ sym (append-nil new)) is.check is.order is.skip is.most;
        cells = λ r h.
            ap (λ (cs : List Spot). map (spot_value (far_of s r p.choice.branches) r) cs) is.cells_of
            ∙ ap (λ (bs : List Branch). map (spot_value (far_of s r bs) r) cells) (is.branches ∙ is.adds.behind)
            ∙ cells_are s ls l r (of_it r h) mid is.adds.more (paths_in q.select) cells is.bound (led_in s ls l q.select serves.items);
      }
