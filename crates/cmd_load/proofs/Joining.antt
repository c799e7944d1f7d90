-- Rows done in turn.
use Rattle.std.proofs.Common.{◌≡◌, ◌∙◌, ℕ, Bool, true, false, ◌||◌, List, [], ◌∷◌, ◌++◌, Ok, refl, sym, ap, subst, append-nil, append_assoc}
use Rattle.std.proofs.lemmas.Bool.{true≢false as true_isnt_false, or_parts as or_false}
use Rattle.store_kv.specs.Tables.{Tables}
use Rattle.store_abstraction.specs.declared.judged.Judged.{Judged}
use Rattle.store_abstraction.specs.declared.judged.Judged.TheVariants.{Changed, Same}
use Rattle.store_abstraction.specs.Operations.{IsSame, Judges}
use Rattle.cmd_load.specs.Batches.{AskedRow, done_in_turn}
use Rattle.cmd_load.specs.inner.Joining.{is_changed, judged_so, line_in}

module _ {S : Type 0} (stands : Tables → S → Type 0) (does : AskedRow → S → List ℕ × S) (all : List AskedRow) (s : S) where
  -- those before `rest` were done
  pub record Done (rest : List AskedRow) (lines : List ℕ) (changed : Bool) (after : Tables) : Type 0 where
    pub came : S
    pub same : done_in_turn does all s ≡ (lines ++ (done_in_turn does rest came).0, (done_in_turn does rest came).1)
    pub stands_so : stands after came
    pub still : changed ≡ false → came ≡ s

  pub none_done : (m : Tables) → stands m s → Done all [] false m
  none_done m h = record { came = s; same = refl; stands_so = h; still = λ e. refl }

  module _ (r : AskedRow) (rest : List AskedRow) (lines : List ℕ) (changed : Bool) (m after : Tables) (h : Done (r ∷ rest) lines changed m) where
    abbrev next : S
    next = (does r h.came).1

    -- its line is behind the others
    behind : (line : List ℕ) → line ≡ (does r h.came).0 → done_in_turn does all s ≡ ((lines ++ line) ++ (done_in_turn does rest next).0, (done_in_turn does rest next).1)
    unfolding done_in_turn
    behind line is =
        h.same
        ∙ ap (λ (text : List ℕ). (text, (done_in_turn does rest next).1))
        (ap (λ (l : List ℕ). lines ++ (l ++ (done_in_turn does rest next).0)) (sym is) ∙ sym (append_assoc lines line (done_in_turn does rest next).0))

    pub one_done : (j : Judged (List ℕ)) → Judges stands (does r) h.came after (Ok j) → (IsSame (Ok j) → after ≡ m) → Done rest (lines ++ line_in j) (changed || is_changed j) after
    one_done (Same line) g same = record {
      came = next;
      same = behind line g.0;
      stands_so = subst (stands after) (sym g.1) (subst (λ (t : Tables). stands t h.came) (sym (same tt)) h.stands_so);
      still = λ none. g.1 ∙ h.still (or_false changed false none).0;
    }
    one_done (Changed line) g same = record { came = next; same = behind line g.0; stands_so = g.1; still = λ none. absurd (true_isnt_false (or_false changed true none).1) }

  -- all were done
  pub all_done : (lines : List ℕ) (changed : Bool) (after : Tables) → Done [] lines changed after → Judges stands (done_in_turn does all) s after (Ok (judged_so changed lines))
  unfolding done_in_turn
  all_done lines false after h =
      (sym (append-nil lines) ∙ sym (ap (λ (x : List ℕ × S). x.0) h.same), ap (λ (x : List ℕ × S). x.1) h.same ∙ h.still refl)
  all_done lines true after h =
      (sym (append-nil lines) ∙ sym (ap (λ (x : List ℕ × S). x.0) h.same), subst (stands after) (sym (ap (λ (x : List ℕ × S). x.1) h.same)) h.stands_so)
