-- The text of a condition spells it again.
use Rattle.std.proofs.Common.{◌≡◌, ℕ, zero, suc, ◌+◌, ◌≤◌, Bool, true, false, inl, inr, List, [], ◌∷◌, ◌++◌, refl, sym, ap, ◌∙◌, append_assoc, append-nil, subst, codes, arith}
use Rattle.std.specs.List.{AllByRecursion, flat_map}
use Rattle.base_grammar.specs.Part.{Part, one, empty, both, either, as_value}
use Rattle.base_grammar.specs.Part as part
use Rattle.base_grammar.proofs.Fronts.{Fails}
use Rattle.soql.specs.grammar.Grammar as g
use Rattle.soql.specs.grammar.Grammar.{operator_in, pattern_in}
use Rattle.soql.specs.declared.query.Cond.{Cond}
use Rattle.soql.specs.declared.query.Cond.TheVariants as c
use Rattle.soql.specs.declared.query.Literal.{Literal}
use Rattle.soql.specs.declared.query.Op.{Op}
use Rattle.soql.specs.declared.query.Path.{Path}
use Rattle.soql.specs.declared.grammar.sign.Sign.{Sign}
use Rattle.soql.specs.declared.grammar.sign.Sign.TheVariants as sign
use Rattle.soql_printer.specs.Printing.{as_unit, in_parentheses, is_simple, listed, printed_condition, printed_literal, printed_op, printed_part, printed_path, quoted}
use Rattle.soql_printer.specs.Nesting.{levels, unit_levels}
use Rattle.soql_printer.specs.inner.Units.{unit_text}
use Rattle.soql_printer.proofs.Lexed.{Reads, nothing, fails_append, reads_blank, reads_wider}
use Rattle.soql_printer.proofs.Keywords.{goes_on, wider_by, spaced, and_reads, or_reads, not_reads, in_reads, like_reads, open_reads, close_reads, comma_blank_reads, operator_reads, is_equal}
use Rattle.soql_printer.proofs.Leaves.{anything, all_anything, path_prints, literal_prints, pattern_prints}
use Rattle.soql_printer.proofs.Prints.{Prints, behind, within, each_behind, prints_after, prints_any, prints_as, prints_both, prints_empty, prints_in_parentheses, prints_left, prints_one, prints_right, prints_separated, prints_text, prints_value, prints_wider}
use Rattle.soql_printer.proofs.Units.{levels_of_unit, printed_not, printed_and, printed_or, levels_not, levels_and, levels_or, not_is_not_simple, and_is_not_simple, or_is_not_simple, all_below}
use Rattle.soql_printer.proofs.Written.{AreWritten, written_split}

-- ---- pieces of texts
pub blank_before : {A : Type 0} (p : Part Sign A) (cs : List ℕ) (a : A) → Prints p goes_on cs a → Prints p goes_on (codes " " ++ cs) a
blank_before p cs a h = record { ss = h.ss; reads = reads_blank goes_on cs h.ss h.reads; spells = h.spells }

-- a keyword between blanks, and what is behind it
pub keyword_before : {A : Type 0} (token : Sign) (p : Part Sign A) (word cs : List ℕ) (a : A) → Reads nothing word (token ∷ []) → Prints p goes_on cs a
    → Prints (g.after token p) goes_on (32 ∷ word ++ cs) a
keyword_before token p word cs a r h = prints_after token p goes_on (32 ∷ word) cs a (reads_blank nothing word (token ∷ []) r) h

pub grouped_in : {A : Type 0} (p : Part Sign A) (cs : List ℕ) (a : A) → Prints p goes_on cs a → Prints (g.in_parentheses p) goes_on (in_parentheses cs) a
grouped_in p cs a h =
    prints_wider (g.in_parentheses p) nothing goes_on (in_parentheses cs) a (λ c e. refl) (prints_in_parentheses p goes_on cs a refl open_reads close_reads h)

-- ---- tests
operator_prints : (op : Op) → Prints (one operator_in) goes_on (printed_op op) op
operator_prints op =
    prints_one operator_in goes_on (printed_op op) (sign.Op op) op
    (reads_wider is_equal goes_on (printed_op op) (sign.Op op ∷ []) (wider_by is_equal refl refl refl) (operator_reads op)) refl

literals_print : (y : List Sign) (all : List Literal) → g.literals.spells y all → AreWritten y → Prints g.literals goes_on (in_parentheses (listed printed_literal all)) all
literals_print y all h w =
    let inner = within (g.separated sign.Comma 999 g.literal) y all h w in
    grouped_in (g.separated sign.Comma 999 g.literal) (listed printed_literal all) all
    (prints_separated sign.Comma g.literal g.literal goes_on (codes ", ") printed_literal anything comma_blank_reads (λ cs. refl) (λ z a k v q. literal_prints z a k v)
    999 inner.0 all inner.1 inner.2 (all_anything all))

five : (a b c d e : List ℕ) → a ++ b ++ c ++ d ++ e ≡ a ++ (b ++ (c ++ (d ++ e)))
five a b c d e = simp append_assoc

four : (a b c d : List ℕ) → a ++ b ++ c ++ d ≡ a ++ (b ++ (c ++ d))
four a b c d = simp append_assoc

-- what is behind a path
record Ends (p : Path) (condition : Cond) : Type 0 where
  pub text : List ℕ
  pub apart : Fails goes_on text
  pub whole : printed_condition condition ≡ printed_path p ++ text
  pub prints : Prints (g.ending p) goes_on text condition

module _ (p : Path) where
  abbrev comparison : Part Sign Cond
  comparison = as_value {A = Op × Literal} (λ v. c.Test p v.0 v.1) (both (one operator_in) (λ _. g.literal))

  abbrev likeness : Part Sign Cond
  likeness = as_value (c.Like p) (g.after sign.Like (one pattern_in))

  abbrev membership : Part Sign Cond
  membership = as_value (c.In p false) (g.after sign.In g.literals)

  abbrev exclusion : Part Sign Cond
  exclusion = as_value (c.In p true) (g.after sign.Not (g.after sign.In g.literals))

  comparison_ends : (y : List Sign) (condition : Cond) → comparison.spells y condition → AreWritten y → Ends p condition
  comparison_ends y condition h w =
      let b = h.1 in
      let split = written_split b.0 b.1 (subst AreWritten b.2 w) in
      let literal = literal_prints b.1 h.0.1 b.4 split.1 in
      subst (Ends p) (sym h.2) (record {
        text = codes " " ++ (printed_op h.0.0 ++ (codes " " ++ printed_literal h.0.1));
        apart = refl;
        whole = five (printed_path p) (codes " ") (printed_op h.0.0) (codes " ") (printed_literal h.0.1);
        prints = prints_left comparison _ goes_on _ _ (blank_before comparison _ _
            (prints_as (λ v. c.Test p v.0 v.1) (both (one operator_in) (λ _. g.literal)) goes_on _ (h.0.0, h.0.1)
            (prints_both (one operator_in) (λ _. g.literal) goes_on (printed_op h.0.0) (codes " " ++ printed_literal h.0.1) h.0.0 h.0.1 refl
            (operator_prints h.0.0) (blank_before g.literal (printed_literal h.0.1) h.0.1 literal))));
      })

  likeness_ends : (y : List Sign) (condition : Cond) → likeness.spells y condition → Ends p condition
  likeness_ends y condition h =
      subst (Ends p) (sym h.2) (record {
        text = codes " LIKE " ++ quoted (flat_map printed_part h.0.parts);
        apart = refl;
        whole = append_assoc (printed_path p) (codes " LIKE ") (quoted (flat_map printed_part h.0.parts));
        prints = prints_right comparison _ goes_on _ _ (prints_left likeness _ goes_on _ _
            (prints_as (c.Like p) (g.after sign.Like (one pattern_in)) goes_on _ h.0
            (keyword_before sign.Like (one pattern_in) (codes "LIKE ") _ h.0 (spaced (codes "LIKE") sign.Like like_reads) (pattern_prints h.0))));
      })

  membership_ends : (y : List Sign) (condition : Cond) → membership.spells y condition → AreWritten y → Ends p condition
  membership_ends y condition h w =
      let inner = behind sign.In g.literals y h.0 h.1 w in
      subst (Ends p) (sym h.2) (record {
        text = codes " IN " ++ in_parentheses (listed printed_literal h.0);
        apart = refl;
        whole = four (printed_path p) [] (codes " IN ") (in_parentheses (listed printed_literal h.0));
        prints = prints_right comparison _ goes_on _ _ (prints_right likeness _ goes_on _ _ (prints_left membership exclusion goes_on _ _
            (prints_as (c.In p false) (g.after sign.In g.literals) goes_on _ h.0
            (keyword_before sign.In g.literals (codes "IN ") _ h.0 (spaced (codes "IN") sign.In in_reads) (literals_print inner.0 h.0 inner.1 inner.2)))));
      })

  exclusion_ends : (y : List Sign) (condition : Cond) → exclusion.spells y condition → AreWritten y → Ends p condition
  exclusion_ends y condition h w =
      let outer = behind sign.Not (g.after sign.In g.literals) y h.0 h.1 w in
      let inner = behind sign.In g.literals outer.0 h.0 outer.1 outer.2 in
      subst (Ends p) (sym h.2) (record {
        text = codes " NOT IN " ++ in_parentheses (listed printed_literal h.0);
        apart = refl;
        whole = four (printed_path p) (codes " NOT") (codes " IN ") (in_parentheses (listed printed_literal h.0));
        prints = prints_right comparison _ goes_on _ _ (prints_right likeness _ goes_on _ _ (prints_right membership exclusion goes_on _ _
            (prints_as (c.In p true) (g.after sign.Not (g.after sign.In g.literals)) goes_on _ h.0
            (keyword_before sign.Not (g.after sign.In g.literals) (codes "NOT ") _ h.0 (spaced (codes "NOT") sign.Not not_reads)
            (prints_after sign.In g.literals goes_on (codes "IN ") _ h.0 (spaced (codes "IN") sign.In in_reads) (literals_print inner.0 h.0 inner.1 inner.2))))));
      })

  ends_all : (y : List Sign) (condition : Cond) → (g.ending p).spells y condition → AreWritten y → Ends p condition
  ends_all y condition (inl h) w = comparison_ends y condition h w
  ends_all y condition (inr (inl h)) w = likeness_ends y condition h
  ends_all y condition (inr (inr (inl h))) w = membership_ends y condition h w
  ends_all y condition (inr (inr (inr h))) w = exclusion_ends y condition h w

test_prints : (y : List Sign) (condition : Cond) → g.test.spells y condition → AreWritten y → Prints g.test goes_on (printed_condition condition) condition
test_prints y condition h w =
    let b = h.1 in
    let split = written_split b.0 b.1 (subst AreWritten b.2 w) in
    let path = path_prints b.0 h.0.0 b.3 split.0 in
    let end = ends_all h.0.0 b.1 h.0.1 b.4 split.1 in
    prints_value g.test goes_on printed_condition h.0.1 condition (sym h.2)
    (prints_text g.test goes_on _ _ h.0.1 (sym end.whole)
    (prints_as (λ v. v.1) (both g.path g.ending) goes_on _ (h.0.0, h.0.1)
    (prints_both g.path g.ending goes_on (printed_path h.0.0) end.text h.0.0 h.0.1 end.apart path end.prints)))

-- ---- units
module _ (m : ℕ) where
  grouped : (cs : List ℕ) (condition : Cond) → Prints (g.cond_of (g.unit m)) goes_on cs condition → Prints (g.unit (suc m)) goes_on (in_parentheses cs) condition
  unfolding g.unit
  grouped cs condition h =
      prints_right _ _ goes_on _ condition (prints_left (g.in_parentheses (g.cond_of (g.unit m))) g.test goes_on _ condition (grouped_in (g.cond_of (g.unit m)) cs condition h))

  negated : (cs : List ℕ) (condition : Cond) → Prints (g.unit m) goes_on cs condition → Prints (g.unit (suc m)) goes_on (codes "NOT " ++ cs) (c.Not condition)
  unfolding g.unit
  negated cs condition h =
      prints_left _ _ goes_on _ _ (prints_as c.Not (g.after sign.Not (g.unit m)) goes_on _ condition
      (prints_after sign.Not (g.unit m) goes_on (codes "NOT ") cs condition (spaced (codes "NOT") sign.Not not_reads) h))

  alone : (cs : List ℕ) (condition : Cond) → Prints (g.unit m) goes_on cs condition → Prints (g.cond_of (g.unit m)) goes_on cs condition
  alone cs condition h =
      prints_text (g.cond_of (g.unit m)) goes_on _ _ condition (append-nil cs)
      (prints_as {A = Cond × (Cond → Cond)} (λ v. v.1 v.0) (both (g.unit m) (λ _. g.chain (g.unit m))) goes_on (cs ++ []) (condition, λ first. first)
      (prints_both (g.unit m) (λ _. g.chain (g.unit m)) goes_on cs [] condition (λ first. first) tt h
      (prints_right _ _ goes_on [] (λ first. first) (prints_right _ _ goes_on [] (λ first. first) (prints_empty goes_on (λ first. first))))))

tested : (m : ℕ) (cs : List ℕ) (condition : Cond) → Prints g.test goes_on cs condition → Prints (g.unit m) goes_on cs condition
unfolding g.unit
tested zero cs condition h = h
tested (suc m) cs condition h = prints_right _ _ goes_on cs condition (prints_right _ g.test goes_on cs condition h)

-- a condition whose text spells it at enough levels, and which is a unit without parentheses if it is a test
record Good (condition : Cond) : Type 0 where
  pub whole : (m : ℕ) → levels condition ≤ m → Prints (g.cond_of (g.unit m)) goes_on (printed_condition condition) condition
  pub bare : is_simple condition ≡ true → (m : ℕ) → Prints (g.unit m) goes_on (printed_condition condition) condition

test_good : (condition : Cond) → Prints g.test goes_on (printed_condition condition) condition → Good condition
test_good condition h = record {
  whole = λ m e. alone m (printed_condition condition) condition (tested m (printed_condition condition) condition h);
  bare = λ e m. tested m (printed_condition condition) condition h;
}

good_unit : (condition : Cond) → Good condition → (m : ℕ) → levels_of_unit condition ≤ m → Prints (g.unit m) goes_on (unit_text condition) condition
unfolding unit_text
good_unit condition good m few = go (is_simple condition) refl m few
  where
    go : (b : Bool) → is_simple condition ≡ b → (n : ℕ) → unit_levels b (levels condition) ≤ n → Prints (g.unit n) goes_on (as_unit b (printed_condition condition)) condition
    go true e n few = good.bare e n
    go false e zero few = absurd (omega arith)
    go false e (suc n) few = grouped n (printed_condition condition) condition (good.whole n (omega arith))

not_good : (condition : Cond) → Good condition → Good (c.Not condition)
not_good condition good = record {
  whole = λ m few. go m (subst (λ n. n ≤ m) (levels_not condition) few);
  bare = λ e m. let none = not_is_not_simple condition in absurd (cc);
}
  where
    go : (m : ℕ) → 1 + levels_of_unit condition ≤ m → Prints (g.cond_of (g.unit m)) goes_on (printed_condition (c.Not condition)) (c.Not condition)
    go zero few = absurd (omega arith)
    go (suc m) few =
        prints_text (g.cond_of (g.unit (suc m))) goes_on _ _ (c.Not condition) (sym (printed_not condition))
        (alone (suc m) _ (c.Not condition) (negated m (unit_text condition) condition (good_unit condition good m (omega arith))))

-- ---- units with AND or OR between them
apart_all : (between : List ℕ) → ((cs : List ℕ) → Fails goes_on (between ++ cs)) → (all : List Cond) → Fails goes_on (flat_map (λ a. between ++ unit_text a) all)
apart_all between apart [] = tt
apart_all between apart (a ∷ all) = fails_append goes_on (between ++ unit_text a) (flat_map (λ a. between ++ unit_text a) all) (apart (unit_text a)) (apart_all between apart all)

abbrev Behind : ℕ → Sign → Part Sign (List Cond)
Behind n token = g.one_or_more (g.after token (g.unit n))

module _ (n : ℕ) (good : (y : List Sign) (condition : Cond) → (g.unit n).spells y condition → AreWritten y → Good condition) where
  -- the second and those behind it
  behind_print : (token : Sign) (between : List ℕ) → Reads nothing between (token ∷ []) → ((cs : List ℕ) → Fails goes_on (between ++ cs))
      → (m : ℕ) (y : List Sign) (more : List Cond) → (Behind n token).spells y more → AreWritten y → AllByRecursion (λ a. levels_of_unit a ≤ m) more
      → Prints (Behind m token) goes_on (flat_map (λ a. between ++ unit_text a) more) more
  behind_print token between mark apart m y more h w few =
      let b = h.1 in
      let split = written_split b.0 b.1 (subst AreWritten b.2 w) in
      let few = subst (AllByRecursion (λ a. levels_of_unit a ≤ m)) h.2 few in
      let each = λ (z : List Sign) (a : Cond) (k : (g.unit n).spells z a) (v : AreWritten z) (q : levels_of_unit a ≤ m). good_unit a (good z a k v) m q in
      let first = each_behind token (g.unit n) (g.unit m) goes_on between unit_text (λ a. levels_of_unit a ≤ m) mark apart each b.0 h.0.0 b.3 split.0 few.0 in
      let rest = prints_any token (g.unit n) (g.unit m) goes_on between unit_text (λ a. levels_of_unit a ≤ m) mark apart each b.1 h.0.1 b.4 split.1 few.1 in
      prints_value (Behind m token) goes_on (flat_map (λ a. between ++ unit_text a)) (h.0.0 ∷ h.0.1) more (sym h.2)
      (prints_as {A = Cond × List Cond} (λ v. v.0 ∷ v.1) (both (g.after token (g.unit m)) (λ _. part.any_number (g.after token (g.unit m)))) goes_on _ (h.0.0, h.0.1)
      (prints_both (g.after token (g.unit m)) (λ _. part.any_number (g.after token (g.unit m))) goes_on (between ++ unit_text h.0.0) (flat_map (λ a. between ++ unit_text a) h.0.1) h.0.0 h.0.1
      (apart_all between apart h.0.1) first rest))

  conjunction_good : (y z : List Sign) (first : Cond) (more : List Cond) → (g.unit n).spells y first → AreWritten y → (Behind n sign.And).spells z more → AreWritten z
      → Good (c.And (first ∷ more))
  conjunction_good y z first more h v k w = record {
    whole = λ m few.
        let few = all_below levels_of_unit m (first ∷ more) (subst (λ n. n ≤ m) (levels_and (first ∷ more)) few) in
        let rest = behind_print sign.And (codes " AND ") (reads_blank nothing (codes "AND ") (sign.And ∷ []) (spaced (codes "AND") sign.And and_reads)) (λ cs. refl) m z more k w few.1 in
        prints_text (g.cond_of (g.unit m)) goes_on _ _ (c.And (first ∷ more)) (sym (printed_and (first ∷ more)))
        (prints_as {A = Cond × (Cond → Cond)} (λ v. v.1 v.0) (both (g.unit m) (λ _. g.chain (g.unit m))) goes_on _ (first, λ one. c.And (one ∷ more))
        (prints_both (g.unit m) (λ _. g.chain (g.unit m)) goes_on (unit_text first) (flat_map (λ a. codes " AND " ++ unit_text a) more) first (λ one. c.And (one ∷ more))
        (apart_all (codes " AND ") (λ cs. refl) more) (good_unit first (good y first h v) m few.0)
        (prints_left _ _ goes_on _ _ (prints_as (λ all one. c.And (one ∷ all)) (Behind m sign.And) goes_on _ more rest))));
    bare = λ e m. let none = and_is_not_simple (first ∷ more) in absurd (cc);
  }

  disjunction_good : (y z : List Sign) (first : Cond) (more : List Cond) → (g.unit n).spells y first → AreWritten y → (Behind n sign.Or).spells z more → AreWritten z
      → Good (c.Or (first ∷ more))
  disjunction_good y z first more h v k w = record {
    whole = λ m few.
        let few = all_below levels_of_unit m (first ∷ more) (subst (λ n. n ≤ m) (levels_or (first ∷ more)) few) in
        let rest = behind_print sign.Or (codes " OR ") (reads_blank nothing (codes "OR ") (sign.Or ∷ []) (spaced (codes "OR") sign.Or or_reads)) (λ cs. refl) m z more k w few.1 in
        prints_text (g.cond_of (g.unit m)) goes_on _ _ (c.Or (first ∷ more)) (sym (printed_or (first ∷ more)))
        (prints_as {A = Cond × (Cond → Cond)} (λ v. v.1 v.0) (both (g.unit m) (λ _. g.chain (g.unit m))) goes_on _ (first, λ one. c.Or (one ∷ more))
        (prints_both (g.unit m) (λ _. g.chain (g.unit m)) goes_on (unit_text first) (flat_map (λ a. codes " OR " ++ unit_text a) more) first (λ one. c.Or (one ∷ more))
        (apart_all (codes " OR ") (λ cs. refl) more) (good_unit first (good y first h v) m few.0)
        (prints_right _ _ goes_on _ _ (prints_left _ _ goes_on _ _ (prints_as (λ all one. c.Or (one ∷ all)) (Behind m sign.Or) goes_on _ more rest)))));
    bare = λ e m. let none = or_is_not_simple (first ∷ more) in absurd (cc);
  }

  chain_good : (x : List Sign) (condition : Cond) → (g.cond_of (g.unit n)).spells x condition → AreWritten x → Good condition
  chain_good x condition h w =
      let b = h.1 in
      let split = written_split b.0 b.1 (subst AreWritten b.2 w) in
      go b.0 b.1 h.0.0 h.0.1 b.3 split.0 b.4 split.1 h.2
    where
      go : (y z : List Sign) (first : Cond) (f : Cond → Cond) → (g.unit n).spells y first → AreWritten y → (g.chain (g.unit n)).spells z f → AreWritten z
          → condition ≡ f first → Good condition
      go y z first f h v (inl k) w e =
          let same : condition ≡ c.And (first ∷ k.0) = e ∙ ap (λ (q : Cond → Cond). q first) k.2 in
          subst Good (sym same) (conjunction_good y z first k.0 h v k.1 w)
      go y z first f h v (inr (inl k)) w e =
          let same : condition ≡ c.Or (first ∷ k.0) = e ∙ ap (λ (q : Cond → Cond). q first) k.2 in
          subst Good (sym same) (disjunction_good y z first k.0 h v k.1 w)
      go y z first f h v (inr (inr k)) w e =
          let same : condition ≡ first = e ∙ ap (λ (q : Cond → Cond). q first) k.1 in
          subst Good (sym same) (good y first h v)

unit_good : (n : ℕ) (y : List Sign) (condition : Cond) → (g.unit n).spells y condition → AreWritten y → Good condition
unfolding g.unit
unit_good zero y condition h w = test_good condition (test_prints y condition h w)
unit_good (suc n) y condition (inl h) w =
    let inner = behind sign.Not (g.unit n) y h.0 h.1 w in
    subst Good (sym h.2) (not_good h.0 (unit_good n inner.0 h.0 inner.1 inner.2))
unit_good (suc n) y condition (inr (inl h)) w =
    let inner = within (g.cond_of (g.unit n)) y condition h w in
    chain_good n (λ z a k v. unit_good n z a k v) inner.0 condition inner.1 inner.2
unit_good (suc n) y condition (inr (inr h)) w = test_good condition (test_prints y condition h w)

pub condition_prints : (y : List Sign) (condition : Cond) → g.condition.spells y condition → AreWritten y → levels condition ≤ 32 → Prints g.condition goes_on (printed_condition condition) condition
unfolding g.condition
condition_prints y condition h w few = (chain_good 32 (λ z a k v. unit_good 32 z a k v) y condition h w).whole 32 few
