-- Texts that spell a part of the grammar again, one combinator at a time.
use Rattle.std.proofs.Common.{◌≡◌, ℕ, zero, suc, Bool, false, inl, inr, List, [], ◌∷◌, ◌++◌, Option, Some, refl, sym, subst, eq-eqb, codes}
use Rattle.std.specs.List.{AllByRecursion, flat_map, join_by}
use Rattle.base_grammar.specs.Part.{Part, one, empty, both, either, as_value, many, of_kind, one_fewer, SpellsMany, SpellsBoth}
use Rattle.base_grammar.specs.Part as part
use Rattle.base_grammar.proofs.Fronts.{Fails}
use Rattle.soql.specs.grammar.Grammar as g
use Rattle.soql.specs.grammar.Signs.{kind}
use Rattle.soql.specs.declared.grammar.sign.Sign.{Sign}
use Rattle.soql.specs.declared.grammar.sign.Sign.TheVariants as sign
use Rattle.soql_printer.specs.Printing.{in_parentheses}
use Rattle.soql_printer.proofs.Lexed.{Reads, nothing, fails_append, reads_append, reads_before, reads_none, reads_then, reads_wider}
use Rattle.soql_printer.proofs.Written.{AreWritten, written_split}

pub record Prints {A : Type 0} (p : Part Sign A) (goes : ℕ → Bool) (cs : List ℕ) (a : A) : Type 0 where
  pub ss : List Sign
  pub reads : Reads goes cs ss
  pub spells : p.spells ss a

pub prints_text : {A : Type 0} (p : Part Sign A) (goes : ℕ → Bool) (cs ds : List ℕ) (a : A) → cs ≡ ds → Prints p goes cs a → Prints p goes ds a
prints_text p goes cs ds a e h = let P : List ℕ → Type 0 = λ zs. Prints p goes zs a in subst P e h

pub prints_value : {A : Type 0} (p : Part Sign A) (goes : ℕ → Bool) (print : A → List ℕ) (a b : A) → a ≡ b → Prints p goes (print a) a → Prints p goes (print b) b
prints_value {A = A} p goes print a b e h = let P : A → Type 0 = λ z. Prints p goes (print z) z in subst P e h

pub prints_wider : {A : Type 0} (p : Part Sign A) (g h : ℕ → Bool) (cs : List ℕ) (a : A) → ((c : ℕ) → h c ≡ false → g c ≡ false) → Prints p g cs a → Prints p h cs a
prints_wider p g h cs a wider x = record { ss = x.ss; reads = reads_wider g h cs x.ss wider x.reads; spells = x.spells }

pub prints_one : {A : Type 0} (value : Sign → Option A) (goes : ℕ → Bool) (cs : List ℕ) (s : Sign) (a : A) → Reads goes cs (s ∷ []) → value s ≡ Some a → Prints (one value) goes cs a
prints_one value goes cs s a r e = record { ss = s ∷ []; reads = r; spells = e }

pub prints_empty : {A : Type 0} (goes : ℕ → Bool) (a : A) → Prints (empty a) goes [] a
prints_empty goes a = record { ss = []; reads = reads_none goes; spells = (refl, refl) }

pub prints_as : {A B : Type 0} (f : A → B) (p : Part Sign A) (goes : ℕ → Bool) (cs : List ℕ) (a : A) → Prints p goes cs a → Prints (as_value f p) goes cs (f a)
prints_as f p goes cs a h = record { ss = h.ss; reads = h.reads; spells = (a, h.spells, refl) }

pub prints_left : {A : Type 0} (p q : Part Sign A) (goes : ℕ → Bool) (cs : List ℕ) (a : A) → Prints p goes cs a → Prints (either p q) goes cs a
prints_left p q goes cs a h = record { ss = h.ss; reads = h.reads; spells = inl h.spells }

pub prints_right : {A : Type 0} (p q : Part Sign A) (goes : ℕ → Bool) (cs : List ℕ) (a : A) → Prints q goes cs a → Prints (either p q) goes cs a
prints_right p q goes cs a h = record { ss = h.ss; reads = h.reads; spells = inr h.spells }

pub prints_both : {A B : Type 0} (p : Part Sign A) (q : A → Part Sign B) (goes : ℕ → Bool) (cs ds : List ℕ) (a : A) (b : B) → Fails goes ds
    → Prints p goes cs a → Prints (q a) goes ds b → Prints (both p q) goes (cs ++ ds) (a, b)
prints_both p q goes cs ds a b f x y = record {
  ss = x.ss ++ y.ss;
  reads = reads_append goes cs ds x.ss y.ss f x.reads y.reads;
  spells = (x.ss, y.ss, refl, x.spells, y.spells);
}

-- ---- behind a token, and in parentheses
kind_same : (t : Sign) → of_kind kind (kind t) t ≡ Some tt
kind_same t = rw (eq-eqb (kind t) (kind t) refl) refl

pub prints_after : {A : Type 0} (token : Sign) (p : Part Sign A) (goes : ℕ → Bool) (cs ds : List ℕ) (a : A) → Reads nothing cs (token ∷ [])
    → Prints p goes ds a → Prints (g.after token p) goes (cs ++ ds) a
prints_after token p goes cs ds a r y = record {
  ss = token ∷ y.ss;
  reads = reads_then goes cs ds (token ∷ []) y.ss r y.reads;
  spells = ((tt, a), (token ∷ [], y.ss, refl, kind_same token, y.spells), refl);
}

pub prints_in_parentheses : {A : Type 0} (p : Part Sign A) (goes : ℕ → Bool) (cs : List ℕ) (a : A) → goes 41 ≡ false
    → Reads nothing (codes "(") (sign.Open ∷ []) → Reads nothing (codes ")") (sign.Close ∷ [])
    → Prints p goes cs a → Prints (g.in_parentheses p) nothing (in_parentheses cs) a
prints_in_parentheses p goes cs a ends opens closes x =
    prints_after sign.Open (g.before p sign.Close) nothing (codes "(") (cs ++ codes ")") a opens (record {
      ss = x.ss ++ sign.Close ∷ [];
      reads = reads_before goes nothing cs (codes ")") x.ss (sign.Close ∷ []) (λ rest f. ends) x.reads closes;
      spells = ((a, tt), (x.ss, sign.Close ∷ [], refl, x.spells, kind_same sign.Close), refl);
    })

-- what is spelled behind a token is spelled
pub behind : {A : Type 0} (token : Sign) (p : Part Sign A) (y : List Sign) (a : A) → (g.after token p).spells y a → AreWritten y → (z : List Sign) × p.spells z a × AreWritten z
behind {A = A} token p y a h w =
    let b = h.1 in
    let split = written_split b.0 b.1 (subst AreWritten b.2 w) in
    let P : A → Type 0 = λ v. p.spells b.1 v in
    (b.1, subst P (sym h.2) b.4, split.1)

pub within : {A : Type 0} (p : Part Sign A) (y : List Sign) (a : A) → (g.in_parentheses p).spells y a → AreWritten y → (z : List Sign) × p.spells z a × AreWritten z
within {A = A} p y a h w =
    let inner = behind sign.Open (g.before p sign.Close) y a h w in
    let b = inner.1.1 in
    let split = written_split b.0 b.1 (subst AreWritten b.2 inner.2) in
    let P : A → Type 0 = λ v. p.spells b.0 v in
    (b.0, subst P (sym inner.1.2) b.3, split.0)

-- ---- repetitions
fails_all : {A : Type 0} (goes : ℕ → Bool) (print : A → List ℕ) (all : List A) → ((a : A) → Fails goes (print a)) → Fails goes (flat_map print all)
fails_all goes print [] f = tt
fails_all goes print (a ∷ all) f = fails_append goes (print a) (flat_map print all) (f a) (fails_all goes print all f)

-- Each repeat that is spelled by a part is printed as another part.
module _ {A S : Type 0} (body other : S → Part Sign A) (step : S → A → S) (goes : ℕ → Bool) (print : A → List ℕ) (Q : A → Type 0)
    (apart : (a : A) → Fails goes (print a))
    (each : (s : S) (y : List Sign) (a : A) → (body s).spells y a → AreWritten y → Q a → Prints (other s) goes (print a) a) where
  pub prints_many : (s : S) (all : List A) (x : List Sign) → SpellsMany body step s x all → AreWritten x → AllByRecursion Q all
      → Prints (many other step s) goes (flat_map print all) all
  prints_many s [] x h w q = record { ss = []; reads = reads_none goes; spells = refl }
  prints_many s (a ∷ all) x h w q =
      let split = written_split h.0 h.1 (subst AreWritten h.2 w) in
      let first = each s h.0 a h.3 split.0 q.0 in
      let rest = prints_many (step s a) all h.1 h.4 split.1 q.1 in
      record {
        ss = first.ss ++ rest.ss;
        reads = reads_append goes (print a) (flat_map print all) first.ss rest.ss (fails_all goes print all apart) first.reads rest.reads;
        spells = (first.ss, rest.ss, refl, first.spells, rest.spells);
      }

-- the same behind a token, as many times as are left
module _ {A : Type 0} (token : Sign) (p other : Part Sign A) (goes : ℕ → Bool) (between : List ℕ) (print : A → List ℕ) (Q : A → Type 0)
    (mark : Reads nothing between (token ∷ [])) (apart : (cs : List ℕ) → Fails goes (between ++ cs))
    (each : (y : List Sign) (a : A) → p.spells y a → AreWritten y → Q a → Prints other goes (print a) a) where
  pub each_behind : (y : List Sign) (a : A) → (g.after token p).spells y a → AreWritten y → Q a → Prints (g.after token other) goes (between ++ print a) a
  each_behind y a h w q =
      let b = behind token p y a h w in
      prints_after token other goes between (print a) a mark (each b.0 a b.1 b.2 q)

  each_left : (n : ℕ) (y : List Sign) (a : A) → (part.while_left (g.after token p) n).spells y a → AreWritten y → Q a → Prints (part.while_left (g.after token other) n) goes (between ++ print a) a
  each_left zero y a h w q = absurd h
  each_left (suc n) y a h w q = each_behind y a h w q

  -- any number of them
  pub prints_any : (x : List Sign) (all : List A) → (part.any_number (g.after token p)).spells x all → AreWritten x → AllByRecursion Q all
      → Prints (part.any_number (g.after token other)) goes (flat_map (λ a. between ++ print a) all) all
  prints_any x all h w q =
      prints_many {S = ℕ} (λ _. g.after token p) (λ _. g.after token other) (λ n _. n) goes (λ a. between ++ print a) Q (λ a. apart (print a)) (λ n. each_behind) 0 all x h w q

  -- a first, and those behind it
  pub prints_separated : (limit : ℕ) (x : List Sign) (all : List A) → (g.separated token limit p).spells x all → AreWritten x → AllByRecursion Q all
      → Prints (g.separated token limit other) goes (join_by print between all) all
  prints_separated limit x all h w q =
      let b = h.1 in
      let split = written_split b.0 b.1 (subst AreWritten b.2 w) in
      let q = subst (AllByRecursion Q) h.2 q in
      let first = each b.0 h.0.0 b.3 split.0 q.0 in
      let rest = prints_many (part.while_left (g.after token p)) (part.while_left (g.after token other)) one_fewer goes (λ a. between ++ print a) Q (λ a. apart (print a)) each_left limit h.0.1 b.1 b.4 split.1 q.1 in
      prints_value (g.separated token limit other) goes (join_by print between) (h.0.0 ∷ h.0.1) all (sym h.2)
      (prints_as (λ v. v.0 ∷ v.1) (both other (λ _. part.repeated limit (g.after token other))) goes _ (h.0.0, h.0.1)
      (prints_both other (λ _. part.repeated limit (g.after token other)) goes (print h.0.0) (flat_map (λ a. between ++ print a) h.0.1) h.0.0 h.0.1
      (fails_all goes (λ a. between ++ print a) h.0.1 (λ a. apart (print a))) first rest))

  -- the same with no limit
  pub prints_listed : (x : List Sign) (all : List A) → (as_value {A = A × List A} (λ v. v.0 ∷ v.1) (both p (λ _. part.any_number (g.after token p)))).spells x all → AreWritten x → AllByRecursion Q all
      → Prints (as_value {A = A × List A} (λ v. v.0 ∷ v.1) (both other (λ _. part.any_number (g.after token other)))) goes (join_by print between all) all
  prints_listed x all h w q =
      let b = h.1 in
      let split = written_split b.0 b.1 (subst AreWritten b.2 w) in
      let q = subst (AllByRecursion Q) h.2 q in
      let first = each b.0 h.0.0 b.3 split.0 q.0 in
      let rest = prints_any b.1 h.0.1 b.4 split.1 q.1 in
      prints_value (as_value {A = A × List A} (λ v. v.0 ∷ v.1) (both other (λ _. part.any_number (g.after token other)))) goes (join_by print between) (h.0.0 ∷ h.0.1) all (sym h.2)
      (prints_as (λ v. v.0 ∷ v.1) (both other (λ _. part.any_number (g.after token other))) goes _ (h.0.0, h.0.1)
      (prints_both other (λ _. part.any_number (g.after token other)) goes (print h.0.0) (flat_map (λ a. between ++ print a) h.0.1) h.0.0 h.0.1
      (fails_all goes (λ a. between ++ print a) h.0.1 (λ a. apart (print a))) first rest))

-- ---- what may be absent
pub prints_some : {A : Type 0} (p : Part Sign A) (otherwise : A) (goes : ℕ → Bool) (cs : List ℕ) (a : A) → Prints p goes cs a → Prints (g.optional p otherwise) goes cs a
prints_some p otherwise goes cs a h = prints_left p (empty otherwise) goes cs a h

pub prints_absent : {A : Type 0} (p : Part Sign A) (otherwise : A) (goes : ℕ → Bool) → Prints (g.optional p otherwise) goes [] otherwise
prints_absent p otherwise goes = prints_right p (empty otherwise) goes [] otherwise (prints_empty goes otherwise)
