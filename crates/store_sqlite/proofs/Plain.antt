-- A text that is a query writes nothing, whatever the schema.
use Rattle.std.proofs.Common.{◌≡◌, ℕ, ◌+◌, List, Bool, true, false, cond, Option, Some, None, Ok, Err, IsSome, true≢false, refl, sym, ap, ◌∙◌}
use Rattle.base_lemmas.proofs.Results.{same_Ok as ok_same}
use Rattle.sqlite_resolve.specs.Lowering.{Checked, and_then}
use Rattle.sqlite_syntax.specs.declared.statement.Parsed.{Parsed}
use Rattle.sqlite_resolve.specs.Compile.{first, small, timed, planned, meaning, returning, command, with_command, compiled}
use Rattle.sqlite_resolve.specs.declared.compiled.Compiled.{Compiled}
use Rattle.sqlite_resolve.specs.declared.error.CompileError.TheVariants.{NoSuchTable}
use Rattle.sqlite_schema.specs.declared.schema.Schema.{Schema}
use Rattle.sqlite_schema.specs.declared.command.Returning.{Returning}
use Rattle.sqlite_schema.specs.declared.command.Command.{Command}
use Rattle.sqlite_tied.specs.Compute.{everything}
use Rattle.sqlite.specs.Listing.{understood, reads_listing, if_select, is_select, listing_schema}
use Rattle.sqlite.specs.Order.{Row}
use Rattle.sqlite.specs.State.{State, Survives, CommitsShowing}
use Rattle.sqlite.proofs.StateLemmas.{survives_weaker}
use Rattle.store_sqlite.specs.Kept.{get_text, scan_text, others_text}

-- the text, if it is one, has no RETURNING
abbrev pub IsBare : Checked Parsed → Type 0
IsBare (Ok p) = (schema : Schema) (base : ℕ) → returning schema base p.statement ≡ Ok None
IsBare (Err e) = Unit {0}

pub get_bare : IsBare (first get_text)
unfolding everything
get_bare schema base = refl

pub scan_bare : IsBare (first scan_text)
unfolding everything
scan_bare schema base = refl

pub others_bare : IsBare (first others_text)
unfolding everything
others_bare schema base = refl

then_ok : {A B : Type 0} (x : Checked A) (f : A → Checked B) (b : B) → and_then x f ≡ Ok b → (a : A) × (x ≡ Ok a) × (f a ≡ Ok b)
then_ok (Ok a) f b is = (a, refl, is)
then_ok (Err e) f b is = absurd cc

bare_meaning : (r : Checked (Option Returning)) (k : Checked Command) (q : Command × Option Returning) → r ≡ Ok None → and_then r (λ shown. and_then k (λ c. Ok (c, shown))) ≡ Ok q → q.1 ≡ None
bare_meaning (Err e) k q none is = absurd cc
bare_meaning (Ok x) (Err e) q none is = absurd cc
bare_meaning (Ok x) (Ok c) q none is = sym (ap (λ (v : Command × Option Returning). v.1) (ok_same (c, x) q is)) ∙ ok_same x None none

bare_plan : (schema : Schema) (p : Parsed) → ((base : ℕ) → returning schema base p.statement ≡ Ok None) → (c : Compiled) → and_then (planned schema p) (λ plan. Ok (with_command p plan)) ≡ Ok c → c.returning ≡ None
unfolding planned meaning
bare_plan schema p bare c is =
    let base = small p.names + small (timed schema p.formats p.statement) in
    let x = then_ok (planned schema p) (λ plan. Ok (with_command p plan)) c is in
    let y = then_ok (meaning schema p base) (λ found. Ok (timed schema p.formats p.statement, found)) x.0 x.1 in
    let none : y.0.1 ≡ None = bare_meaning (returning schema base p.statement) (command schema p.formats base p.statement) y.0 (bare base) y.1 in
    let second : x.0.1.1 ≡ y.0.1 = sym (ap (λ (q : List (List ℕ) × (Command × Option Returning)). q.1.1) (ok_same (timed schema p.formats p.statement, y.0) x.0 y.2)) in
    let third : c.returning ≡ x.0.1.1 = sym (ap (λ (k : Compiled). k.returning) (ok_same (with_command p x.0) c x.2)) in
    third ∙ second ∙ none

bare_compiled : (schema : Schema) (text : List ℕ) (c : Compiled) → IsBare (first text) → compiled schema text ≡ Ok c → c.returning ≡ None
unfolding compiled
bare_compiled schema text c = go (first text)
  where
    go : (r : Checked Parsed) → IsBare r → and_then r (λ p. and_then (planned schema p) (λ plan. Ok (with_command p plan))) ≡ Ok c → c.returning ≡ None
    go (Ok p) bare is = bare_plan schema p (bare schema) c is
    go (Err e) bare is = absurd cc

of_select : (r : Checked Compiled) (c : Compiled) → if_select r ≡ Ok c → r ≡ Ok c
of_select (Ok x) c is = go (is_select x.command) is
  where
    go : (b : Bool) → ◌≡◌ {A = Checked Compiled} (cond b (Ok x) (Err NoSuchTable)) (Ok c) → ◌≡◌ {A = Checked Compiled} (Ok x) (Ok c)
    go true is = is
    go false is = absurd cc
of_select (Err e) c is = absurd cc

pub bare : (schema : Schema) (text : List ℕ) (c : Compiled) → IsBare (first text) → understood schema text ≡ Ok c → c.returning ≡ None
unfolding understood
bare schema text c is = go (reads_listing schema text)
  where
    go : (b : Bool) → cond b (if_select (compiled listing_schema text)) (compiled schema text) ≡ Ok c → c.returning ≡ None
    go true got = bare_compiled listing_schema text c is (of_select _ c got)
    go false got = bare_compiled schema text c is got

no_some : {X : Type 0} (o : Option X) → o ≡ None → IsSome o → ⊥
no_some None is h = true≢false (sym h)
no_some (Some x) is h = absurd cc

pub commits_none : (old new : State) (sql : List ℕ) (params : Row) → IsBare (first sql) → Survives old new (CommitsShowing sql params old) → Survives old new (λ _. ⊥)
unfolding CommitsShowing
commits_none old new sql params is = survives_weaker old new _ _ (λ _ db h. no_some h.0.returning (bare old.now.schema sql h.0 is h.1.is) h.2)
