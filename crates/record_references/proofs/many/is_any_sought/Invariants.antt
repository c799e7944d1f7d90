use Rattle.std.specs.Prelude.{IfSome, None}
use Rattle.std.specs.Option.{option_map}
use Rattle.store_kv.specs.Draft.{DraftTells, tables_of}
use Rattle.store_abstraction.specs.Calls.{Calls, done}
use Rattle.record_references.specs.inner.Many.{FitsParts, kept_after, parts_bytes}
use Rattle.record_references.proofs.Scanned.{GoesOn}
use Rattle.record_references.proofs.many.is_any_sought.Given as goal

-- no row so far is sought
abbrev pub invariant-pages : goal.invariant-pages
invariant-pages g l = record {
  calls : Calls g.K.Keeper.state 0 done l.fn.draft l.draft;
  last : IfSome l.last (λ key. FitsParts key);
  rest : DraftTells g.K.Keeper.state l.fn.draft l.draft
      → GoesOn (kept_after (tables_of g.K.Keeper.state l.fn.draft) l.fn.place None) l.fn.targets.keys l.fn.without.keys
      (kept_after (tables_of g.K.Keeper.state l.fn.draft) l.fn.place (option_map parts_bytes l.last));
}
