use Rattle.std.specs.Prelude.{IfSome, None}
use Rattle.std.specs.Option.{option_map}
use Rattle.store_kv.specs.Draft.{DraftTells, tables_of}
use Rattle.store_abstraction.specs.Calls.{Calls, done}
use Rattle.people_removal.specs.inner.Naming.{names}
use Rattle.people_removal.specs.inner.Scanning.{FitsParts, kept_after, parts_bytes}
use Rattle.people_removal.proofs.Scanned.{GoesOn}
use Rattle.people_removal.proofs.shares.is_any_kept.Given as goal

-- no share so far is sought
abbrev pub invariant-pages : goal.invariant-pages
invariant-pages g l = record {
  calls : Calls g.K.Keeper.state 0 done l.fn.draft l.draft;
  last : IfSome l.last (λ key. FitsParts key);
  rest : DraftTells g.K.Keeper.state l.fn.draft l.draft
      → GoesOn (kept_after (tables_of g.K.Keeper.state l.fn.draft) l.fn.org None) (names l.fn.named)
      (kept_after (tables_of g.K.Keeper.state l.fn.draft) l.fn.org (option_map parts_bytes l.last));
}
