-- Of records with ids, one after another, those that the user may read.
use Rattle.std.proofs.Common.{◌≡◌, ℕ, ◌+◌, ◌<◌, List, [], ◌∷◌, ◌++◌, get_or, length, take, add-one, Option, Some, None, refl, sym, ap, ap₂, ◌∙◌}
use Rattle.std.specs.List.{cons_option, filter_map}
use Rattle.std.specs.Option.{option_and_then}
use Rattle.std.proofs.Math.Seq.{take-suc}
use Rattle.std.proofs.lemmas.List.Elements.{filter_map-append}
use Rattle.model.specs.declared.record.Record.{Record}
use Rattle.model.specs.Rights.{record_of_object}
use Rattle.model.specs.Tenant.{Tenant, User}
use Rattle.query_related.specs.parents.Parents.{if_readable_by}
use Rattle.query_related.specs.parents.inner.Reading.{readable_among, records_in}

in_list : (found : Option Record) → records_in found ≡ cons_option found []
in_list None = refl
in_list (Some r) = refl

module _ (t : Tenant) (u : User) (n : ℕ) where
  -- the record with an id, if the user may read it
  abbrev pub one_with : List ℕ → Option Record
  one_with id = option_and_then (if_readable_by t u) (record_of_object t n id)

  -- with one id more
  pub one_more : (ids : List (List ℕ)) (i : ℕ) (id : List ℕ) → i < length ids → id ≡ get_or ids i id → (before : List Record) → before ≡ readable_among t u n (take i ids)
      → (found : Option Record) → found ≡ one_with id → before ++ records_in found ≡ readable_among t u n (take (i + 1) ids)
  one_more ids i id within is before so found here =
      let more : take (i + 1) ids ≡ take i ids ++ id ∷ [] =
      ap (λ (k : ℕ). take k ids) (add-one i) ∙ take-suc ids i id within ∙ ap (λ (x : List ℕ). take i ids ++ x ∷ []) (sym is) in
      ap₂ (λ (xs ys : List Record). xs ++ ys) so (ap records_in here ∙ in_list (one_with id))
      ∙ sym (filter_map-append one_with (take i ids) (id ∷ []))
      ∙ ap (filter_map one_with) (sym more)
