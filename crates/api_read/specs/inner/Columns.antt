-- Where the fields that a record shows have their values, by the layout of its object. No public contract reaches these words.
use Rattle.std.specs.Prelude.{◌≡◌, ℕ, zero, suc, Bool, true, false, if◌then◌else◌, List, [], ◌∷◌, ◌++◌, length, Option, Some, None, Result, Ok, Err}
use Rattle.std.specs.List.{list_any}
use Rattle.form_urlencoded.specs.Form.{split}
use Rattle.model.specs.Cases.{in_case}
use Rattle.model.specs.Fields.{is_master, same_name}
use Rattle.model.specs.declared.refusal.Refusal.{Refusal}
use Rattle.model.specs.declared.refusal.Refusal.TheVariants.{InvalidField}
use Rattle.query_check.specs.Columns.{column_in}
use Rattle.query_plan.specs.declared.check.Site.{Site}
use Rattle.query_plan.specs.declared.check.Site.TheVariants as site
use Rattle.store_abstraction.specs.declared.fail.EditFail.{EditFail}
use Rattle.store_abstraction.specs.declared.fail.EditFail.TheVariants.{Refused, Store}
use Rattle.store_abstraction.specs.declared.layout.Layout.{Layout}
use Rattle.store_rows.specs.declared.fail.StoreFail.TheVariants.{Memory}

-- ---- all of them

-- those that every object has; a detail has no owner
abbrev pub first_sites : (detail : Bool) → List Site
first_sites true = site.Id ∷ site.Value 0 ∷ site.Created ∷ site.Modified ∷ []
first_sites false = site.Id ∷ site.Owner ∷ site.Value 0 ∷ site.Created ∷ site.Modified ∷ []

-- those of so many custom fields, behind so many
abbrev pub value_sites : (count before : ℕ) → List Site
value_sites zero before = []
value_sites (suc n) before = site.Value (suc before) ∷ value_sites n (suc before)

-- in the order in which a record shows them
abbrev pub shown_sites : Layout → List Site
shown_sites l = first_sites (list_any (λ f. is_master f.kind) l.fields) ++ value_sites (length l.fields) 0

-- ---- those that are named

abbrev pub Sites : Type 0
Sites = Result (List Site) Refusal

-- one more in front
abbrev pub with_site : Site → Sites → Sites
with_site s (Ok sites) = Ok (s ∷ sites)
with_site s (Err refusal) = Err refusal

-- the one with this name, unless it is among the names before it
abbrev pub site_named : Layout → (before : List (List ℕ)) → (name : List ℕ) → Option Site
site_named l before name = in_case (column_in l name) None (λ c. if list_any (same_name name) before then None else Some c.site)

-- those with these names: INVALID_FIELD names the first that isn't there, or that is named again
abbrev pub sites_named : Layout → (before names : List (List ℕ)) → Sites
sites_named l before [] = Ok []
sites_named l before (name ∷ names) =
    in_case (site_named l before name) (Err (InvalidField name)) (λ s. with_site s (sites_named l (before ++ name ∷ []) names))

-- those whose names stand between commas; all of them where nothing is said
abbrev pub sites_asked : Layout → Option (List ℕ) → Sites
sites_asked l None = Ok (shown_sites l)
sites_asked l (Some []) = Ok (shown_sites l)
sites_asked l (Some (c ∷ cs)) = sites_named l [] (split 44 (c ∷ cs))

-- these were found, or why not; or it is out of memory
abbrev pub FindsSites : Sites → Result (List Site) EditFail → Type 0
FindsSites s (Ok sites) = s ≡ Ok sites
FindsSites s (Err (Refused r)) = s ≡ Err r
FindsSites s (Err (Store e)) = e ≡ Memory
