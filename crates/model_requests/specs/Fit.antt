-- What the form of a body gives, of any request. Every request that is read has it; a request as data may lack it, and then what
-- its verdict leaves need not be sound. It is this product's own.
use Rattle.std.specs.Prelude.{IsTrue}
use Rattle.base_value.specs.Types.{is_type}
use Rattle.model.specs.Paths.{Asked}
use Rattle.model.specs.Retyping.{new_type}
use Rattle.model_invariant.specs.Fit.{OfObjects, ReadsWell, ReadsWellByKey, is_fit_field, is_fit_object, is_fit_object_change, is_fit_rule, is_fit_share, is_fit_validation}
use Rattle.model_requests.specs.Requests.{Request, creates, updates, upserts, shares, adds_object, sets_object, adds_field, adds_validation_rule, adds_sharing_rule, begins_retype}

-- what the form of its body gives, for the user who asks
abbrev pub IsFit : Asked → Request → Type 0
IsFit a (creates object given) = OfObjects a (λ o. ReadsWell a o given)
IsFit a (updates object key given) = OfObjects a (λ o. ReadsWell a o given)
IsFit a (upserts object key text given) = OfObjects a (λ o. ReadsWellByKey a key text o given)
IsFit a (shares b) = IsTrue (is_fit_share b)
IsFit a (adds_object b) = IsTrue (is_fit_object b)
IsFit a (sets_object object change) = IsTrue (is_fit_object_change change)
IsFit a (adds_field b) = IsTrue (is_fit_field b)
IsFit a (adds_validation_rule b) = IsTrue (is_fit_validation b)
IsFit a (adds_sharing_rule b) = IsTrue (is_fit_rule b)
IsFit a (begins_retype object field to) = IsTrue (is_type (new_type to))
IsFit a r = Unit {0}
