use Rattle.std.proofs.Common.{[], inl, refl}
use Rattle.std.specs.Prelude.{codes}
use Rattle.sha2.specs.Sha256.{sha256}
use Rattle.base_grammar.specs.Tokens.{is_letter}
use Rattle.base_value.specs.Digits.{digits}
use Rattle.base_value.specs.Id.{made}
use Rattle.model.specs.Names.{is_custom_name, is_stem}
use Rattle.model.specs.Objects.{object_named, object_number, record_prefix}
use Rattle.model.specs.Sound.{is_name}
use Rattle.model_invariant.specs.Worked.{acme, asks_for_deal, new_deals}
use Rattle.model_invariant.proofs.Digests.{digest_size}
use Rattle.model_invariant.proofs.rows.sound_rows.Goals as goal

pub returns-clause-new : goal.returns-clause-new
unfolding is_name
returns-clause-new c = c.organisation_laws.ensures.fresh (codes "Acme") (sha256 (codes "abc!d")) refl (digest_size (codes "abc!d"))

pub returns-clause-object : goal.returns-clause-object
returns-clause-object c = c.objects_sound.ensures.add_object acme new_deals refl (returns-clause-new c)

pub returns-clause-record : goal.returns-clause-record
unfolding is_letter is_custom_name is_stem object_named object_number made digits record_prefix
returns-clause-record c =
    c.records_sound.ensures.create asks_for_deal (codes "Deal__c") [] (refl, refl) (λ n o at. c.fit_laws.ensures.given asks_for_deal o [] refl) (returns-clause-object c)

pub returns-clause-numbered : goal.returns-clause-numbered
unfolding is_letter is_custom_name is_stem object_named object_number made digits record_prefix
returns-clause-numbered c = (_, refl)

pub returns-clause-has : goal.returns-clause-has
unfolding is_letter is_custom_name is_stem object_named object_number made digits record_prefix
returns-clause-has c = (_, inl refl, refl)

pub returns-clause-administrator : goal.returns-clause-administrator
unfolding is_letter is_custom_name is_stem object_named object_number made digits record_prefix
returns-clause-administrator c = (inl refl, refl)

pub returns-clause-used : goal.returns-clause-used
unfolding is_letter is_custom_name is_stem object_named object_number made digits record_prefix
returns-clause-used c = refl
