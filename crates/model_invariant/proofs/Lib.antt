pub mod Past
pub mod Steps
mod Truths
mod KnownSigns
mod FormulaTexts
pub mod SoundParts
pub mod Parts
mod Orders
mod Growing
pub mod RuleTexts
mod Roles
mod Digests
mod PeopleSound
mod SharingSound
mod ContentSound
mod RecordsSound
mod CreatesSound
mod UpdatesSound
mod UpsertsSound
mod JobsSound
mod BeginsSound
mod DeletesSound
mod ObjectsSound
mod FormulasSound
mod JobFormulas
mod OtherFormulas
pub mod Changes
mod SwitchSound
mod NewObjects
mod NewFieldsSound
mod AddsField
mod NumbersMean
mod AddsFormulas
mod SwitchFormulas
pub mod GivenFits
pub mod BodyTexts
mod FreshIds
