pub mod Reading
pub mod WorkedTexts
