-- Laws that nobody must read.
pub mod CopyLaws
pub mod CountLaws
