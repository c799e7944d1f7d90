pub mod Pages
pub mod Judged
