pub mod Scanned
pub mod Seeking
pub mod Going
pub mod Judging
pub mod Verdicts
