pub mod grammar
pub mod Meaning
pub mod Naming
pub mod Worked
pub mod Operands
