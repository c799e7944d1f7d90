pub mod Making
pub mod Judged
pub mod Reading
pub mod Named
pub mod StepByStep
pub mod Putting
