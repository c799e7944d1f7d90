pub mod Doors
pub mod Memory
pub mod Moments
pub mod Standard
pub mod Streams
pub mod Tcp
pub mod inner
pub use Rattle.base_value.specs.Causes
