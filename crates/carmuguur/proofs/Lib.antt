pub mod Unopened
