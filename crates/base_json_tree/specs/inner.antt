-- Words of private functions' contracts alone.
pub mod Printed
