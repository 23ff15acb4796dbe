pub mod Signs
pub mod Increments
