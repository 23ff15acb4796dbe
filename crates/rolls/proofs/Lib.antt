pub mod Found
pub mod Longer
