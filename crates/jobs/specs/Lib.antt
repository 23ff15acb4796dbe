pub mod Checks
pub mod Conversions
pub mod Ends
