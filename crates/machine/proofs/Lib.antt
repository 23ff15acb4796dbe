pub mod Joins
pub mod Taken
pub mod Relations
pub mod Roundings
pub mod Visits
