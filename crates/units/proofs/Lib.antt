pub mod Ranged
pub mod Round
