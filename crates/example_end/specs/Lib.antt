pub mod Simulated
pub mod Owed
