pub mod State
pub mod Work
