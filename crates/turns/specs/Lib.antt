pub mod Reference
pub mod Terms
pub mod Numbers
