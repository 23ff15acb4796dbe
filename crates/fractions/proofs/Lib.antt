pub mod Ring
pub mod Turn
pub mod Steps
pub mod Units
