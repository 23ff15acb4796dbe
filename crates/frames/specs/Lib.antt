pub mod Pushing
pub mod Axes
pub mod Exact
pub mod Theorems
pub mod Laws
pub mod Examples
