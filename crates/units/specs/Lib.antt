pub mod Axes
pub mod Faults
pub mod Nearest
pub mod Quantities
