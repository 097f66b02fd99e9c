pub mod Lengths
pub mod Pushes
pub mod Fronts
