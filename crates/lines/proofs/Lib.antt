pub mod Fronts
pub mod LineLaws
pub mod Steps
pub mod Readers
pub mod Canon
pub mod CanonEntries
