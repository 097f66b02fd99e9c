pub mod Pieces
pub mod Lawful
pub mod Short
pub mod Appending
