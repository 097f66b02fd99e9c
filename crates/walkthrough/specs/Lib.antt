pub mod Asked
pub mod Opened
pub mod Sources
