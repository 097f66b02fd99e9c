pub mod Faults
pub mod Keys
pub mod Lines
pub mod Entries
pub mod Written
