pub mod Lists
pub mod Tables
pub mod Described
pub mod Choosing
