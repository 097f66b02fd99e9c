pub mod Number
pub mod Commas
pub mod Puts
pub mod Pages
