pub mod Calls
pub mod Held
pub mod Loops
pub mod Log
pub mod Running
pub mod Promise
pub mod Questions
pub mod Trials
