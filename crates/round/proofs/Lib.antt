pub mod Over
pub mod Answering
pub mod Opening
pub mod Logging
mod Peoples
mod Rewritten
