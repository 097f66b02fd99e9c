pub mod Model
pub mod Held
pub mod Result
pub mod Askers
pub mod Reach
pub mod Rewritten
