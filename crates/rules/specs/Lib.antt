pub mod Views
pub mod Standings
pub mod Limits
pub mod Filled
pub mod Held
pub mod Tallies
pub mod PurseLimitLemmas
