pub mod Lineup
