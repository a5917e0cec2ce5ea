mod Accepted
mod Conditions
mod Counted
pub mod Readings
mod Verdicts
