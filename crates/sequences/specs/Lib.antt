pub mod JobCosts
pub mod Joins
pub mod Sequences
pub mod Stacks
pub mod StepRules
pub mod Steps
pub mod Sweeps
pub mod Values
