pub mod Answered
pub mod StepCosts
