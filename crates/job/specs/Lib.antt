pub mod Content
pub mod Jobs
pub mod Reading
pub mod WellFormed
