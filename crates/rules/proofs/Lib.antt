mod Before
mod Few
mod FromFn
mod Limits
mod Overdue
pub mod Peaks
