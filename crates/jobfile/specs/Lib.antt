pub mod Check
pub mod Checks
pub mod Edition
pub mod Fields
pub mod Tests
