pub mod Printing
pub mod Wording
