pub mod Bits
pub mod Reached
pub mod Room
mod RowLists
mod Widths
