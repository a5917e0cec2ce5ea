pub mod Bits
pub mod Bytes
pub mod Orders
pub mod Reach
pub mod RowLists
