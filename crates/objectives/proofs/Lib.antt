pub mod BestValues
pub mod PeakPairs
pub mod Preorder
