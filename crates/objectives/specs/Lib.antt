pub mod BestValues
pub mod Objectives
pub mod PeakPairs
