mod Folds
mod Values
mod Walks
