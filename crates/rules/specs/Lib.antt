pub mod DueSets
pub mod Meanings
pub mod Piles
pub mod Laws
