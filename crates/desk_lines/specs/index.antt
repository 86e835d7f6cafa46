-- The line of an index that was made, and a law.
pub mod Pairs
pub mod PairsLaws
