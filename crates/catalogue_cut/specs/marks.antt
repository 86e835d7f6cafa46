-- The definitions that the contracts of `catalogue_cut::marks` cite, and their laws.
pub mod Number
pub mod Marks
pub mod MarksLaws
pub mod Judge
