-- The definitions that the contracts cite.
pub mod Input
pub mod Sought
pub mod Task
pub mod difference
