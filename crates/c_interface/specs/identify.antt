-- The numbers that the stars' calls hand over. Assumes nothing.
pub mod Search
pub mod SearchLaws
pub mod Attitude
