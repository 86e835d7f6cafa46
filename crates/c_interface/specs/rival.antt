-- The numbers that the call hands over. Assumes nothing.
pub mod Rival
pub mod RivalLaws
