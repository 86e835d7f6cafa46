-- Lemmas of `words`.
pub mod Whole
