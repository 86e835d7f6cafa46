-- The lemmas that several proofs share, a file for each look, and the marks of ones that a search begins with.
pub mod Marks
mod ForwardLaws
mod PairsLaws
