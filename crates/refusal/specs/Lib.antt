-- The definitions that the contracts of every call cite, and their laws.
pub mod Numbers
pub mod Table
pub mod Laws
pub mod Answer
pub mod AnswerLaws
pub mod Counted
pub mod CountedLaws
