-- The laws of the definitions in specs/.
pub mod AnswerLaws
pub mod CountedLaws
pub mod Laws
