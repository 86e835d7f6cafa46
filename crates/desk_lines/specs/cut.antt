-- The line of a cut, its limit as a word, and their laws.
pub mod Lines
pub mod LinesLaws
pub mod Limit
pub mod LimitLaws
