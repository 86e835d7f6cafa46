-- Votes from an index: the definitions that the contracts cite, and their laws.
pub mod Pair
pub mod Span
pub mod SpanLaws
pub mod Near
pub mod Plain
pub mod Directions
pub mod Border
