-- The definitions that the contracts cite.
pub mod Fit
pub mod Look
pub mod Span
