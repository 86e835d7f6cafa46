-- The definitions that the contracts of `desk_lines::compare` cite, and their laws.
pub mod Lines
pub mod LinesLaws
