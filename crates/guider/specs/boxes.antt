-- The single star in a guide's box.
pub mod Single
