-- The definitions that the contracts of `desk_lines` cite.
pub mod Worded
pub mod Why
pub mod FileLine
pub mod compare
pub mod index
pub mod cut
