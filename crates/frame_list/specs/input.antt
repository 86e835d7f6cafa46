-- The definitions that the contracts of `frame_list::input` cite, and their laws.
pub mod Input
pub mod InputLaws
