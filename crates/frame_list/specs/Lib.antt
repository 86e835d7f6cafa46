-- The definitions that the contracts of `frame_list` cite, and their laws.
pub mod Stars
pub mod StarsLaws
pub mod Calls
pub mod CallsLaws
pub mod ListingLaws
pub mod input
