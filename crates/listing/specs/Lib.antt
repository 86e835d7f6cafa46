-- The definitions that the listing's contracts cite, and their laws.
pub mod Listing
pub mod ListingLaws
pub mod Rival
pub mod Asked
pub mod AskedLaws
pub mod Alike
pub mod lines
