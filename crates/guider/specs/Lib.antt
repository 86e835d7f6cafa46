-- The identities of a guider's guides, as a list of their own.
pub mod Identities
pub mod boxes
