-- The definitions that the contracts of `files` cite, and their laws.
pub mod Settings
pub mod SettingsLaws
pub mod Samples
