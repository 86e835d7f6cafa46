-- The definitions that the contracts of `camera_direction` cite, and their laws.
pub mod List
pub mod ListSteps
pub mod ListLaws
pub mod Settings
pub mod Position
pub mod Direction
pub mod PositionLaws
pub mod SettingsLaws
pub mod camera
