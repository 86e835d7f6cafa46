-- The definitions that the contracts cite, and their laws.
pub mod Ranking
pub mod Laws
pub mod Rows
pub mod Refusals
pub mod RefusalSteps
pub mod Room
pub mod RoomLaws
pub mod Example
pub mod Alike
pub mod row
