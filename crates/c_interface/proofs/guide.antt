-- The laws of the definitions in specs/.
pub mod ListLaws
pub mod ReadLaws
pub mod RoomLaws
