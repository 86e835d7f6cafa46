-- The laws of the definitions in specs/.
pub mod BoundLaws
pub mod Catalogue
pub mod Lent
pub mod NamesLaws
pub mod NeverLaws
pub mod ReadyLaws
pub mod RoomLaws
pub mod SightingLaws
pub mod ToldLaws
