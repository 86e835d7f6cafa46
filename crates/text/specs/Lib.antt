-- The definitions that the contracts of `text` cite, and their laws.
pub mod Ascii
pub mod Decimal
pub mod Parse
pub mod DecimalLaws
pub mod ParseLaws
pub mod Sign
pub mod SignLaws
pub mod Written
pub mod WrittenLaws
pub mod Room
pub mod RoomLaws
pub mod Refused
