-- The laws of the definitions in specs/.
pub mod DirectionLaws
pub mod LengthLaws
pub mod MovedLaws
pub mod PositionLaws
