-- No wrong name where an identification is alone and the truth fits; how wide a tolerance makes the truth fit; and both together.
pub mod Names
pub mod Mirror
pub mod Tolerance
pub mod Field
pub mod Sure
