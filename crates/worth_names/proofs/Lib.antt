-- The laws of the definitions in specs/.
pub mod Field
pub mod Sure
pub mod Tolerance
pub mod Names
