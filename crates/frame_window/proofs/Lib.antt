-- The laws of the definitions in specs/.
pub mod FirstLaws
pub mod Laws
pub mod Unbeaten
