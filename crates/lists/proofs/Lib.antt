-- The laws of the definitions in specs/.
pub mod NumberLaws
pub mod One
pub mod Below
pub mod First
pub mod Laws
