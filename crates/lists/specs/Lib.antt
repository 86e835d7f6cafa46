-- Testing, searching and counting below a bound: the definitions and their laws.
pub mod Contradiction
pub mod Tests
pub mod TestsLaws
pub mod First
pub mod Number
pub mod Order
pub mod Laws
pub mod InPlace
