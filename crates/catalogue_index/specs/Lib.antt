-- The index of star pairs: the definitions that the contracts cite, and their laws.
pub mod Raised
pub mod RaisedLaws
pub mod Index
pub mod IndexSteps
pub mod Grown
pub mod GrownLaws
pub mod KeyLaws
pub mod Pairs
pub mod Laws
pub mod Example
pub mod Build
pub mod BuildLaws
pub mod Check
pub mod CheckLaws
pub mod Alike
pub mod records
