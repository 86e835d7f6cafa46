-- The definitions that the contracts of `catalogue` cite, and their laws.
pub mod Format
pub mod Signed
pub mod Rule
pub mod RuleSteps
pub mod Check
pub mod CheckSteps
pub mod Valid
pub mod RuleLaws
pub mod CheckLaws
pub mod Stars
pub mod StarsLaws
pub mod Filled
pub mod ValidStars
pub mod Lent
pub mod Alike
