-- The guider: its boxes, its rule, and what its calls give.
pub mod Guider
pub mod Rule
pub mod RuleLaws
pub mod Calls
pub mod Answers
pub mod FollowLaws
pub mod AfterLaws
pub mod ChainLaws
pub mod OrderLaws
pub mod StartLaws
