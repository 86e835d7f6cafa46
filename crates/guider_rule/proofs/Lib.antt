-- The laws of the definitions in specs/.
pub mod AfterLaws
pub mod ChainLaws
pub mod FollowLaws
pub mod FrameLaws
pub mod OrderLaws
pub mod RuleLaws
pub mod StartLaws
