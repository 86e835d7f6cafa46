-- A burst: the definitions that its contract cites, and their laws.
pub mod Burst
pub mod Admit
pub mod OneMore
pub mod Laws
pub mod records
