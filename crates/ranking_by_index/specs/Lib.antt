-- The ranking by an index: the definitions that the contracts cite, and their laws.
pub mod Call
pub mod Stars
pub mod Steps
pub mod votes
