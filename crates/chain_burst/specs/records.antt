-- A burst's record: the definitions that the contracts cite, and their laws.
pub mod Record
pub mod Laws
