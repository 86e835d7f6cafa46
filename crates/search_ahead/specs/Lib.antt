-- The definitions that the contracts cite, a file for each look. Those of the bound, which speak of no star and no direction, are assignment's.
pub mod Forward
pub mod Pairs
pub mod narrow
