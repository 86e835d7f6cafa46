-- The statement over the table.
pub mod Bench
