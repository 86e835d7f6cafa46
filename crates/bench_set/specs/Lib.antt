-- The bench set: its frames, what a case says, and the table. That every case holds is proofs/Bench.
pub mod Frames
pub mod Case
pub mod Table
