-- What is said of the bits of a float, and laws that several crates cite.
pub mod Bits
pub mod Quotient
pub mod Whole
pub mod Scaled
