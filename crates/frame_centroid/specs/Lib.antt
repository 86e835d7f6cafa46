-- The definitions that the contracts of `frame_centroid` cite, and their laws.
pub mod Sums
pub mod Border
pub mod Centroid
pub mod Moments
pub mod Signed
pub mod Range
