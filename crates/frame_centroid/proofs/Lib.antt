-- The laws that the proofs of `frame_centroid` cite.
pub mod Inner
