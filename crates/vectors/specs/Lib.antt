-- The definitions that the contracts cite, and their laws; then what always holds of dot and cross products, and how the solver reads a vector.
pub mod Vectors
pub mod Triples
pub mod Agree
pub mod Laws
pub mod Symbols
pub mod Identities
pub mod Unit
pub mod handedness
