-- The definitions that the contracts of `frame_window::neighbours` cite, and their laws.
pub mod Neighbours
pub mod Laws
