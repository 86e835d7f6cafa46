-- The definitions that the contracts of `frame_window` cite, and their laws.
pub mod Window
pub mod Laws
pub mod FirstLaws
pub mod Place
pub mod neighbours
