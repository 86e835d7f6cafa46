-- What the contracts cite.
pub mod Contested
pub mod Alike
