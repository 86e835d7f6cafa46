-- The attitude of an identification, and its laws.
pub mod Orient
pub mod OrientLaws
