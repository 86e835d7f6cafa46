-- What a matrix is worth that directions and stars gave, and that of every accepted chain, chain by an index and record of a burst; the gimbal's floats; the
-- second star; and the true names of a chain.
pub mod Worth
pub mod Second
pub mod Chain
pub mod Index
pub mod Burst
pub mod Names
