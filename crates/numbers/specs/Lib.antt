-- Sizes of signed numbers, what fits a width, and the whole-number root: the definitions and laws that every crate with arithmetic cites. Then the ring of
-- the whole numbers with a solver of its identities, quotients with their rests, and sums of squares.
pub mod Abs
pub mod Within
pub mod Num
pub mod Order
pub mod TwosComplement
pub mod Root
pub mod Near
pub mod Steps
pub mod Ring
pub mod Solver
pub mod Split
pub mod Squares
