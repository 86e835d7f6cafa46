-- What std's tests of a list say in the words of the tests over numbers.
pub mod Listed
