-- What the programs that play recorded calls compute of what they read: no definition can say what a file holds.
pub mod Sum
pub mod Half
