-- The lemmas that the proofs share.
mod Words
mod Others
