-- What the proofs of several functions use.
mod Arms
