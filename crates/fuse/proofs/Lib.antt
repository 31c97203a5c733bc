-- What the proofs use.
mod Laws
