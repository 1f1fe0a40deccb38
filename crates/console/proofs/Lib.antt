-- Lemmas of the crate console.
mod Limited
