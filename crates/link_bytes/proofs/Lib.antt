pub mod Lent
pub mod Lens
pub mod Round
