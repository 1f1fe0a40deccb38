pub mod Chain
pub mod Decimal
pub mod Equal
