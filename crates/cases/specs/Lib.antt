pub mod Table
pub mod Expected
