pub mod Contents
pub mod Fields
