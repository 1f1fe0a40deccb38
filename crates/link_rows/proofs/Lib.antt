pub mod Front
pub mod Every
pub mod Split
pub mod Laws
