pub mod Agree
pub mod Judging
pub mod Lend
pub mod Stepping
pub mod Valid
