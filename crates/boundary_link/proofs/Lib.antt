pub mod Fives
pub mod Whole
pub mod Reports
pub mod Round
pub mod None
pub mod Next
