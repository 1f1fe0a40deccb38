pub mod Below
pub mod Shift
pub mod Found
pub mod Listed
pub mod Offers
pub mod Agree
pub mod Missing
