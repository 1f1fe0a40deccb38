pub mod Lent
pub mod Lists
pub mod Requests
pub mod Lending
