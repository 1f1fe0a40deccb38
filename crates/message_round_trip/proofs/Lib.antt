pub mod RoundTrip
pub mod Calls
pub mod Rows
pub mod Typed
pub mod Back
pub mod Again
pub mod Every
