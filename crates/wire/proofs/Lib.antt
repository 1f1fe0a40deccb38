pub mod Bytes
pub mod Parts
pub mod Ends
pub mod RoundTrip
pub mod Slices
pub mod Before
