pub mod Fourteen
