pub mod Text
pub mod Puts
pub mod Same
pub mod Cursors
