pub mod Placed
pub mod SoundOut
pub mod Pointed
