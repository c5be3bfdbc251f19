pub mod Licences
pub mod Told
