pub mod Reserved
pub mod Memory
pub mod Places
