mod Collected
mod Once
