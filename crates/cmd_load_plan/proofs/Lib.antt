mod Computing
mod Giving
mod Naming
mod Places
mod Planning
