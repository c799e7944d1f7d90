mod Asked
mod Giving
mod Replied
mod Values
