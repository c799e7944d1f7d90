mod Coming
mod Counting
mod Telling
mod Watching
