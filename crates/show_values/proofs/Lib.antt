mod Printing
mod Logging
mod Knowing
mod Reading
mod Rows
mod Watching
mod Wishing
