pub mod Telling
mod Splitting
mod LastLines
