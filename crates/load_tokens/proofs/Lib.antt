mod Results
mod Grouped
mod LaneLemmas
mod Runs
mod Capped
mod Numbers
mod Durations
pub mod Cases
mod Literals
pub mod Places
mod Signs
pub mod Lexemes
pub mod Blanks
mod Feeds
pub mod Cut
pub mod Names
pub mod Steps
pub mod ErrorLaws
pub mod FirstError
mod ErrorRows
mod Exists
