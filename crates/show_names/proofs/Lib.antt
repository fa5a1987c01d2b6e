mod Told
mod Rows
mod Bytes
pub mod Seen
mod Numbered
mod Pushes
mod WarningRows
mod WarningTables
mod RangeTexts
