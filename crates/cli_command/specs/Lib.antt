pub mod Programs
pub mod Loaded
pub mod Runs
pub mod Servings
pub mod Origins
pub mod Others
