pub mod Budgets
pub mod Stepping
