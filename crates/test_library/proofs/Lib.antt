mod Calls
mod Fitting
