mod Stacks
mod Fronts
mod Steps
