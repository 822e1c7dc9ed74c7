pub mod Recipes
pub mod Output
pub mod Inner
