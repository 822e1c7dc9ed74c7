pub mod Recipes
pub mod Cut
pub mod Output
