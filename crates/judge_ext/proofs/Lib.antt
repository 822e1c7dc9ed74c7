pub mod AllRules
pub mod QuickExt
