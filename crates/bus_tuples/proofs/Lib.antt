pub mod SelectedLaws
pub mod Tuples
pub mod Totals
pub mod TimesLaws
pub mod Pulling
pub mod Pushing
pub mod OrderLaws
pub mod AcceptedRows
