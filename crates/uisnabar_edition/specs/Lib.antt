pub mod TranslateCall
