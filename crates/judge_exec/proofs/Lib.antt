pub mod QuickExec
