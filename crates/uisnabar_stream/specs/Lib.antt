pub mod StreamCalls
