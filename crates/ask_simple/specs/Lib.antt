pub mod AskSimple
