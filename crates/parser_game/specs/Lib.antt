pub mod LocalsGame
