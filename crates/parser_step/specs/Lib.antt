pub mod LocalsActs
