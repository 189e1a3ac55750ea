pub mod LocalsChain
pub mod LocalsShape
pub mod LocalsSum
pub mod LocalsWalk
