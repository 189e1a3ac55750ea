pub mod Blame
pub mod Cuts
pub mod Games
pub mod LocalsCuts
pub mod LocalsGames
pub mod Numbered
