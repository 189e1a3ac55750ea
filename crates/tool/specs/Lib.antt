pub mod LocalsSaid
