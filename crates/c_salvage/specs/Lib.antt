pub mod SalvageInC
