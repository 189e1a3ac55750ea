pub mod Season
