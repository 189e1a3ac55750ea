pub mod LocalsPlans
