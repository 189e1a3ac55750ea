pub mod LocalsForm
