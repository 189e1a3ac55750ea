-- What is asked of a size before it is shown.
use Rattle.std.specs.Prelude.{◌≤◌}
use Rattle.go_size.specs.declared.RootSize.{RootSize}
use Rattle.go_size.specs.declared.RootSize.TheVariants.{Absent, Sized, Wrong}

-- no side is above 52
abbrev pub SmallSides : RootSize → Type 0
SmallSides Absent = Unit {0}
SmallSides (Sized x y) = (x ≤ 52) × (y ≤ 52)
SmallSides Wrong = Unit {0}
