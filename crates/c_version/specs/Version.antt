-- The version of the library, as the C header says it.
use Rattle.std.specs.Prelude.{◌+◌, ◌*◌}
use Rattle.lists.specs.Prelude.{ℕ}

-- one number for major, minor and patch
abbrev pub numbered : (major minor patch : ℕ) → ℕ
numbered major minor patch = major * 65536 + minor * 256 + patch

-- that of this tree
abbrev pub version : ℕ
version = numbered 0 11 0
