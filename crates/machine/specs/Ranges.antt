-- The ranges of limits, positions and increments, as tests that a type can carry.
use Rattle.std.specs.Prelude.{ℕ, Bool, ◌&&◌, nat_le, unsigned_abs}
use Rattle.units.specs.declared.axis.Point.{Point}

-- every coordinate is at most n either way
unfoldable pub within : ℕ → Point → Bool
within n p = nat_le (unsigned_abs p.x) n && (nat_le (unsigned_abs p.y) n && nat_le (unsigned_abs p.z) n)

-- 1 to 100,000 units
unfoldable pub increment_fits : ℕ → Bool
increment_fits n = nat_le 1 n && nat_le n 100000
