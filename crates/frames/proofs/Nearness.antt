-- Each step keeps told coordinates within their spreads of the exact ones.
use Rattle.std.proofs.Common.{ℕ, Bool, true, false, cond, ℤ, pos, ◌+ℤ◌, ◌-ℤ◌, ◌*ℤ◌, Some, None, Option, arith}
use Rattle.units.specs.Nearest.{nearest}
use Rattle.units.proofs.Round.{nearest_near}
use Rattle.fractions.specs.Fractions.{Frac, Within, negated}
use Rattle.fractions.proofs.Steps.{first_within, second_within, scale_step, shift_within, mirror_within}
use Rattle.turns.specs.Reference.{whole, cosine_of, sine_of}
use Rattle.turns.specs.Numbers.{turn_c, turn_s}
use Rattle.turns.proofs.Law.{law}
use Rattle.turns.proofs.Reach.{reach}
use Rattle.units.specs.declared.quantity.Length.{Length}
use Rattle.units.specs.declared.quantity.Factor.{Factor}
use Rattle.frames.specs.Pushing.{odd_spread, offset_by, scaled_by, scaled_spread, mirrored_by, odd_first, odd_second}
use Rattle.frames.specs.Exact.{exact_offset, exact_scale, first_image, second_image}

pub offset_near : (by : Option Length) (x : ℤ) (e : Frac) (r : ℕ) → Within x e r → Within (offset_by by x) (exact_offset by e) r
offset_near None x e r w = w
offset_near (Some o) x e r w = shift_within x o.units e r w

pub scale_near : (by : Option Factor) (x : ℤ) (e : Frac) (r : ℕ) → Within x e r → Within (scaled_by by x) (exact_scale by e) (scaled_spread by x r)
scale_near None x e r w = w
scale_near (Some f) x e r w = scale_step r f.parts x (nearest (pos f.parts *ℤ x) 100000) e w (nearest_near (pos f.parts *ℤ x) 100000 (omega arith))

pub mirror_near : (named : Bool) (x : ℤ) (e : Frac) (r : ℕ) → Within x e r → Within (mirrored_by named x) (cond named (negated e) e) r
mirror_near true x e r w = mirror_within x e r w
mirror_near false x e r w = w

-- odd turns
module _ (t : ℕ) (i j : ℤ) (x y : Frac) (m : ℕ) (dx : Within i x m) (dy : Within j y m) where
  pub odd_first_lem : Within (odd_first t i j) (first_image t x y) (odd_spread m i j)
  odd_first_lem = first_within 1000000000 whole m i j (turn_c t) (turn_s t) (cosine_of t) (sine_of t) x y (omega arith) dx dy (law t).near.cosine_near (law t).near.sine_near (reach t) (odd_first t i j) (nearest_near (turn_c t *ℤ i -ℤ turn_s t *ℤ j) 1000000000 (omega arith)).close

  pub odd_second_lem : Within (odd_second t i j) (second_image t x y) (odd_spread m i j)
  odd_second_lem = second_within 1000000000 whole m i j (turn_c t) (turn_s t) (cosine_of t) (sine_of t) x y (omega arith) dx dy (law t).near.cosine_near (law t).near.sine_near (reach t) (odd_second t i j) (nearest_near (turn_s t *ℤ i +ℤ turn_c t *ℤ j) 1000000000 (omega arith)).close
