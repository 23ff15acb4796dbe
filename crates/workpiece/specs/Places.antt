-- Workpiece values: where an axis stands, or none where it is open.
use Rattle.std.specs.Prelude.{Bool, false, cond, List, [], ◌∷◌, ℤ, ◌+ℤ◌, Some, None, Option, slice_index_or}
use Rattle.units.specs.declared.quantity.Length.{Length}
use Rattle.units.specs.Quantities.{length_of}
use Rattle.reader.specs.declared.functions.Distance.{Distance}
use Rattle.reader.specs.declared.functions.Distance.TheVariants.{Absolute, Incremental}

abbrev pub all_open : List (Option Length)
all_open = None ∷ None ∷ None ∷ []

abbrev pub opened_at : Bool → Option Length → Option Length
opened_at touched v = cond touched None v

-- the touched axes lose their values
abbrev pub opened : List Bool → List (Option Length) → List (Option Length)
opened ts vs = opened_at (slice_index_or ts 0 false) (slice_index_or vs 0 None) ∷ opened_at (slice_index_or ts 1 false) (slice_index_or vs 1 None) ∷ opened_at (slice_index_or ts 2 false) (slice_index_or vs 2 None) ∷ []

abbrev pub units_of : Option Length → Option ℤ
units_of None = None
units_of (Some l) = Some l.units

-- what G91 adds a word to
abbrev pub added : Option Length → Length → Option ℤ
added None w = None
added (Some v) w = Some (v.units +ℤ w.units)

-- where an axis then stands, in units: G90 places it at its word, G91 adds the word, and without a word it stays
abbrev pub standing : Distance → Option Length → Option Length → Option ℤ
standing d None v = units_of v
standing Absolute (Some w) v = Some w.units
standing Incremental (Some w) v = added v w

abbrev pub placed_at : Option ℤ → Option Length
placed_at None = None
placed_at (Some z) = length_of z
