-- A roll: the caller's places, of which the first hold records.
use Rattle.std.specs.Prelude.{◌≡◌, ℕ, ◌+◌, ◌<◌, ◌≤◌, Bool, cond, List, [], ◌∷◌, ◌++◌, length, take, drop, Some, None, Ok, Err, Option, Result, nat_le}
use Rattle.std.specs.List.{find, slice_get}
use Rattle.std.specs.Option.{ok_or}
use Rattle.units.specs.declared.fault.Fault.{Fault}
use Rattle.units.specs.declared.fault.Fault.TheVariants.{RollFull, Argument}
use Rattle.rolls.specs.declared.roll.Roll.{Roll}

pub record RollState (R : Type 0) : Type 0 where
  pub places : List R
  pub count : ℕ

module _ {R : Type 0} where
  abbrev pub roll_of : Roll R → RollState R
  roll_of roll = record { places = roll.places.now; count = roll.count }

  abbrev pub records_of : RollState R → List R
  records_of s = take s.count s.places

  abbrev pub is_full : RollState R → Bool
  is_full s = nat_le (length s.places) s.count

  -- the records that were there, then more of them, then the places behind as they were
  abbrev pub extended : RollState R → List R → RollState R
  extended s more = record {
    places = take s.count s.places ++ (more ++ drop (s.count + length more) s.places);
    count = s.count + length more;
  }

  -- a full roll stays as it is
  abbrev pub appended : RollState R → R → RollState R
  appended s r = cond (is_full s) s (extended s (r ∷ []))

  -- 16 with the start of the record's block
  abbrev pub room_for : (R → ℕ) → RollState R → R → Result (Unit {0}) Fault
  room_for start s r = cond (is_full s) (Err (RollFull (start r))) (Ok tt)

  -- the records after an append: one more at the end where there was room, else the same; the places are as many
  pub record Filed (s : RollState R) (r : R) (t : RollState R) : Type 0 where
    pub room : s.count < length s.places → records_of t ≡ records_of s ++ r ∷ []
    pub full : length s.places ≤ s.count → records_of t ≡ records_of s
    pub places : length t.places ≡ length s.places

  -- the first places, as many as told, hold records; 17 where there are fewer places
  abbrev pub resumed : RollState R → ℕ → RollState R
  resumed s count = cond (nat_le count (length s.places)) (record { places = s.places; count = count }) s

  abbrev pub resume_told : RollState R → ℕ → Result (Unit {0}) Fault
  resume_told s count = cond (nat_le count (length s.places)) (Ok tt) (Err Argument)

  -- the one at n, from 0
  abbrev pub nth_of : List R → ℕ → Result R Fault
  nth_of rs n = ok_or (slice_get rs n) Argument

  -- the first that starts at a byte or after it
  abbrev pub first_from : (R → ℕ) → List R → ℕ → Option R
  first_from start rs byte = find (λ r. nat_le byte (start r)) rs

  -- each of them starts before a byte
  abbrev pub AllBefore : (R → ℕ) → ℕ → List R → Type 0
  AllBefore start byte [] = Unit {0}
  AllBefore start byte (r ∷ rs) = (start r < byte) × AllBefore start byte rs

  -- what is first: it reaches the byte, and each record in front of it starts before the byte; none where all do
  abbrev pub First : (R → ℕ) → List R → ℕ → Option R → Type 0
  First start rs byte None = AllBefore start byte rs
  First start rs byte (Some r) = (front : List R) × (behind : List R) × (rs ≡ front ++ r ∷ behind) × AllBefore start byte front × (byte ≤ start r)
