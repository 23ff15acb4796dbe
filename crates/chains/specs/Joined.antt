-- Which axes a block moves: those it names, and with one axis of a turn step the other.
use Rattle.std.specs.Prelude.{◌≡◌, ℕ, zero, suc, ◌<◌, Bool, true, false, ◌&&◌, ◌||◌, ◌⊎◌, List, [], ◌∷◌, ◌==◌, slice_index_or}
use Rattle.chains.specs.declared.step.Step.{Step}
use Rattle.chains.specs.declared.step.Step.TheVariants.{Offset, Scale, Mirror, Turn}
use Rattle.std.specs.List.{list_any}
use Rattle.chains.specs.Steps.{first_of, JoinsAxes}

-- some step joins the two axes
abbrev pub Joins : List Step → ℕ → ℕ → Type 0
Joins [] a b = ⊥
Joins (s ∷ ss) a b = JoinsAxes s a b ⊎ Joins ss a b

-- the smallest set of axes that holds the named ones and, with one of two joined axes, the other
pub data Moved (ss : List Step) (named : List Bool) : ℕ → Type 0 where
  by_name : (a : ℕ) → slice_index_or named a false ≡ true → Moved ss named a
  by_turn : (a b : ℕ) → Joins ss a b → Moved ss named a → Moved ss named b

-- a set of axes that holds with one of two joined axes the other
abbrev pub AllJoined : List Bool → List Step → Type 0
AllJoined m ss = (a b : ℕ) → Joins ss a b → slice_index_or m a false ≡ true → slice_index_or m b false ≡ true

-- The same set computed. The axes stand in a ring, X Y Z X: a turn joins its first axis to the next one, so a turn goes by its first axis.
abbrev pub next_axis : ℕ → ℕ
next_axis zero = 1
next_axis (suc zero) = 2
next_axis (suc (suc a)) = 0

abbrev pub joins_next : ℕ → Step → Bool
joins_next k (Offset by) = false
joins_next k (Scale by) = false
joins_next k (Mirror named) = false
joins_next k (Turn plane angle) = first_of plane == k

abbrev pub linked : ℕ → List Step → Bool
linked k ss = list_any (joins_next k) ss

-- named, or joined to the next axis b or the one before c, directly or by way of the other; up, across and down are the joins a to b, b to c, c to a
abbrev pub reached : Bool → Bool → Bool → Bool → Bool → Bool → Bool
reached a b c up across down = a || ((up && (b || (across && c))) || (down && (c || (across && b))))

abbrev pub moved_by : (ℕ → Bool) → List Bool → ℕ → Bool
moved_by l n a = reached (slice_index_or n a false) (slice_index_or n (next_axis a) false) (slice_index_or n (next_axis (next_axis a)) false) (l a) (l (next_axis a)) (l (next_axis (next_axis a)))

abbrev pub moved_axes : List Step → List Bool → List Bool
moved_axes ss n = moved_by (λ k. linked k ss) n 0 ∷ moved_by (λ k. linked k ss) n 1 ∷ moved_by (λ k. linked k ss) n 2 ∷ []

-- what is said of the axes r that a block moves
pub record MovedAxes (ss : List Step) (named r : List Bool) : Type 0 where
  pub only : (a : ℕ) → a < 3 → slice_index_or r a false ≡ true → Moved ss named a
  pub every : (a : ℕ) → a < 3 → Moved ss named a → slice_index_or r a false ≡ true
  pub joined : AllJoined r ss
