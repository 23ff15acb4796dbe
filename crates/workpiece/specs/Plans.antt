-- Which axes a block moves, where to, and how far off that may be.
use Rattle.std.specs.Prelude.{Bool, false, cond, not, ◌&&◌, List, [], ◌∷◌, ℤ, pos, is_some, Some, None, Ok, Err, Option, Result, nat_lt, slice_index_or, unsigned_abs}
use Rattle.units.specs.declared.axis.Axis.{Axis}
use Rattle.units.specs.declared.axis.Axis.TheVariants.{X, Y, Z}
use Rattle.units.specs.declared.fault.Fault.{Fault}
use Rattle.units.specs.declared.fault.Fault.TheVariants.{Open, Beyond}
use Rattle.units.specs.declared.quantity.Length.{Length}
use Rattle.units.specs.declared.quantity.Tolerance.{Tolerance}
use Rattle.units.specs.Quantities.{zero_length}
use Rattle.reader.specs.declared.functions.Distance.{Distance}
use Rattle.chains.specs.declared.step.Step.{Step}
use Rattle.chains.specs.Joined.{moved_axes}
use Rattle.frames.specs.declared.image.Image.{Image}
use Rattle.frames.specs.Pushing.{started, pushed}
use Rattle.workpiece.specs.declared.force.InForce.{InForce}
use Rattle.workpiece.specs.declared.plan.Plan.{Plan}
use Rattle.workpiece.specs.declared.settable.SettableFrame.{SettableFrame}
use Rattle.workpiece.specs.Places.{all_open, standing, placed_at}
use Rattle.workpiece.specs.Settable.{frame_number, offset_of}

abbrev pub named_by : List (Option Length) → List Bool
named_by ws = is_some (slice_index_or ws 0 None) ∷ is_some (slice_index_or ws 1 None) ∷ is_some (slice_index_or ws 2 None) ∷ []

-- turns join axes only while the chain is in force
abbrev pub moved_in : InForce → List Step → List Bool → List Bool
moved_in f steps named = cond f.chained (moved_axes steps named) named

-- where the axes stand after the words
abbrev pub standings : Distance → List (Option Length) → List (Option Length) → List (Option ℤ)
standings d ws vs = standing d (slice_index_or ws 0 None) (slice_index_or vs 0 None) ∷ standing d (slice_index_or ws 1 None) (slice_index_or vs 1 None) ∷ standing d (slice_index_or ws 2 None) (slice_index_or vs 2 None) ∷ []

abbrev pub is_open : Bool → Option ℤ → Bool
is_open moved at = moved && not (is_some at)

-- out of the range of lengths
abbrev pub is_far : Bool → Option ℤ → Bool
is_far moved None = false
is_far moved (Some z) = moved && nat_lt 999999999 (unsigned_abs z)

abbrev pub first_of : Bool → Bool → Bool → Option Axis
first_of x y z = cond x (Some X) (cond y (Some Y) (cond z (Some Z) None))

-- a fault of the first such axis, else what comes after
abbrev pub unless_axis : {A : Type 0} → Option Axis → (Axis → Fault) → Result A Fault → Result A Fault
unless_axis (Some a) f r = Err (f a)
unless_axis None f r = r

abbrev pub open_axis : List Bool → List (Option ℤ) → Option Axis
open_axis m at = first_of (is_open (slice_index_or m 0 false) (slice_index_or at 0 None)) (is_open (slice_index_or m 1 false) (slice_index_or at 1 None)) (is_open (slice_index_or m 2 false) (slice_index_or at 2 None))

abbrev pub far_axis : List Bool → List (Option ℤ) → Option Axis
far_axis m at = first_of (is_far (slice_index_or m 0 false) (slice_index_or at 0 None)) (is_far (slice_index_or m 1 false) (slice_index_or at 1 None)) (is_far (slice_index_or m 2 false) (slice_index_or at 2 None))

abbrev pub values_at : List (Option ℤ) → List (Option Length)
values_at at = placed_at (slice_index_or at 0 None) ∷ placed_at (slice_index_or at 1 None) ∷ placed_at (slice_index_or at 2 None) ∷ []

-- the workpiece values then; a moved axis is neither open, 12, nor out of range, 13 at step 0
abbrev pub placed : List Bool → List (Option ℤ) → Result (List (Option Length)) Fault
placed m at =
    unless_axis (open_axis m at) (λ a. Open 0 a)
    (unless_axis (far_axis m at) (λ a. Beyond 0 a 0)
    (Ok (values_at at)))

-- an axis that is open does not move, so any value does
abbrev pub length_or : Option Length → Length
length_or None = zero_length
length_or (Some l) = l

abbrev pub values_or : List (Option Length) → List Length
values_or vs = length_or (slice_index_or vs 0 None) ∷ length_or (slice_index_or vs 1 None) ∷ length_or (slice_index_or vs 2 None) ∷ []

-- through the chain and the settable frame in force; without them, the values themselves
abbrev pub image_in : InForce → List Step → List SettableFrame → Tolerance → List Bool → List Length → Result Image Fault
image_in f steps fs tol m vs = cond f.chained (pushed steps m tol.units (offset_of fs (frame_number f.settable)) vs) (Ok (started vs))

abbrev pub kept_at : {A : Type 0} → Bool → A → A → A
kept_at moved new old = cond moved new old

-- of a list, d where there is none
abbrev pub kept : {A : Type 0} → A → List Bool → List A → List A → List A
kept d m new old = kept_at (slice_index_or m 0 false) (slice_index_or new 0 d) (slice_index_or old 0 d) ∷ kept_at (slice_index_or m 1 false) (slice_index_or new 1 d) (slice_index_or old 1 d) ∷ kept_at (slice_index_or m 2 false) (slice_index_or new 2 d) (slice_index_or old 2 d) ∷ []

-- an axis that does not move keeps target and spread
abbrev pub kept_image : List Bool → Image → Image → Image
kept_image m new old = record {
  at = kept (pos 0) m new.at old.at;
  spread = kept 0 m new.spread old.spread;
}

abbrev pub plan_of : List Bool → List (Option Length) → Image → Image → Plan
plan_of m vs new old = record { moved = m; values = vs; image = kept_image m new old }

-- a G53 move opens all axes
abbrev pub opening_all : Plan → Plan
opening_all p = record { moved = p.moved; values = all_open; image = p.image }

abbrev pub on_image : List Bool → List (Option Length) → Image → Result Image Fault → Result Plan Fault
on_image m vs old (Ok new) = Ok (plan_of m vs new old)
on_image m vs old (Err f) = Err f

abbrev pub on_placed : InForce → List Step → List SettableFrame → Tolerance → List Bool → Image → Result (List (Option Length)) Fault → Result Plan Fault
on_placed f steps fs tol m old (Ok vs) = on_image m vs old (image_in f steps fs tol m (values_or vs))
on_placed f steps fs tol m old (Err e) = Err e

-- the plan of a block's axis words
abbrev pub reckoned : InForce → List Step → List SettableFrame → Tolerance → Distance → List (Option Length) → List (Option Length) → Image → Result Plan Fault
reckoned f steps fs tol d ws vs old =
    on_placed f steps fs tol (moved_in f steps (named_by ws)) old (placed (moved_in f steps (named_by ws)) (standings d ws vs))
