-- A chain as the list of its steps, the outermost first.
use Rattle.std.specs.Prelude.{ℕ, zero, suc, Bool, cond, List, [], ◌∷◌, length, take, Some, None, Ok, Err, Option, Result, nat_le}
use Rattle.std.specs.List.{list_any}
use Rattle.units.specs.Quantities.{turned_on}
use Rattle.units.specs.declared.fault.Fault.{Fault}
use Rattle.units.specs.declared.fault.Fault.TheVariants.{ChainFull}
use Rattle.chains.specs.declared.step.Step.{Step}
use Rattle.chains.specs.declared.step.Step.TheVariants.{Offset, Scale, Mirror, Turn}
use Rattle.chains.specs.declared.chain.Chain.{Chain}
use Rattle.chains.specs.Steps.{same_plane, touches}

abbrev pub steps_of : Chain → List Step
steps_of c = take c.count c.steps

-- counted from 1, the outermost
abbrev pub step_at : List Step → ℕ → Option Step
step_at ss zero = None
step_at [] (suc n) = None
step_at (s ∷ ss) (suc zero) = Some s
step_at (s ∷ ss) (suc (suc n)) = step_at ss (suc n)

-- two turns in one plane are one turn by both angles; no other two steps are one
abbrev pub merged_step : Step → Step → Option Step
merged_step (Offset by) t = None
merged_step (Scale by) t = None
merged_step (Mirror named) t = None
merged_step (Turn p a) (Offset by) = None
merged_step (Turn p a) (Scale by) = None
merged_step (Turn p a) (Mirror named) = None
merged_step (Turn p a) (Turn q b) = cond (same_plane p q) (Some (Turn p (turned_on a b))) None

abbrev pub one_or_both : Option Step → Step → Step → List Step
one_or_both (Some both) s t = both ∷ []
one_or_both None s t = s ∷ t ∷ []

-- an innermost step more, which is the last of the list
abbrev pub lengthened : List Step → Step → List Step
lengthened [] t = t ∷ []
lengthened (s ∷ []) t = one_or_both (merged_step s t) s t
lengthened (s ∷ r ∷ ss) t = s ∷ lengthened (r ∷ ss) t

-- never more than eight
abbrev pub appended : List Step → Step → Result (List Step) Fault
appended ss t = cond (nat_le (length (lengthened ss t)) 8) (Ok (lengthened ss t)) (Err (ChainFull 0))

abbrev pub replied : Result (List Step) Fault → Result (Unit {0}) Fault
replied (Ok ss) = Ok tt
replied (Err f) = Err f

-- the chain afterwards: where the step is declined, it is what it was
abbrev pub left_by : List Step → Result (List Step) Fault → List Step
left_by ss (Ok longer) = longer
left_by ss (Err f) = ss

-- the axes that some step touches
abbrev pub touched_at : List Step → ℕ → Bool
touched_at ss a = list_any (λ s. touches s a) ss

abbrev pub touched : List Step → List Bool
touched ss = touched_at ss 0 ∷ touched_at ss 1 ∷ touched_at ss 2 ∷ []
