-- An entry that is declined.
use Rattle.std.proofs.Common.{◌≡◌, ℕ, Ok, Err, Result, ap, arith}
use Rattle.units.specs.declared.fault.Fault.{Fault}
use Rattle.workpiece.specs.Changes.{told_of, left_of}
use Rattle.workpiece.specs.Setup.{SetupState}
use Rattle.translator.specs.declared.reply.Reply.{Reply}
use Rattle.translator.specs.State.{State}
use Rattle.translator.specs.Work.{with_setup, on_entry, replied, left_by}

pub entry_declined : (s : State) (r : Result SetupState Fault) (t : SetupState) (f : Fault) → Err f ≡ told_of r → t ≡ left_of s.setup r → (◌≡◌ {A = Result Reply Fault} (Err f) (replied (on_entry s r))) × (with_setup s t ≡ left_by s (on_entry s r))
entry_declined s (Ok u) t f e l = let z : ◌≡◌ {A = ℕ} 0 1 = cc in absurd (omega arith)
entry_declined s (Err h) t f e l = let same : f ≡ h = cc in (ap (λ (k : Fault). Err k) same, ap (with_setup s) l)
