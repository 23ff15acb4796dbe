-- The law over every shift.
use Rattle.std.proofs.Common.{◌≡◌, ℕ, ◌*◌, ◌<◌, ◌≤◌, List, [], ◌∷◌, ◌-ℤ◌, nat_abs, Result, sym, subst}
use Rattle.units.specs.declared.axis.Axis.{Axis}
use Rattle.units.specs.declared.axis.Point.{Point}
use Rattle.units.specs.declared.fault.Fault.{Fault}
use Rattle.units.specs.declared.quantity.Tolerance.{Tolerance}
use Rattle.fractions.specs.Fractions.{Within}
use Rattle.frames.specs.declared.image.Image.{Image}
use Rattle.frames.specs.Pushing.{coordinate, spread_of}
use Rattle.machine.specs.Meaning.{at, Meaning, Sound}
use Rattle.translator.specs.declared.reply.Reading.{Reading}
use Rattle.translator.specs.State.{State, opened, point_of, Tells}
use Rattle.shifts.specs.declared.call.Answer.{Answer}
use Rattle.shifts.specs.declared.call.Call.{Call}
use Rattle.shifts.specs.declared.call.Call.TheVariants.{Block as block, Entry, Reset, Read, Ask}
use Rattle.shifts.specs.declared.call.Seen.{Seen}
use Rattle.shifts.specs.Calls.{left_after, Shown, ShownAll}
use Rattle.shifts.specs.Law.{was_declined, Near, Growth, FifteenAt, Holds, HoldsAll, Law}
use Rattle.shifts.specs.Plain.{Plain, begun, after}
use Rattle.shifts.proofs.Calls.{call_follows}
use Rattle.shifts.proofs.Fifteen.{fifteen}
use Rattle.shifts.proofs.Follows.{Follows, start_follows}
use Rattle.shifts.proofs.Growing.{call_grows}

-- what is read of a translator that follows the plain shift is near it
near_as : (inc : Axis → ℕ) (p : Plain) (i : Image) (h : Point) (r : Reading) → r.image ≡ i → r.held ≡ h → ((a : ℕ) → a < 3 → Within (coordinate i a) (p.exact a) (spread_of i a)) → ((a : ℕ) → a < 3 → 0 < (p.exact a).den) → ((a : Axis) → 2 * nat_abs (at (point_of i) a -ℤ at h a) ≤ inc a) → Near inc p r
near_as inc p i h r ei eh e d n = record {
  exact = subst (λ (x : Image). (a : ℕ) → a < 3 → Within (coordinate x a) (p.exact a) (spread_of x a)) (sym ei) e;
  positive = d;
  held = λ a. subst (λ (x : Image). 2 * nat_abs (at (point_of x) a -ℤ at r.held a) ≤ inc a) (sym ei) (subst (λ (x : Point). 2 * nat_abs (at (point_of i) a -ℤ at x a) ≤ inc a) (sym eh) (n a));
}

near_read : {inc : Axis → ℕ} {p : Plain} {s : State} {r : Reading} → Follows inc p s → Tells s r → Near inc p r
near_read {inc = inc} {p = p} {s = s} {r = r} f w = near_as inc p s.setup.image s.pile.held r w.image w.held f.exact f.positive f.held

fifteen_at : (s : State) (c : Call) (r : Seen) → Shown s c r → FifteenAt s c r
fifteen_at s (block bytes) r w = fifteen s bytes.now r w.answer w.reading
fifteen_at s (Entry frame offset) r w = tt
fifteen_at s Reset r w = tt
fifteen_at s Read r w = tt
fifteen_at s (Ask q) r w = tt

module _ {inc : Axis → ℕ} where
  next : (p : Plain) (s : State) (c : Call) (r : Seen) → Follows inc p s → Shown s c r → Follows inc (after p c (was_declined r.answer)) (left_after s c)
  next p s c r f w = subst (λ (x : Result Answer Fault). Follows inc (after p c (was_declined x)) (left_after s c)) (sym w.answer) (call_follows f c)

  one : (p : Plain) (s : State) (c : Call) (r : Seen) → Follows inc p s → Shown s c r → Holds inc p s c r
  one p s c r f w = record {
    near = near_read (next p s c r f w) w.reading;
    grown = subst (Growth p c) (sym w.answer) (call_grows f c);
    fifteen = fifteen_at s c r w;
  }

  along : (cs : List Call) (rs : List Seen) (p : Plain) (s : State) → Follows inc p s → ShownAll s cs rs → HoldsAll inc p s cs rs
  along [] rs p s f w = tt
  along (c ∷ cs) [] p s f w = absurd w
  along (c ∷ cs) (r ∷ rs) p s f w = (one p s c r f w.0, along cs rs (after p c (was_declined r.answer)) (left_after s c) (next p s c r f w.0) w.1)

pub law_holds : (m : Meaning) (tol : Tolerance) (calls : List Call) (opening : Reading) (seen : List Seen) → Sound m → Tells (opened m tol) opening → ShownAll (opened m tol) calls seen → Law m tol calls opening seen
law_holds m tol calls opening seen sound o w =
    let f = start_follows m tol sound in
    record { start = near_read f o; along = along calls seen (begun m.held) (opened m tol) f w }
