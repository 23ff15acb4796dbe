-- A block without an instruction: 8 from the lengths that were made of its words.
use Rattle.std.proofs.Common.{◌≡◌, ℕ, Bool, List, Some, None, Ok, Err, Option, sym, refl, ap, ◌∙◌}
use Rattle.units.specs.declared.fault.Fault.TheVariants.{Range}
use Rattle.units.specs.declared.quantity.Length.{Length}
use Rattle.blocks.specs.declared.gathered.Measure.{Measure}
use Rattle.blocks.specs.declared.gathered.Measured.{Measured}
use Rattle.blocks.specs.declared.gathered.Slots.{Slots}
use Rattle.blocks.specs.declared.gathered.Order.{Order}
use Rattle.blocks.specs.declared.types.Block.TheVariants.{Ordinary}
use Rattle.blocks.specs.Rules.{measure_under, bad_axis, bad_rpl, lesser, place_if, out_of_range_in}
use Rattle.blocks.specs.Typed.{length_at, lengths, lacking_at, lacking_in, made_under, ruled}

lesser_none : (o : Option ℕ) → lesser o None ≡ o
lesser_none None = refl
lesser_none (Some p) = refl

module _ (inch : Bool) where
  abbrev m : Measure
  m = measure_under None inch

  lacks : (w : Option Measured) → lacking_at w (length_at inch w) ≡ place_if (bad_axis m) w
  lacks None = refl
  lacks (Some x) = refl

  no_rpl : (w : Option Measured) → place_if (bad_rpl m) w ≡ None
  no_rpl None = refl
  no_rpl (Some x) = refl

  module _ (s : Slots) (o : Order) (ws : List (Option Length)) (made : ws ≡ lengths inch s.axes) where
    least : lacking_in s.axes ws ≡ out_of_range_in m s
    least =
        let x = place_if (bad_axis m) s.axes.x in
        let y = place_if (bad_axis m) s.axes.y in
        let z = place_if (bad_axis m) s.axes.z in
        ap (lacking_in s.axes) made ∙ (λ i. lesser (lacks s.axes.x i) (lesser (lacks s.axes.y i) (lacks s.axes.z i)))
        ∙ ap (λ t. lesser x (lesser y t)) (sym (lesser_none z) ∙ ap (lesser z) (sym (no_rpl s.rpl)))

    pub out_of_range : (p : ℕ) → Some p ≡ lacking_in s.axes ws → Err (Range p) ≡ ruled None None (out_of_range_in m s) (made_under None inch s o)
    out_of_range p e = ap (λ eight. ruled None None eight (made_under None inch s o)) (e ∙ least)

    pub in_range : None ≡ lacking_in s.axes ws → Ok (Ordinary (record { selections = s.groups.selections; machine = s.groups.machine; words = ws; first = o.axis; ends = s.ms.ends })) ≡ ruled None None (out_of_range_in m s) (made_under None inch s o)
    in_range e =
        ap (λ (v : List (Option Length)). ruled None None None (Ordinary (record { selections = s.groups.selections; machine = s.groups.machine; words = v; first = o.axis; ends = s.ms.ends }))) made
        ∙ ap (λ eight. ruled None None eight (made_under None inch s o)) (e ∙ least)
