-- What `over`, `keep` and `hit` were made of.
use Rattle.std.proofs.Common.{◌≡◌, Bool, true, false, ◌⊎◌, is_some, Some, None, Option, refl, inl, inr}
use Rattle.blocks.specs.Slots.{over, hit}
use Rattle.blocks.specs.Order.{keep}

module _ {X : Type 0} where
  pub over_none : (a b : Option X) → over a b ≡ None → (a ≡ None) × (b ≡ None)
  over_none a None e = (e, refl)
  over_none a (Some v) e = absurd cc

  pub over_some : (a b : Option X) (v : X) → over a b ≡ Some v → (a ≡ Some v) ⊎ (b ≡ Some v)
  over_some a None v e = inl e
  over_some a (Some u) v e = inr e

  pub keep_none : (a b : Option X) → keep a b ≡ None → (a ≡ None) × (b ≡ None)
  keep_none a None e = (e, refl)
  keep_none None (Some v) e = absurd cc
  keep_none (Some u) (Some v) e = absurd cc

  pub keep_some : (a b : Option X) (v : X) → keep a b ≡ Some v → (a ≡ Some v) ⊎ ((a ≡ None) × (b ≡ Some v))
  keep_some a None v e = inl e
  keep_some None (Some u) v e = inr (refl, e)
  keep_some (Some t) (Some u) v e = inl e

  pub hit_none : (b : Bool) (v : X) → hit b v ≡ None → b ≡ false
  hit_none true v e = absurd cc
  hit_none false v e = refl

  pub some_is : (o : Option X) → is_some o ≡ true → (v : X) × (o ≡ Some v)
  some_is None e = absurd cc
  some_is (Some v) e = (v, refl)

  pub none_is : (o : Option X) → is_some o ≡ false → o ≡ None
  none_is None e = refl
  none_is (Some v) e = absurd cc
