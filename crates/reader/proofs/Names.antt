-- Letters that spell an address.
use Rattle.std.proofs.Common.{◌≡◌, ◌↔◌, ℕ, ◌<◌, ◌≤◌, Bool, IsTrue, List, [], ◌∷◌, map, length, get_or, codes, Decides, sym, refl, ap, ◌∙◌, arith}
use Rattle.std.specs.Char.{to_ascii_lowercase, to_ascii_uppercase}
use Rattle.std.proofs.lemmas.List.{length-map}
use Rattle.std.proofs.lemmas.Bool.Decides.{nat_tests}
use Rattle.reader.specs.declared.types.Address.{Address}
use Rattle.units.specs.declared.axis.Axis.TheVariants.{X, Y, Z}
use Rattle.reader.specs.declared.types.Address.TheVariants.{N, G, M, Passed, Axis, Rpl, Name}
use Rattle.reader.specs.declared.types.Passed.TheVariants.{F, S, T, D}
use Rattle.reader.specs.declared.types.FrameName.{FrameName}
use Rattle.reader.specs.Words.{Names, frame_name}

lower_same : (a b : ℕ) → to_ascii_lowercase a ≡ to_ascii_lowercase b → to_ascii_uppercase a ≡ to_ascii_uppercase b
lower_same a b e = grind (arith, nat_tests)

upper_same : (a b : ℕ) → to_ascii_uppercase a ≡ to_ascii_uppercase b → to_ascii_lowercase a ≡ to_ascii_lowercase b
upper_same a b e = grind (arith, nat_tests)

-- texts are alike in small letters exactly where they are in capital ones
lowers_same : (s n : List ℕ) → map to_ascii_lowercase s ≡ map to_ascii_lowercase n → map to_ascii_uppercase s ≡ map to_ascii_uppercase n
lowers_same [] [] e = refl
lowers_same [] (b ∷ n) e = absurd (cc)
lowers_same (a ∷ s) [] e = absurd (cc)
lowers_same (a ∷ s) (b ∷ n) e =
    let x : to_ascii_lowercase a ≡ to_ascii_lowercase b = cc in
    let y : map to_ascii_lowercase s ≡ map to_ascii_lowercase n = cc in
    cc (lower_same a b x, lowers_same s n y)

uppers_same : (s n : List ℕ) → map to_ascii_uppercase s ≡ map to_ascii_uppercase n → map to_ascii_lowercase s ≡ map to_ascii_lowercase n
uppers_same [] [] e = refl
uppers_same [] (b ∷ n) e = absurd (cc)
uppers_same (a ∷ s) [] e = absurd (cc)
uppers_same (a ∷ s) (b ∷ n) e =
    let x : to_ascii_uppercase a ≡ to_ascii_uppercase b = cc in
    let y : map to_ascii_uppercase s ≡ map to_ascii_uppercase n = cc in
    cc (upper_same a b x, uppers_same s n y)

-- and a name is written in capital ones
pub alike : (r : Bool) (s n : List ℕ) → map to_ascii_uppercase n ≡ n → IsTrue r ↔ (map to_ascii_lowercase s ≡ map to_ascii_lowercase n) → Decides r (map to_ascii_uppercase s ≡ n)
alike r s n c h = (λ e. lowers_same s n (h.0 e) ∙ c, λ e. h.1 (uppers_same s n (e ∙ sym c)))

pub one : (s : List ℕ) (u : ℕ) → 1 ≤ length s → length s < 2 → u ≡ to_ascii_uppercase (get_or s 0 0) → u ∷ [] ≡ map to_ascii_uppercase s
one [] u l h e = absurd (omega arith)
one (x ∷ []) u l h e = ap (λ v. v ∷ []) e
one (x ∷ y ∷ t) u l h e = absurd (omega arith)

module _ (s : List ℕ) (long : length s ≡ 1 → ⊥) where
  size : (n : List ℕ) → length n ≡ 1 → map to_ascii_uppercase s ≡ n → ⊥
  size n o e = long (sym (length-map s to_ascii_uppercase) ∙ ap length e ∙ o)

  pub none : (map to_ascii_uppercase s ≡ codes "RPL" → ⊥) → ((f : FrameName) → map to_ascii_uppercase s ≡ frame_name f → ⊥) → (a : Address) → Names s a → ⊥
  none r f N e = size (codes "N") refl e
  none r f G e = size (codes "G") refl e
  none r f M e = size (codes "M") refl e
  none r f (Passed F) e = size (codes "F") refl e
  none r f (Passed S) e = size (codes "S") refl e
  none r f (Passed T) e = size (codes "T") refl e
  none r f (Passed D) e = size (codes "D") refl e
  none r f (Axis X) e = size (codes "X") refl e
  none r f (Axis Y) e = size (codes "Y") refl e
  none r f (Axis Z) e = size (codes "Z") refl e
  none r f Rpl e = r e
  none r f (Name x) e = f x e
