-- A word reads as its definition says.
use Rattle.std.proofs.Common.{◌≡◌, ℕ, ◌+◌, Bool, true, false, cond, eqb, leb, List, [], ◌∷◌, map, length, take, drop, Some, None, Ok, Err, Result, sym, refl, ap, ◌∙◌, inl, inr, ⊎_elim, arith}
use Rattle.std.specs.Str.Parse.{digits_value}
use Rattle.std.specs.Char.{to_ascii_uppercase}
use Rattle.std.specs.List.{prefix_len}
use Rattle.std.proofs.lemmas.Bool.{false≢true}
use Rattle.units.specs.declared.axis.Axis.TheVariants.{X, Y, Z}
use Rattle.units.specs.declared.axis.Plane.TheVariants.{Xy, Zx, Yz}
use Rattle.units.specs.declared.axis.Side.TheVariants.{Lower, Upper}
use Rattle.units.specs.declared.fault.Fault.{Fault}
use Rattle.units.specs.declared.fault.Fault.TheVariants.{Byte, Shape, Unknown}
use Rattle.reader.specs.declared.functions.Motion.TheVariants.{Rapid, Linear}
use Rattle.reader.specs.declared.functions.Settable.TheVariants.{G500, G54, G55, G56, G57, G58, G59}
use Rattle.reader.specs.declared.functions.LengthUnit.TheVariants.{Inch, Millimetre}
use Rattle.reader.specs.declared.functions.Distance.TheVariants.{Absolute, Incremental}
use Rattle.reader.specs.declared.functions.GFunction.{GFunction}
use Rattle.reader.specs.declared.functions.GFunction.TheVariants.{Motion, Plane, Settable, Machine, Unit as LengthsIn, Distance, Limit}
use Rattle.reader.specs.declared.types.FrameName.TheVariants.{Trans, Rot, Scale, Mirror, Atrans, Arot, Ascale, Amirror}
use Rattle.reader.specs.declared.types.Passed.TheVariants.{F, S, T, D}
use Rattle.reader.specs.declared.types.Address.{Address}
use Rattle.reader.specs.declared.types.Address.TheVariants.{N, G, M, Passed, Axis, Rpl, Name}
use Rattle.reader.specs.declared.types.Number.{Number}
use Rattle.reader.specs.declared.types.Said.{Said}
use Rattle.reader.specs.declared.types.Said.TheVariants.{Name as s_name, Axis as s_axis, Rpl as s_rpl, G as s_g, M as s_m, N as s_n, Passed as s_passed}
use Rattle.reader.specs.declared.types.Item.{Item}
use Rattle.reader.specs.Words.{in_word, Clean, FirstBad, spelled, letters_of, tail_of, Addressed, Counts, said, Says, g_number, ItemIs, Strange, Misshapen, Declined, by_byte, by_address, by_shape}
use Rattle.reader.specs.Reading.{longest, ok, alike, look, addresses, functions, spelled_by, address_of, function_of, number_of, as_g, said_by, listed, addressed, reading}
use Rattle.reader.proofs.Clean.{shaped_clean}
use Rattle.reader.proofs.Listed.{leading_is}
use Rattle.reader.proofs.Fronts.{split, both, le_yes, le_is, eq_is, tells_all, longest_is, whole_not}

pub alike_is : (s t : List ℕ) → alike s t ≡ true → s ≡ t
alike_is [] [] e = refl
alike_is [] (b ∷ t) e = absurd (false≢true e)
alike_is (a ∷ s) [] e = absurd (false≢true e)
alike_is (a ∷ s) (b ∷ t) e = let h = both (eqb a b) (alike s t) e in let p = eq_is a b h.0 in let q = alike_is s t h.1 in λ i. p i ∷ q i

look_none : {X : Type 0} (test : X → Bool) → ((x : X) → test x ≡ true → ⊥) → (xs : List X) → look test xs ≡ None
look_none test h [] = refl
look_none test h (x ∷ xs) = ⊎_elim (λ y. absurd (h x y)) (λ n. ap (λ b. cond b (Some x) (look test xs)) n ∙ look_none test h xs) (split (test x))

pub address_some : (a : Address) → spelled_by (spelled a) ≡ Some a
address_some N = refl
address_some G = refl
address_some M = refl
address_some (Passed F) = refl
address_some (Passed S) = refl
address_some (Passed T) = refl
address_some (Passed D) = refl
address_some (Axis X) = refl
address_some (Axis Y) = refl
address_some (Axis Z) = refl
address_some Rpl = refl
address_some (Name Trans) = refl
address_some (Name Rot) = refl
address_some (Name Scale) = refl
address_some (Name Mirror) = refl
address_some (Name Atrans) = refl
address_some (Name Arot) = refl
address_some (Name Ascale) = refl
address_some (Name Amirror) = refl

pub function_some : (g : GFunction) → function_of (g_number g) ≡ Some g
function_some (Motion Rapid) = refl
function_some (Motion Linear) = refl
function_some (Plane Xy) = refl
function_some (Plane Zx) = refl
function_some (Plane Yz) = refl
function_some (Limit Lower) = refl
function_some (Limit Upper) = refl
function_some Machine = refl
function_some (Settable G54) = refl
function_some (Settable G55) = refl
function_some (Settable G56) = refl
function_some (Settable G57) = refl
function_some (Settable G58) = refl
function_some (Settable G59) = refl
function_some (LengthsIn Inch) = refl
function_some (LengthsIn Millimetre) = refl
function_some (Distance Absolute) = refl
function_some (Distance Incremental) = refl
function_some (Settable G500) = refl

number_is : (n : Number) (t : List ℕ) → Counts n t → number_of t ≡ n
number_is n t c = λ i. record { value = sym c.0 i; decimals = sym c.1 i }

said_is : (x : Said) (t : List ℕ) → Says t x → said_by (said x) t ≡ Some x
said_is (s_name f) t v = refl
said_is (s_axis a n) t v = ap (λ m. Some (s_axis a m)) (number_is n t v)
said_is (s_rpl n) t v = ap (λ m. Some (s_rpl m)) (number_is n (drop 1 t) v)
said_is (s_g g) t v = ap (λ n. as_g (function_of n)) v ∙ ap as_g (function_some g)
said_is (s_m m) t v = ap (λ f. Some (s_m f)) (sym v)
said_is s_n t v = refl
said_is (s_passed a) t v = refl

module _ (w : List ℕ) (p : ℕ) where
  abbrev shaped : Address → Bool → Result Item Fault
  shaped a b = cond b (listed p (said_by a (tail_of w))) (Err (Shape (p + letters_of w + longest (ok a) (tail_of w) (length (tail_of w)))))

  clean_on : Clean w → reading w p ≡ addressed w p (address_of w)
  clean_on c =
      let e : prefix_len in_word w ≡ length w = leading_is in_word w (length w) (omega arith) c (λ l. absurd (omega arith)) in
      ap (λ b. cond b (addressed w p (address_of w)) (Err (Byte (p + prefix_len in_word w)))) (le_yes (length w) (prefix_len in_word w) (omega arith))

  known_on : (a : Address) → Addressed w a → addressed w p (address_of w) ≡ addressed w p (Some a)
  known_on a e = ap (addressed w p) (ap spelled_by e ∙ address_some a)

  pub reads_right : (x : Item) → ItemIs w p x → reading w p ≡ Ok x
  reads_right x i =
      let a = said x.says in
      clean_on (shaped_clean w a i.follows)
      ∙ known_on a i.address
      ∙ ap (shaped a) ((tells_all a).whole_yes (tail_of w) i.follows)
      ∙ ap (listed p) (said_is x.says (tail_of w) i.values)
      ∙ ap (λ q. Ok (record { says = x.says; place = q })) (sym i.place)

  bad_byte : (i : ℕ) → FirstBad w i → reading w p ≡ Err (Byte (p + i))
  bad_byte i b =
      let in' = b.inside in
      let at : prefix_len in_word w ≡ i = leading_is in_word w i (omega arith) b.good (λ l. b.bad) in
      let not-all : leb (length w) (prefix_len in_word w) ≡ false = ⊎_elim (λ y. absurd (omega (arith, le_is (length w) (prefix_len in_word w) y))) (λ n. n) (split (leb (length w) (prefix_len in_word w))) in
      ap (λ b. cond b (addressed w p (address_of w)) (Err (Byte (p + prefix_len in_word w)))) not-all ∙ ap (λ k. Err (Byte (p + k))) at

  strange : Clean w → Strange w → reading w p ≡ Err (Unknown p)
  strange c (inl none) = clean_on c ∙ ap (addressed w p) (look_none (λ a. alike (map to_ascii_uppercase (take (letters_of w) w)) (spelled a)) (λ a y. none a (alike_is (map to_ascii_uppercase (take (letters_of w) w)) (spelled a) y)) addresses)
  strange c (inr g) =
      clean_on c
      ∙ known_on G g.0
      ∙ ap (shaped G) ((tells_all G).whole_yes (tail_of w) g.1)
      ∙ ap (λ o. listed p (as_g o)) (look_none (λ f. eqb (digits_value 10 (tail_of w)) (g_number f)) (λ f y. g.2 f (eq_is (digits_value 10 (tail_of w)) (g_number f) y)) functions)

  misshapen : (i : ℕ) → Clean w → Misshapen w i → reading w p ≡ Err (Shape (p + letters_of w + i))
  misshapen i c m =
      clean_on c
      ∙ known_on m.under m.address
      ∙ ap (shaped m.under) (whole_not (tells_all m.under) (tail_of w) i m.wrong)
      ∙ ap (λ k. Err (Shape (p + letters_of w + k))) (longest_is (tells_all m.under) (tail_of w) i m.wrong)

  pub reads_wrong : (f : Fault) → Declined w p f → reading w p ≡ Err f
  reads_wrong f (by_byte i b e) = bad_byte i b ∙ ap (λ (g : Fault). Err g) (sym e)
  reads_wrong f (by_address c s e) = strange c s ∙ ap (λ (g : Fault). Err g) (sym e)
  reads_wrong f (by_shape i c m e) = misshapen i c m ∙ ap (λ (g : Fault). Err g) (sym e)
