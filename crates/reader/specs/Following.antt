-- How what follows an address is declined, and the shape of an N word.
use Rattle.std.specs.Prelude.{◌≡◌, ℕ, List}
use Rattle.std.specs.Str.Parse.{digits_value}
use Rattle.reader.specs.declared.types.Address.{Address}
use Rattle.reader.specs.declared.types.Address.TheVariants.{N as at_n, G as at_g}
use Rattle.reader.specs.declared.types.Ailment.{Ailment}
use Rattle.reader.specs.declared.types.Ailment.TheVariants.{Unlisted as unlisted, At}
use Rattle.reader.specs.Shapes.{IsCode, FirstWrong}
use Rattle.reader.specs.Words.{Addressed, Follows, tail_of, Unlisted}

abbrev pub Ill : Address → List ℕ → Ailment → Type 0
Ill a t unlisted = (a ≡ at_g) × IsCode t × Unlisted (digits_value 10 t)
Ill a t (At i) = FirstWrong (Follows a) t i

abbrev pub NWord : List ℕ → Type 0
NWord w = Addressed w at_n × IsCode (tail_of w)
