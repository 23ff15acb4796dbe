use Rattle.std.proofs.Common.{◌≡◌, ◌⊎◌, ◌+◌, ℕ, Ok, MatchResult, rules}
use Rattle.std.specs.Result.{IsErrAnd}
use Rattle.units.specs.declared.fault.Fault.TheVariants.{Byte}
use Rattle.reader.specs.Words.{Clean, FirstBad}
use Rattle.reader.proofs.Faults.{word_err}
use Rattle.reader.proofs.word.read_word.Goals as goal

pub returns : goal.returns
returns c =
    let moved : MatchResult c.shaped_word.result (λ w. c.map_err.result ≡ Ok w) (λ f. IsErrAnd c.map_err.result (λ d. (Clean c.args.text.now × (d ≡ f)) ⊎ ((i : ℕ) × FirstBad c.args.text.now i × (d ≡ Byte (c.args.place + i))))) = search rules in
    word_err c.args.text.now c.args.place _ _ c.shaped_word.ensures moved
