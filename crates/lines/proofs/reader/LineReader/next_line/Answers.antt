use Rattle.std.proofs.Common.{◌≡◌, ℕ, ◌+◌, ◌-◌, ◌<◌, length, take, drop, refl, ap, ◌∙◌, arith}
use Rattle.std.proofs.lemmas.List.{take_rest}
use Rattle.std.specs.List.{position_or_len}
use Rattle.lines.proofs.Read.{ends, found_at, read}
use Rattle.lines.proofs.reader.LineReader.next_line.Goals as goal

pub returns-clause-reads : goal.returns-clause-reads
returns-clause-reads c =
    let text = c.args.self.now.text.now in
    let p = c.args.self.now.place in
    let n = c.unwrap_or.result in
    let on : p < length text = omega (arith, c.args.self.now.within) in
    let size : p + n - p ≡ n = omega arith in
    let first = found_at _ n c.first_end.result c.unwrap_or.ensures c.first_end.ensures ∙ ap (position_or_len ends) (take_rest text p) in
    let line = read text p n _ on first c.min-self.ensures _ (ap (λ (k : ℕ). take k (drop p text)) size) in
    (line, (refl, (omega arith, omega arith)))
