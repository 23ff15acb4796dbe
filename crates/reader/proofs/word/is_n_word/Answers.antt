use Rattle.std.proofs.Common.{◌≡◌, ◌≤◌, ◌⊎◌, length, get_or, refl, rules}
use Rattle.reader.proofs.Shapes.{head_rest}
use Rattle.reader.proofs.Clean.{n_word}
use Rattle.reader.proofs.word.is_n_word.Goals as goal

pub returns-in-78 : goal.returns-in-78
returns-in-78 c e =
    let some : 1 ≤ length c.args.text.now = search rules in
    let letter : (get_or c.args.text.now 0 0 ≡ 78) ⊎ (get_or c.args.text.now 0 0 ≡ 110) = search rules in
    n_word c.args.text.now _ _ (head_rest c.args.text.now _ some refl) letter (search rules)
