use Rattle.std.proofs.Common.{◌≡◌, Err, length, ap, ◌∙◌, arith, rules}
use Rattle.blocks.proofs.Turns.{given, declined, next_word, stop_declined, stop_repeated, past_comment, all_read}
use Rattle.blocks.proofs.block.gather.Goals as goal

pub returns-then-not-put : goal.returns-then-not-put
returns-then-not-put c =
    let r = given _ _ _ _ c.loop-read.invariant.2 _ c.in-Some.ensures.steps.1 _ _ _ c.in_ok-read.was c.item.ensures c.in-Some-item.is in
    stop_repeated _ _ _ _ _ c.loop-read.invariant.3 _ _ _ r _ (search rules) c.put.ensures.free

pub loop-read-preserved-in-Some-item : goal.loop-read-preserved-in-Some-item
loop-read-preserved-in-Some-item c =
    let r = given _ _ _ _ c.loop-read.invariant.2 _ c.in-Some.ensures.steps.1 _ _ _ c.in_ok-read.was c.item.ensures c.in-Some-item.is in
    (tt, tt, c.in-Some.ensures.steps.0 ∙ c.loop-read.invariant.2, next_word _ _ _ _ _ c.loop-read.invariant.3 _ _ _ r _ _ _ (search rules) c.put.ensures.free c.put.ensures.filled c.note.ensures)

pub loop-read-preserved : goal.loop-read-preserved
loop-read-preserved c =
    let r = given _ _ _ _ c.loop-read.invariant.2 _ c.in-Some.ensures.steps.1 _ _ _ c.in_ok-read.was c.item.ensures c.in_default.is in
    (tt, tt, c.in-Some.ensures.steps.0 ∙ c.loop-read.invariant.2, past_comment _ _ _ _ _ c.loop-read.invariant.3 _ _ r)

pub returns-in_err-read : goal.returns-in_err-read
returns-in_err-read c =
    let e : c.from_residual.result ≡ Err c.in_err-read.field-0.0 = search rules in
    rw e (stop_declined _ _ _ _ _ c.loop-read.invariant.3 _ (declined _ _ _ _ c.loop-read.invariant.2 _ c.in-Some.ensures.steps.1 _ c.in_err-read.was))

pub returns : goal.returns
returns c =
    let inside = c.loop-read.read-iterator.within in
    all_read _ _ _ _ _ c.loop-read.invariant.3 (omega (arith, ap length c.loop-read.invariant.2)) (rw c.loop-read.invariant.2 at c.in-None.ensures.steps.1)
