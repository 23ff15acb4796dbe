use Rattle.std.proofs.Common.{◌≡◌, Err, ◌∙◌, arith, rules}
use Rattle.blocks.proofs.Concluded.{too_long, stopped, concluded}
use Rattle.blocks.proofs.block.typed_block.Goals as goal

pub returns-then-bytes-gt-BLOCK_BYTES : goal.returns-then-bytes-gt-BLOCK_BYTES
returns-then-bytes-gt-BLOCK_BYTES c = too_long _ _ c.if-bytes-gt-BLOCK_BYTES.true

pub returns-in_err-gather : goal.returns-in_err-gather
returns-in_err-gather c =
    let e : c.from_residual.result ≡ Err c.in_err-gather.field-0.0 = search rules in
    e ∙ stopped c.args.bytes.now c.args.inch c.in_err-gather.field-0.0 (omega arith) c.in_err-gather.ensures

pub returns : goal.returns
returns c = concluded c.args.bytes.now c.args.inch c.gather.new.g c.judge.result (omega arith) c.in_ok-gather.ensures c.judge.ensures
