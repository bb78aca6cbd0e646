use Rattle.std.proofs.Common.{arith}
use Rattle.market_amounts.proofs.Digits.{digit_step, all_digits}
use Rattle.market_amounts.proofs.numbers.value_within.Goals as goal

pub returns-in_err-checked_mul : goal.returns-in_err-checked_mul
returns-in_err-checked_mul c =
    let step = digit_step c.args.digits.now c.loop-digit.digit-index (all_digits c.args.digits.now c.requires) c.loop-digit-test.true in grind arith

pub overflow_sub-digit : goal.overflow_sub-digit
overflow_sub-digit c =
    let step = digit_step c.args.digits.now c.loop-digit.digit-index (all_digits c.args.digits.now c.requires) c.loop-digit-test.true in step.low

pub returns-in_err-value : goal.returns-in_err-value
returns-in_err-value c =
    let step = digit_step c.args.digits.now c.loop-digit.digit-index (all_digits c.args.digits.now c.requires) c.loop-digit-test.true in grind arith

pub loop-digit-preserved : goal.loop-digit-preserved
loop-digit-preserved c =
    let step = digit_step c.args.digits.now c.loop-digit.digit-index (all_digits c.args.digits.now c.requires) c.loop-digit-test.true in grind arith
