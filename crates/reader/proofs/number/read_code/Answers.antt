use Rattle.std.proofs.Common.{◌≤◌, get_or, take, sym, ap, ◌∙◌, subst, inl, inr, arith, true-eqb}
use Rattle.std.specs.Str.Parse.{digits_value}
use Rattle.std.proofs.lemmas.List.{take_more, length-take-le, nil_from_length}
use Rattle.reader.specs.Shapes.{IsCode, FirstWrong}
use Rattle.reader.proofs.Shapes.{Code, OnlyDigits, code_begins, code_room, code_worth, code_bound, code_other, code_digit, first_wrong, first_short}
use Rattle.reader.proofs.number.read_code.Goals as goal

pub overflow_mul-value : goal.overflow_mul-value
overflow_mul-value c = omega (arith, code_room c.loop-i.value c.loop-i.i c.loop-i.invariant.3 (omega arith))

pub overflow_add-value : goal.overflow_add-value
overflow_add-value c = omega (arith, code_room c.loop-i.value c.loop-i.i c.loop-i.invariant.3 (omega arith))

pub returns-in_default : goal.returns-in_default
returns-in_default c = first_wrong IsCode c.args.s.now c.loop-i.i c.loop-i-test.true (code_begins _ c.loop-i.invariant.1) (code_other _ _ (inl (omega arith)))

pub returns-in_default-2 : goal.returns-in_default-2
returns-in_default-2 c = first_wrong IsCode c.args.s.now c.loop-i.i c.loop-i-test.true (code_begins _ c.loop-i.invariant.1) (code_other _ _ (inr (omega arith)))

pub loop-i-preserved : goal.loop-i-preserved
loop-i-preserved c =
    let s = c.args.s.now in
    let i = c.loop-i.i in
    let more = sym (take_more s i 0 c.loop-i-test.true) in
    let long = length-take-le i s (omega arith) in
    let b = get_or s i 0 in
    let low : 48 ≤ get_or s i 0 = omega arith in
    let high : get_or s i 0 ≤ 57 = omega arith in
    (omega arith, subst Code more (code_digit (take i s) b c.loop-i.invariant.1 low high (omega arith)), code_worth c.loop-i.value b (take i s) c.loop-i.invariant.2 low high ∙ ap (digits_value 10) more, code_bound c.loop-i.value b i c.loop-i.invariant.3 high)

pub returns-then-is_empty : goal.returns-then-is_empty
returns-then-is_empty c =
    let none = true-eqb _ _ c.if-is_empty.ensures in
    subst (FirstWrong IsCode c.args.s.now) none (first_short IsCode c.args.s.now (code_begins _ (record { only = subst OnlyDigits (sym (nil_from_length c.args.s.now none)) tt; most = omega arith })) (λ x. omega (arith, x.some)))
