use Rattle.std.proofs.Common.{◌∙◌, sym, refl, arith}
use Rattle.avm_input.proofs.LineReading.{blank_first, digits_first, fewer_behind, none_left, some_bytes}
use Rattle.avm_input.proofs.digit_lines.DigitLines.next_line.Goals as goal

pub loop-self-init : goal.loop-self-init
loop-self-init c = (refl, c.self.invariant)

pub invariant_of-self : goal.invariant_of-self
invariant_of-self c = c.loop-self.invariant.1

pub overflow_add-self : goal.overflow_add-self
overflow_add-self c =
    let some = some_bytes _ _ c.is_empty.ensures c.loop-self-test.true in
    omega (arith, some, c.loop-self.invariant.1)

pub invariant_of-self-then-not-are_blank : goal.invariant_of-self-then-not-are_blank
invariant_of-self-then-not-are_blank c =
    let some = some_bytes _ _ c.is_empty.ensures c.loop-self-test.true in
    omega (arith, fewer_behind _ _ some c.first_line.ensures.next, c.loop-self.invariant.1)

pub returns-then-not-are_blank : goal.returns-then-not-are_blank
returns-then-not-are_blank c =
    let some = some_bytes _ _ c.is_empty.ensures c.loop-self-test.true in
    sym c.self.view_is ∙ c.loop-self.invariant.0 ∙ digits_first _ _ _ _ some c.first_line.ensures.line c.first_line.ensures.next (sym c.are_blank.ensures ∙ c.if-not-are_blank.true)

pub loop-self-smaller : goal.loop-self-smaller
loop-self-smaller c =
    let some = some_bytes _ _ c.is_empty.ensures c.loop-self-test.true in
    fewer_behind _ _ some c.first_line.ensures.next

pub loop-self-preserved : goal.loop-self-preserved
loop-self-preserved c =
    let some = some_bytes _ _ c.is_empty.ensures c.loop-self-test.true in (
      c.loop-self.invariant.0 ∙ blank_first _ _ _ _ some c.first_line.ensures.line c.first_line.ensures.next (sym c.are_blank.ensures ∙ c.if-not-are_blank.false),
      omega (arith, fewer_behind _ _ some c.first_line.ensures.next, c.loop-self.invariant.1),
    )

pub returns : goal.returns
returns c =
    let none = none_left c.loop-self.self-inside.before c.loop-self.self-inside.rest.now (sym c.is_empty.ensures ∙ c.loop-self-test.false) in
    (sym c.self.view_is ∙ c.loop-self.invariant.0 ∙ none, none)
