use Rattle.std.proofs.Common.{◌≡◌, Some, sym, ap, ◌∙◌}
use Rattle.avm_stepper.specs.Opening.{entry_numbered}
use Rattle.avm_stepper.proofs.OpenedEntries.{IsMet, opens_met, refuses_met}
use Rattle.avm_stepper.proofs.stepper.Stepper.open_block_on.Goals as goal

pub returns-in-Ok-clause-opened : goal.returns-in-Ok-clause-opened
returns-in-Ok-clause-opened g c =
    let there : entry_numbered c.args.block.now.entries c.args.entry ≡ Some c.in-Some.entry.now = ap (λ es. entry_numbered es c.args.entry) (sym c.entries.ensures.entries) ∙ sym c.in-Some.ensures in
    let met : IsMet c.args.base.now c.args.block.now c.args.entry c.in-Some.entry.now c.in-Ok.ledger c.header.result.now = record { there = there; same_base = c.in-Ok.ensures.base; before = c.in-Ok.ensures.ledger; same_header = c.header.ensures } in
    opens_met c.args.base.now c.args.block.now c.args.entry c.in-Some.entry.now c.in-Ok.ledger c.header.result.now c.open.result met c.open.ensures.started c.open.ensures.program

pub returns-in-Ok-clause-refused : goal.returns-in-Ok-clause-refused
returns-in-Ok-clause-refused g c =
    let there : entry_numbered c.args.block.now.entries c.args.entry ≡ Some c.in-Some.entry.now = ap (λ es. entry_numbered es c.args.entry) (sym c.entries.ensures.entries) ∙ sym c.in-Some.ensures in
    let met : IsMet c.args.base.now c.args.block.now c.args.entry c.in-Some.entry.now c.in-Ok.ledger c.header.result.now = record { there = there; same_base = c.in-Ok.ensures.base; before = c.in-Ok.ensures.ledger; same_header = c.header.ensures } in
    refuses_met c.args.base.now c.args.block.now c.args.entry c.in-Some.entry.now c.in-Ok.ledger c.header.result.now c.open.result met c.open.ensures.refused
