use Rattle.std.proofs.Common.{◌<◌, arith}
use Rattle.std.proofs.lemmas.List.Elements.{All-from_get_or}
use Rattle.avm_ledger.proofs.LedgerRead.{rules_of, encoding_of, only_its_ledger}
use Rattle.avm_ledger.proofs.ledger.Ledger.read.Goals as goal

pub returns-clause-rules : goal.returns-clause-rules
returns-clause-rules c =
    rules_of c.args.bytes.now c.ledger_of.result (All-from_get_or (λ b. b < 256) c.args.bytes.now 0 (λ i lt. omega (arith, c.type_inv.bytes i))) c.ledger_of.ensures

pub returns-clause-encoded : goal.returns-clause-encoded
returns-clause-encoded c =
    encoding_of c.args.bytes.now c.ledger_of.result (All-from_get_or (λ b. b < 256) c.args.bytes.now 0 (λ i lt. omega (arith, c.type_inv.bytes i))) c.ledger_of.ensures

pub returns-clause-only : goal.returns-clause-only
returns-clause-only c = λ l keeps few e. only_its_ledger c.args.bytes.now c.ledger_of.result l c.ledger_of.ensures keeps few e
