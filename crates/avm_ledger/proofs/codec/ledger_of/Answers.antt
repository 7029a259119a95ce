use Rattle.std.proofs.Common.{◌<◌, arith}
use Rattle.std.proofs.lemmas.List.Elements.{All-from_get_or}
use Rattle.avm_ledger.proofs.LedgerKept.{ledger_kept}
use Rattle.avm_ledger.proofs.KeptOrder.{orderly}
use Rattle.avm_ledger.proofs.codec.ledger_of.Goals as goal

pub from_parts-requires : goal.from_parts-requires
from_parts-requires c =
    orderly _ (ledger_kept c.args.bytes.now _ (All-from_get_or (λ b. b < 256) c.args.bytes.now 0 (λ i lt. omega (arith, c.type_inv.bytes i))) c.in_ok-parts.ensures).0
