use Rattle.std.proofs.Common.{◌<◌, arith}
use Rattle.std.proofs.lemmas.List.Elements.{All-from_get_or}
use Rattle.avm_item_codec.proofs.ItemsRead.{encoding_of, only_its_items}
use Rattle.avm_item_codec.proofs.codec.read_items.Goals as goal

pub returns-clause-encoded : goal.returns-clause-encoded
returns-clause-encoded c =
    encoding_of c.args.bytes.now c.items_alone.result (All-from_get_or (λ b. b < 256) c.args.bytes.now 0 (λ i lt. omega (arith, c.type_inv.bytes i))) c.items_alone.ensures

pub returns-clause-only : goal.returns-clause-only
returns-clause-only c = λ es all new few e. only_its_items c.args.bytes.now c.items_alone.result es c.items_alone.ensures all new few e
