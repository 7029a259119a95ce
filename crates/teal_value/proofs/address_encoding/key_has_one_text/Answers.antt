use Rattle.std.proofs.Common.{arith}
use Rattle.teal_value.proofs.AddressLaw.{reads, only}
use Rattle.teal_value.proofs.address_encoding.key_has_one_text.Goals as goal

pub returns-clause-reads : goal.returns-clause-reads
returns-clause-reads c = reads c.args.key.now c.args.sum.now c.requires.key c.requires.sum.0 (λ i. omega (arith, c.type_inv.key i)) (λ i. omega (arith, c.type_inv.sum i)) c.requires.sum.1

pub returns-clause-only : goal.returns-clause-only
returns-clause-only c = λ text. only text (record { 0 = c.args.key.now })
