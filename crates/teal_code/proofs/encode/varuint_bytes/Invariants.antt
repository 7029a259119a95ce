use Rattle.teal_code.specs.Varuint.{varuint}
use Rattle.teal_code.proofs.VaruintWriting.{Writes}
use Rattle.teal_code.proofs.encode.varuint_bytes.Given as goal

abbrev pub invariant-loop-rest : goal.invariant-loop-rest
invariant-loop-rest l = Writes l.bytes.items l.rest (varuint l.number)

abbrev pub decreases-loop-rest : goal.decreases-loop-rest
decreases-loop-rest l = l.rest
