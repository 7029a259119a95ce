use Rattle.std.proofs.Common.{[]}
use Rattle.avm_cpu.proofs.cpu.Cpu.new.Goals as goal

pub returns : goal.returns
returns c = λ i. record { stack = []; scratch = c.in_ok-scratch.ensures i; uint_constants = c.new.ensures.items i; byte_constants = c.new-2.ensures i; place = c.args.place }
