use Rattle.std.proofs.Common.{◌≡◌, ◌++◌, map, drop}
use Rattle.teal_dis.specs.Listing.{constant}
use Rattle.teal_dis.specs.Shown.{texts}
use Rattle.teal_dis.proofs.operands.all_constants.Given as goal

abbrev pub invariant-loop-bytes : goal.invariant-loop-bytes
invariant-loop-bytes l = texts l.words.items ++ map constant (drop l.bytes-index l.strings) ≡ map constant l.strings
