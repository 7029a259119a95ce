use Rattle.std.proofs.Common.{◌-◌, length}
use Rattle.std.specs.String.{string_bytes}
use Rattle.teal_dis.proofs.Listings.{ListedOn}
use Rattle.teal_dis.proofs.listing.list.Given as goal

abbrev pub invariant-loop-placed : goal.invariant-loop-placed
invariant-loop-placed l = ListedOn l.program (string_bytes l.text) l.number

abbrev pub decreases-loop-placed : goal.decreases-loop-placed
decreases-loop-placed l = length l.program.placed - l.number
