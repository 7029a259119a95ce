use Rattle.std.proofs.Common.{◌≡◌, length, rules}
use Rattle.std.specs.Vec.Iter.{into_iter_len}
use Rattle.std.proofs.lemmas.Iterator.Adapters.{YieldsList-from_vec}
use Rattle.avm_ledger.proofs.Collected.{drained}
use Rattle.avm_ledger.proofs.sorted_map.map_of.Goals as goal

pub returns : goal.returns
returns g c =
    let all = c.args.entries.items in
    let d = c.in_ok-map.ensures.ran in
    let len : into_iter_len c.into_iter.result ≡ length all = search rules in
    drained g.met.K.Ord.total c.requires.exact _ _ all d.0 c.in_ok-map.map c.requires.order (YieldsList-from_vec all c.into_iter.ensures.rest len) d.1 d.2
