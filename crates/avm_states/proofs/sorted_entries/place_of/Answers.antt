use Rattle.std.proofs.Common.{rules, of_calls}
use Rattle.std.proofs.lemmas.Fn.{always_returns_same}
use Rattle.avm_states.proofs.Places.{searched}
use Rattle.avm_states.proofs.sorted_entries.place_of.Goals as goal

pub returns : goal.returns
returns g c =
    let facts = c.binary_search_by.ensures in
    let by_key = facts.position (λ entry. g.K.Ord.cmp entry.0 c.args.key.now) (always_returns_same _ _ _ (λ a r f k. search (rules, of_calls))) in
    searched g.met.K.Ord.total c.args.entries.now c.args.key.now c.requires.order c.binary_search_by.result facts.bound by_key
