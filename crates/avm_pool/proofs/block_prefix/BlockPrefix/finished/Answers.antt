use Rattle.std.proofs.Common.{◌≡◌, ◌∙◌, ◌++◌, ap, sym, subst, length, take, drop, List, arith}
use Rattle.std.specs.List.{flat_map}
use Rattle.avm_block.specs.declared.entry.Entry.{Entry}
use Rattle.avm_block.specs.BlockEncoding.{block_entry_bytes}
use Rattle.mv_parts.proofs.Seals.{count_same}
use Rattle.avm_pool.specs.BlockPrefix.{Beginning, beginning_bytes}
use Rattle.avm_pool.proofs.Beginnings.{front_finished}
use Rattle.avm_pool.proofs.block_prefix.BlockPrefix.finished.Goals as goal

pub returns-clause-front : goal.returns-clause-front
returns-clause-front c =
    let b = c.args.self in
    let all = c.in_ok-entries.entries.items in
    let more = c.split_at.result.1.now in
    let encoded = flat_map block_entry_bytes more in
    let same : c.self.inside.entries.items ≡ b.entries = ap (λ (x : Beginning). x.entries) c.self.view_is in
    let counted : c.len-count.result ≡ length c.self.inside.entries.items = omega (arith, c.len-count.ensures) in
    let count : b.count ≡ length all = c.requires.count_is ∙ sym (count_same _ _ all c.in_ok-entries.ensures.made) in
    let first : take (length b.entries) all ≡ b.entries = subst (λ (xs : List Entry). take (length xs) all ≡ xs) same c.in_ok-entries.ensures.first in
    let rest : more ≡ drop (length b.entries) all = c.split_at.ensures.back ∙ ap (drop c.len-count.result) c.as_slice.ensures.value ∙ ap (λ n. drop n all) (counted ∙ ap length same) in
    c.in_ok-front.ensures
    ∙ ap (λ xs. xs ++ encoded) (c.self.invariant ∙ ap (λ (x : Beginning). beginning_bytes x.base x.header x.count x.entries) c.self.view_is)
    ∙ front_finished b all more count first rest
