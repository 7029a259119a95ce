use Rattle.std.proofs.Common.{◌<◌, ◌++◌, length, get_or, ap, ◌∙◌, arith}
use Rattle.std.specs.List.{flat_map}
use Rattle.avm_ledger.specs.Encodings.{entry_bytes, u8_bytes}
use Rattle.teal_code.proofs.Appended.{at_first, goes_on, none_left, one_more}
use Rattle.avm_ledger.proofs.encoding.push_state.Goals as goal

pub loop-key-init : goal.loop-key-init
loop-key-init c =
    let old = c.args.bytes.now.items in
    let state = c.args.state.now in
    let count = c.in_ok-put_short_count.ensures.written ∙ ap (λ n. old ++ u8_bytes n) c.len.ensures.len in
    (at_first old (u8_bytes (length state)) (flat_map entry_bytes state) _ count, (_, count))

pub returns-in_err-push_entry-clause-kept : goal.returns-in_err-push_entry-clause-kept
returns-in_err-push_entry-clause-kept c = goes_on _ c.loop-key.bytes.items _ c.loop-key.invariant.1 c.in_err-push_entry.ensures.kept

pub loop-key-preserved : goal.loop-key-preserved
loop-key-preserved c =
    let i = c.loop-key.key-index in
    let x = c.loop-key-item.result in
    let is = c.loop-key-item.is ∙ ap (λ xs. get_or xs i x) c.as_slice-key-items.ensures.all in
    let within : i < length c.args.state.now = omega (arith, ap length c.as_slice-key-items.ensures.all) in (
      one_more entry_bytes c.args.state.now i x c.loop-key.bytes.items _ _ within is c.loop-key.invariant.0 c.in_ok-push_entry.ensures.written,
      goes_on _ c.loop-key.bytes.items _ c.loop-key.invariant.1 c.in_ok-push_entry.ensures.kept,
    )

pub returns-clause-written : goal.returns-clause-written
returns-clause-written c =
    none_left entry_bytes c.args.state.now c.loop-key.key-index _ _ (omega (arith, ap length c.as_slice-key-items.ensures.all)) c.loop-key.invariant.0

pub returns-clause-kept : goal.returns-clause-kept
returns-clause-kept c = c.loop-key.invariant.1
