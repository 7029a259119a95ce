use Rattle.std.proofs.Common.{◌≡◌, ◌∙◌, ◌+◌, ◌++◌, ◌∷◌, [], ap, length, sym, subst, take, rules, arith}
use Rattle.std.proofs.lemmas.List.{length-take, take_more, take_all}
use Rattle.mv_parts.specs.MadeEntries.{AreBlockEntries}
use Rattle.mv_parts.proofs.Seals.{count_same, entries_further, entry_at}
use Rattle.mv_parts.proofs.sealing.are_first.Goals as goal

pub loop-index-preserved : goal.loop-index-preserved
loop-index-preserved c =
    let i = c.loop-index.index in
    let made = c.args.made.now in
    let m = c.index-made-index.result in
    let more : take (i + 1) made ≡ take i made ++ m ∷ [] = take_more made i m c.loop-index-test.true ∙ ap (λ x. take i made ++ x ∷ []) (sym c.index-made-index.is) in
    rw more (entries_further c.args.calls.now c.args.entries.now i (take i made) c.index-entries-index.result m (omega (arith, c.loop-index-test.true, c.if-entries-made.false)) c.index-entries-index.is c.loop-index.invariant (c.if-not-is_made_of.ensures.0 (search rules)))

pub returns : goal.returns
returns c =
    let calls = c.args.calls.now in
    let entries = c.args.entries.now in
    let made = c.args.made.now in
    let end : c.loop-index.index ≡ length made = omega (arith, c.loop-index.auto.index-end, c.loop-index-test.false) in (
      (λ _. subst (AreBlockEntries calls (take (length made) entries)) (take_all (length made) made (omega arith))
          (subst (λ n. AreBlockEntries calls (take n entries) (take n made)) end c.loop-index.invariant)),
      (λ _. search rules),
    )

pub returns-then-entries-made : goal.returns-then-entries-made
returns-then-entries-made c = (
  (λ no. absurd cc),
  (λ are.
      let count = count_same c.args.calls.now (take (length c.args.made.now) c.args.entries.now) c.args.made.now are in
      absurd (omega (arith, count, length-take (length c.args.made.now) c.args.entries.now, c.if-entries-made.true))),
)

pub returns-then-not-is_made_of : goal.returns-then-not-is_made_of
returns-then-not-is_made_of c = (
  (λ no. absurd cc),
  (λ are.
      c.if-not-is_made_of.ensures.1 (entry_at c.args.calls.now c.args.entries.now c.args.made.now c.loop-index.index _ _ c.loop-index-test.true c.index-entries-index.is c.index-made-index.is are)),
)
