use Rattle.std.proofs.Common.{◌≡◌, ◌∙◌, ◌<◌, [], ◌∷◌, ◌++◌, length, take, ap, sym, arith}
use Rattle.std.proofs.lemmas.List.{take_all, take_more}
use Rattle.avm_cpu.proofs.constants.write_front.Goals as goal

pub loop-place-preserved : goal.loop-place-preserved
loop-place-preserved c =
    let strings = c.args.strings.now in
    let place = c.loop-place.place in
    let s = c.index-strings-place.result in
    let within : place < length strings = omega arith in
    record {
      written =
          c.in_ok-write_at.ensures.written
          ∙ ap (λ front. front ++ s ∷ []) c.loop-place.invariant.written
          ∙ ap (λ x. take place strings ++ x ∷ []) c.index-strings-place.is
          ∙ sym (take_more strings place s within);
      there = omega (arith, c.in_ok-write_at.ensures.there);
    }

pub returns-clause-written : goal.returns-clause-written
returns-clause-written c =
    let strings = c.args.strings.now in
    let all : length strings ≡ c.loop-place.place = omega arith in
    ap (λ n. take n c.loop-place.list.items) all ∙ c.loop-place.invariant.written ∙ take_all c.loop-place.place strings (omega arith)

pub returns-clause-there : goal.returns-clause-there
returns-clause-there c = omega arith
