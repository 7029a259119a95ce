use Rattle.std.proofs.Common.{◌≡◌, ℕ, List, refl, subst, sym, arith}
use Rattle.std.specs.Io.KnownBytes.{Consumes}
use Rattle.std.proofs.KnownBytes.{Consumes-nil, Consumes-trans, Consumes-whole}
use Rattle.std.proofs.lemmas.List.{append-nil}
use Rattle.avm_input.proofs.input.read_all.Goals as goal

pub reads-init : goal.reads-init
reads-init g c = (rw c.in_ok-input.ensures.items (Consumes-nil (g.R.Read.remaining c.args.reader.now)), refl)

pub reads-preserved : goal.reads-preserved
reads-preserved g c =
    let had = g.R.Read.remaining c.args.reader.now in
    let left = g.R.Read.remaining c.read.new.self in
    let more = Consumes-trans had _ left _ _ c.reads.invariant.0 c.in_ok-count.ensures.bytes.0 in
    (subst (Consumes had left) (sym c.in_ok-extend_from_slice.ensures.items) more, omega arith)

pub returns-then-count-eq0 : goal.returns-then-count-eq0
returns-then-count-eq0 g c =
    let had = g.R.Read.remaining c.args.reader.now in
    let left = g.R.Read.remaining c.read.new.self in
    let input = c.reads.input.items in
    let more = Consumes-trans had _ left _ _ c.reads.invariant.0 c.in_ok-count.ensures.bytes.0 in
    let at_end = c.in_ok-count.ensures.bytes.1 c.if-count-eq0.true (omega arith) in
    Consumes-whole had left _ (λ (bytes : List ℕ). input ≡ bytes) more at_end (rw c.if-count-eq0.true (sym (append-nil input)))
