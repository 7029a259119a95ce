use Rattle.std.proofs.Common.{refl, sym}
use Rattle.hex.specs.Hex.{encode_lower}
use Rattle.avm_input.proofs.Written.{all_written, none_begun, none_written, piece_begun, piece_written, whole_begun}
use Rattle.avm_input.proofs.replies.write_digits.Goals as goal

pub loop-rest-init : goal.loop-rest-init
loop-rest-init g c = none_written (g.W.Write.contents c.args.writer.now) c.args.bytes.now

pub returns-then-not-write_piece-clause-begun : goal.returns-then-not-write_piece-clause-begun
returns-then-not-write_piece-clause-begun g c =
    piece_begun (g.W.Write.contents c.args.writer.now) (g.W.Write.contents c.loop-rest.writer) (g.W.Write.contents c.write_piece.new.writer) c.args.bytes.now c.loop-rest.rest.now c.split_at.result.0.now c.split_at.result.1.now
    c.split_at.ensures.by_index.0 c.write_piece.ensures.begun c.loop-rest.invariant

pub loop-rest-preserved : goal.loop-rest-preserved
loop-rest-preserved g c =
    piece_written (g.W.Write.contents c.args.writer.now) (g.W.Write.contents c.loop-rest.writer) (g.W.Write.contents c.write_piece.new.writer) c.args.bytes.now c.loop-rest.rest.now c.split_at.result.0.now c.split_at.result.1.now
    c.split_at.ensures.by_index.0 (c.if-not-write_piece.ensures.written refl) c.loop-rest.invariant

pub returns-in_default-clause-begun : goal.returns-in_default-clause-begun
returns-in_default-clause-begun g c = none_begun (g.W.Write.contents c.args.writer.now) (encode_lower c.args.bytes.now)

pub returns-clause-written : goal.returns-clause-written
returns-clause-written g c = λ done. all_written (g.W.Write.contents c.args.writer.now) (g.W.Write.contents c.loop-rest.writer) c.args.bytes.now c.loop-rest.rest.now (sym c.loop-rest-test.ensures) c.loop-rest.invariant

pub returns-clause-begun : goal.returns-clause-begun
returns-clause-begun g c = whole_begun (g.W.Write.contents c.args.writer.now) (g.W.Write.contents c.loop-rest.writer) c.args.bytes.now c.loop-rest.rest.now c.loop-rest.invariant
