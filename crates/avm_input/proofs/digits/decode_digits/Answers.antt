use Rattle.std.proofs.Common.{sym}
use Rattle.avm_input.proofs.ReadPieces.{piece_more, piece_refused}
use Rattle.avm_input.proofs.digits.decode_digits.Goals as goal

pub loop-rest-preserved : goal.loop-rest-preserved
loop-rest-preserved c =
    let (even, was) = c.loop-rest.invariant in
    piece_more c.loop-rest.bytes.items _ _ _ _ _ _ even c.split_at.ensures.front_len (sym c.split_at.ensures.by_index.0) c.in_ok-add_piece.ensures c.if-not-branch.false was

pub returns-then-not-branch : goal.returns-then-not-branch
returns-then-not-branch c =
    piece_refused c.loop-rest.bytes.items _ _ _ _ _ _ c.split_at.ensures.front_len (sym c.split_at.ensures.by_index.0) c.in_ok-add_piece.ensures c.if-not-branch.true c.loop-rest.invariant.1
