use Rattle.std.proofs.Common.{◌+◌, ◌<◌, [], ◌∷◌, ◌++◌, drop, length, sym, ap, ◌∙◌, arith}
use Rattle.teal_code.specs.declared.instr.Immediates.TheVariants as is
use Rattle.teal_code.specs.Encoding.{instr_encoding}
use Rattle.teal_asm.specs.Program.{instruction_encoding}
use Rattle.teal_asm.specs.Instructions.{meant, all_meant}
use Rattle.teal_asm.proofs.Emitting.{write_begins, writes_on, write_ends, places_small, branch_offset, length-meant}
use Rattle.teal_asm.proofs.emit.encoded.Goals.{in-Straight+in_ok-encode_into-in-Straight, in-Branch+in_ok-push_branch-in-Branch}
use Rattle.teal_asm.proofs.emit.encoded.Goals as goal

pub loop-number-init : goal.loop-number-init
loop-number-init c = write_begins _ _ _ (c.in_ok-push.ensures.items ∙ ap (λ xs. xs ++ c.version_byte.result ∷ []) c.new-code.ensures.items ∙ ap (λ v. v ∷ []) c.version_byte.ensures)

pub offset_to-offset-requires-clause-small : goal.offset_to-offset-requires-clause-small
offset_to-offset-requires-clause-small c = places_small (all_meant c.args.instructions.now) c.args.places.now c.requires

pub loop-number-preserved : goal.loop-number-preserved
loop-number-preserved c =
    elim c.match-instruction.branch [
      | in-Straight+in_ok-encode_into-in-Straight w ↦ writes_on c.args.instructions.now c.loop-number.number c.index-instructions-number.result c.loop-number.code.items _ _ c.loop-number-test.true c.index-instructions-number.is c.loop-number.invariant
          (ap (λ v. v.items) w.code-is ∙ w.in_ok-encode_into-in-Straight.ensures.written ∙ ap (λ i. c.loop-number.code.items ++ instruction_encoding c.loop-number.number (meant i) (drop (c.loop-number.number + 1) (all_meant c.args.instructions.now))) (sym w.in-Straight.is))
      | in-Branch+in_ok-push_branch-in-Branch w ↦ writes_on c.args.instructions.now c.loop-number.number c.index-instructions-number.result c.loop-number.code.items _ _ c.loop-number-test.true c.index-instructions-number.is c.loop-number.invariant
          (let inside : c.loop-number.number < length (all_meant c.args.instructions.now) = omega (arith, length-meant c.args.instructions.now) in
          let offset = w.offset_to-offset.ensures ∙ branch_offset (all_meant c.args.instructions.now) c.args.places.now c.loop-number.number w.in-Branch.target c.requires inside in
          ap (λ v. v.items) w.code-is ∙ w.in_ok-push_branch-in-Branch.ensures
          ∙ ap (λ n. c.loop-number.code.items ++ instr_encoding (record { opcode = w.in-Branch.opcode; immediates = is.Offset n })) offset
          ∙ ap (λ i. c.loop-number.code.items ++ instruction_encoding c.loop-number.number (meant i) (drop (c.loop-number.number + 1) (all_meant c.args.instructions.now))) (sym w.in-Branch.is))
    ]

pub returns : goal.returns
returns c = write_ends c.args.instructions.now c.loop-number.number c.loop-number.code.items _ (omega arith) c.loop-number.invariant
