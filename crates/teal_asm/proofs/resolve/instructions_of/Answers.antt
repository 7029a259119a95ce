use Rattle.std.proofs.Common.{◌≡◌, ◌++◌, ℕ, List, ap, ◌∙◌}
use Rattle.teal_asm.specs.declared.emit.Instruction.{Instruction}
use Rattle.teal_asm.specs.Meaning.{uint_block_in_front, byte_block_in_front}
use Rattle.teal_asm.specs.Instructions.{all_meant}
use Rattle.teal_asm.proofs.resolve.instructions_of.Goals as goal

blocks : (us us' : List ℕ) (ss ss' : List (List ℕ)) (is : List Instruction) → us ≡ us' → ss ≡ ss' → all_meant is ≡ uint_block_in_front us ++ byte_block_in_front ss → all_meant is ≡ uint_block_in_front us' ++ byte_block_in_front ss'
blocks us us' ss ss' is uints strings e = e ∙ ap (λ ns. uint_block_in_front ns ++ byte_block_in_front ss) uints ∙ ap (λ ts. uint_block_in_front us' ++ byte_block_in_front ts) strings

pub instructions_behind-requires-clause-blocks : goal.instructions_behind-requires-clause-blocks
instructions_behind-requires-clause-blocks c = blocks _ _ _ _ c.in_ok-blocks.blocks.items c.requires.uints c.requires.strings c.in_ok-blocks.ensures
