-- What the laws of a block's bytes say of a block that was read.
use Rattle.std.proofs.Common.{◌≡◌, ℕ, ◌<◌, ◌≤◌, List, length, get_or, Result, Ok, Err, All, subst, ap, ◌∙◌, length-append, arith}
use Rattle.std.specs.Prelude.{IfOk}
use Rattle.std.proofs.lemmas.List.Elements.{All-from_get_or}
use Rattle.teal_code.proofs.Bytes.{all_bytes}
use Rattle.teal_value.specs.Answer.{Gives}
use Rattle.teal_value.specs.declared.failure.Failure.{Failure}
use Rattle.avm_block.specs.declared.block_fault.BlockFault.{BlockFault}
use Rattle.avm_block.specs.AcceptedCalls.{is_accepted}
use Rattle.avm_block.specs.Blocks.{Block}
use Rattle.avm_block.specs.BlockReader.{body_at, block_at}
use Rattle.avm_block.specs.BlockRoundTrip.{IsBlock}
use Rattle.avm_block.specs.BlockEncoding.{body_bytes, block_bytes}
use Rattle.avm_block.proofs.BlockBack.{block_back}
use Rattle.avm_block.proofs.BlockEncoded.{body_encoded, block_encoded}

abbrev AreBytes : List ℕ → Type 0
AreBytes bytes = (i : ℕ) → get_or bytes i 0 < 256

all_below : (bytes : List ℕ) → AreBytes bytes → All (λ n. n < 256) bytes
all_below bytes below = All-from_get_or (λ n. n < 256) bytes 0 (λ i lt. below i)

-- what follows the body of a block is no longer than all the bytes
pub body_within : (bytes : List ℕ) (b : Block) (rest : List ℕ) → ((i : ℕ) → get_or bytes i 0 < 256) → body_at is_accepted bytes ≡ Ok (b, rest) → length rest ≤ length bytes
body_within bytes b rest below e =
    let read = body_encoded is_accepted bytes (b, rest) (all_bytes bytes (all_below bytes below)) e in
    omega (arith, ap length read.encoded.same, length-append (body_bytes b) rest)

-- the fields of a block that is read are within their limits
pub is_block : (bytes : List ℕ) (b : Block) → ((i : ℕ) → get_or bytes i 0 < 256) → block_at is_accepted bytes ≡ Ok b → IsBlock is_accepted b
is_block bytes b below e = (block_encoded is_accepted bytes b (all_below bytes below) e).1

-- a block that is read is encoded by those very bytes
pub encoding_of : (bytes : List ℕ) (r : Result Block (Failure BlockFault)) → ((i : ℕ) → get_or bytes i 0 < 256) → Gives (λ b. b) r (block_at is_accepted bytes) → IfOk r (λ b. block_bytes b ≡ bytes)
encoding_of bytes (Ok b) below e = (block_encoded is_accepted bytes b (all_below bytes below) e).0
encoding_of bytes (Err d) below e = tt

-- the encoding of a block is read as that block
pub only_its_block : (bytes : List ℕ) (r : Result Block (Failure BlockFault)) (b : Block) → Gives (λ x. x) r (block_at is_accepted bytes) → IsBlock is_accepted b → bytes ≡ block_bytes b → Gives (λ x. x) r (Ok b)
only_its_block bytes r b given is e = subst (λ m. Gives (λ x. x) r m) (ap (block_at is_accepted) e ∙ block_back is_accepted b is) given
