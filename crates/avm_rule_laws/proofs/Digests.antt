-- Digests are byte strings that a machine may have.
use Rattle.std.proofs.Common.{ℕ, zero, suc, ◌<◌, List, arith}
use Rattle.std.specs.Prelude.{slice_index}
use Rattle.std.specs.Int.{w32, w64, to_be_bytes}
use Rattle.std.proofs.lemmas.List.Elements.{All-nil, All-append, All-take}
use Rattle.sha2.specs.Sha256.{sha256}
use Rattle.sha2.specs.Sha256 as short
use Rattle.sha2.specs.Sha512.{sha512_256}
use Rattle.sha2.specs.Sha512 as long
use Rattle.sha2.proofs.Facts256.{length-sha256}
use Rattle.sha2.proofs.Facts512.{length-sha512_256}
use Rattle.teal_value.specs.declared.value.Value.TheVariants.{Bytes}
use Rattle.avm_rule_laws.specs.Rules.{AreBytes, IsMachineValue}
use Rattle.avm_rule_laws.proofs.MachineValues.{high_first_fits}

short_fits : (h : List ℕ) (n : ℕ) → AreBytes (short.digest_bytes h n)
unfolding short.digest_bytes
short_fits h zero = All-nil (λ b. b < 256)
short_fits h (suc n) = All-append (λ b. b < 256) (short.digest_bytes h n) (to_be_bytes w32 (slice_index h n)) (short_fits h n) (high_first_fits 4 (slice_index h n))

long_fits : (h : List ℕ) (n : ℕ) → AreBytes (long.digest_bytes h n)
unfolding long.digest_bytes
long_fits h zero = All-nil (λ b. b < 256)
long_fits h (suc n) = All-append (λ b. b < 256) (long.digest_bytes h n) (to_be_bytes w64 (slice_index h n)) (long_fits h n) (high_first_fits 8 (slice_index h n))

-- a digest is a byte string that a machine may have
pub sha256_fits : (s : List ℕ) → IsMachineValue (Bytes (sha256 s))
unfolding sha256
sha256_fits s = (omega (arith, length-sha256 s), short_fits _ 8)

pub sha512_256_fits : (s : List ℕ) → IsMachineValue (Bytes (sha512_256 s))
unfolding sha512_256
sha512_256_fits s = (omega (arith, length-sha512_256 s), All-take (λ b. b < 256) 32 _ (long_fits _ 8))
