-- A refusal of the lines behind a block, which comes after the block is read.
use Rattle.std.proofs.Common.{◌≡◌, ℕ, List, [], ◌∷◌, Result, Ok, Err}
use Rattle.teal_value.specs.Answer.{◌>>=◌, Fails}
use Rattle.teal_value.specs.declared.failure.Failure.{Failure}
use Rattle.teal_value.specs.declared.failure.Failure.TheVariants as failure
use Rattle.avm_ledger.specs.Ledgers.{Ledger}
use Rattle.avm_input.specs.BlockLines.{first_ledger, last_block, ledger_and_block, needed_bytes}
use Rattle.avm_input.specs.DigitLines.{DigitLine, with_no_line}
use Rattle.avm_input.specs.declared.refusals.Refusal.{Refusal}

-- it does not depend on the value that goes with no line
pub refused_alike : {A B : Type 0} (lines : List DigitLine) (x : A) (y : B) (e : Failure Refusal) → Fails e (with_no_line lines x) → Fails e (with_no_line lines y)
refused_alike lines x y failure.Memory refused = tt
refused_alike [] x y (failure.Fault why) refused = absurd cc
refused_alike (line ∷ more) x y (failure.Fault why) refused = cc

abbrev behind_block : {B : Type 0} → List DigitLine → B → Result (B × List DigitLine) Refusal
behind_block behind b = Ok (b, behind)

abbrev both_of : {L B : Type 0} → L → B × List DigitLine → Result (L × B) Refusal
both_of l read = with_no_line read.1 (l, read.0)

-- nor on the ledger before the block
refused_with : {L B : Type 0} (l : L) (block : Result B Refusal) (behind : List DigitLine) (e : Failure Refusal)
    → Fails e (block >>= λ b. with_no_line behind b) → Fails e ((block >>= behind_block behind) >>= both_of l)
refused_with l (Ok b) behind e refused = refused_alike behind b (l, b) e refused
refused_with l (Err why) behind failure.Memory refused = tt
refused_with l (Err why) behind (failure.Fault fault) refused = cc

-- a refused block is refused behind its ledger
pub block_refused : (lines more behind : List DigitLine) (l : Ledger) (bytes : List ℕ) (e : Failure Refusal)
    → first_ledger lines ≡ Ok (l, more) → needed_bytes more ≡ Ok (bytes, behind) → Fails e (last_block bytes behind) → Fails e (ledger_and_block lines)
block_refused lines more behind l bytes e ledger_is bytes_are refused = rw (ledger_is, bytes_are) (refused_with l _ behind e refused)
