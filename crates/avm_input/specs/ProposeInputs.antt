-- What `propose` reads: a line for the ledger before the block, one for its header, and one for each call.
use Rattle.std.specs.Prelude.{ℕ, ◌+◌, List, [], ◌∷◌, Result, Ok, Err}
use Rattle.teal_value.specs.Answer.{◌>>=◌}
use Rattle.avm_ledger.specs.declared.header.Header.{Header}
use Rattle.avm_ledger.specs.declared.header.Profile.TheVariants as profile
use Rattle.avm_ledger.specs.FieldReader.{Front}
use Rattle.avm_ledger.specs.Ledgers.{Ledger}
use Rattle.avm_items.specs.declared.call_data.CallData.{CallData}
use Rattle.avm_block.specs.declared.block_fault.BlockFault.{BlockFault}
use Rattle.avm_block.specs.BlockReader.{header_at}
use Rattle.avm_input.specs.declared.call_line.CallLineFault.{CallLineFault}
use Rattle.avm_input.specs.declared.refusals.Refusal.{Refusal}
use Rattle.avm_input.specs.declared.refusals.Refusal.TheVariants as refusal
use Rattle.avm_input.specs.BlockLines.{first_ledger, needed_bytes}
use Rattle.avm_input.specs.CallLines.{checked_call}
use Rattle.avm_input.specs.DigitLines.{DigitLine, line_bytes}

-- what calls are to be made of, on which ledger and by which header
pub record ProposeInput : Type 0 where
  pub base : Ledger
  pub header : Header
  pub calls : List CallData

abbrev pub only_header : Front BlockFault Header → Result Header Refusal
only_header (Ok (header, [])) = Ok header
only_header (Ok (header, (byte ∷ bytes))) = Err refusal.Header
only_header (Err fault) = Err refusal.Header

-- the header that the bytes are, of a block that may have calls of all versions
abbrev pub header_of : List ℕ → Result Header Refusal
header_of bytes = only_header (header_at profile.Three bytes)

abbrev pub first_header : List DigitLine → Result (Header × List DigitLine) Refusal
first_header lines = needed_bytes lines >>= λ first. header_of first.0 >>= λ h. Ok (h, first.1)

abbrev pub on_call : ℕ → Result CallData CallLineFault → Result CallData Refusal
on_call number (Ok call) = Ok call
on_call number (Err fault) = Err (refusal.Call number fault)

-- the call of a line, whose number among the calls this is
abbrev pub call_on_line : ℕ → DigitLine → Result CallData Refusal
call_on_line number line = line_bytes line >>= λ bytes. on_call number (checked_call bytes)

-- the calls of all lines, numbered from this on
abbrev pub calls_on_lines : ℕ → List DigitLine → Result (List CallData) Refusal
calls_on_lines number [] = Ok []
calls_on_lines number (line ∷ more) = call_on_line number line >>= λ call. calls_on_lines (number + 1) more >>= λ calls. Ok (call ∷ calls)

-- what stands behind the ledger: the header, and the calls of all other lines
abbrev pub header_and_calls : List DigitLine → Result (Header × List CallData) Refusal
header_and_calls lines = first_header lines >>= λ h. calls_on_lines 1 h.1 >>= λ calls. Ok (h.0, calls)

-- the first refusal in the order of the lines, or what they are
abbrev pub propose_input : List DigitLine → Result ProposeInput Refusal
propose_input lines =
    first_ledger lines >>= λ l. first_header l.1 >>= λ h. calls_on_lines 1 h.1 >>= λ calls.
    Ok (record { base = l.0; header = h.0; calls = calls })
