-- What `propose --workers N` answers to its input.
use Rattle.std.specs.Prelude.{◌≡◌, ℕ, ◌++◌, ◌<◌, ◌≤◌, ◌⊎◌, List, Result, Ok, Err, codes, decimal, length}
use Rattle.std.specs.List.{flat_map}
use Rattle.hex.specs.Hex.{encode_lower}
use Rattle.avm_items.specs.declared.call_data.CallData.{CallData}
use Rattle.avm_block.specs.BlockEncoding.{block_bytes}
use Rattle.avm_block.specs.Blocks.{most_calls}
use Rattle.avm_pool.specs.declared.pool_fault.PoolFault.{PoolFault}
use Rattle.avm_pool.specs.declared.pool_fault.PoolFault.TheVariants as fault
use Rattle.avm_pool.specs.declared.proposal.Proposal.{Proposal}
use Rattle.avm_pool.specs.FaultNames.{pool_fault_name}
use Rattle.avm_pool.specs.Proposals.{IsProposal}
use Rattle.avm_input.specs.declared.refusals.Refusal.{Refusal}
use Rattle.avm_input.specs.DigitLines.{digit_lines}
use Rattle.avm_input.specs.ProposeInputs.{ProposeInput, propose_input}
use Rattle.avm_input.specs.Refusals.{refusal_reply}
use Rattle.avm_input.specs.Replies.{Reply, succeeded, refused}

abbrev pub left_line : ℕ → List ℕ
left_line number = codes "left " ++ (decimal number ++ codes "\n")

-- the block in lower-case digits, and a line for each call that is left
abbrev pub proposal_reply : Proposal → Reply
proposal_reply p = record { text = encode_lower (block_bytes p.block) ++ (codes "\n" ++ flat_map left_line p.left.items); status = succeeded }

abbrev pub pool_reply : PoolFault → Reply
pool_reply f = record { text = codes "refused pool " ++ (pool_fault_name f ++ codes "\n"); status = refused }

-- There are more calls than a block has; or there are not, and threads or timestamps were wanting.
abbrev pub IsPoolFault : List CallData → PoolFault → Type 0
IsPoolFault calls fault.Workers = most_calls < length calls
IsPoolFault calls fault.Spawn = length calls ≤ most_calls
IsPoolFault calls fault.ClockEnd = length calls ≤ most_calls
IsPoolFault calls _ = ⊥

-- the text of a block that is proposed, and of which calls it leaves
abbrev pub IsProposalReply : ProposeInput → Reply → Type 0
IsProposalReply input reply =
    (length input.calls ≤ most_calls) × ((p : Proposal) × IsProposal input.base input.header input.calls p × (reply ≡ proposal_reply p))

-- a proposal, or why there is none
abbrev pub IsPoolReply : ProposeInput → Reply → Type 0
IsPoolReply input reply = IsProposalReply input reply ⊎ ((f : PoolFault) × IsPoolFault input.calls f × (reply ≡ pool_reply f))

abbrev pub IsReplyToLines : Result ProposeInput Refusal → Reply → Type 0
IsReplyToLines (Ok input) reply = IsPoolReply input reply
IsReplyToLines (Err why) reply = reply ≡ refusal_reply why

-- what `propose` answers to an input
abbrev pub IsProposeReply : List ℕ → Reply → Type 0
IsProposeReply input reply = IsReplyToLines (propose_input (digit_lines input)) reply
