-- What `propose` has read, and what it replies, without where it lies in memory.
use Rattle.std.specs.Prelude.{◌++◌}
use Rattle.hex.specs.Hex.{encode_lower}
use Rattle.avm_input.specs.ProposeInputs.{ProposeInput}
use Rattle.avm_input.specs.Replies.{Reply}
use Rattle.avm_node.specs.declared.propose_command.ProposeReply.{ProposeReply}
use Rattle.avm_node.specs.declared.propose_input.ProposeInput.{ProposeInput as ReadInput}

abbrev pub input_shown : ReadInput → ProposeInput
input_shown read = record { base = read.base; header = read.header; calls = read.calls.items }

-- the digits of the block's bytes, and the text behind them
abbrev pub reply_shown : ProposeReply → Reply
reply_shown reply = record { text = encode_lower reply.block.items ++ reply.text.items; status = reply.status }
