-- Replies, lines and drafts of the program, without where they lie in memory.
use Rattle.std.specs.Prelude.{ℕ, List, String, map, string_bytes}
use Rattle.avm_input.specs.declared.replies.Reply.{Reply as WrittenReply}
use Rattle.avm_input.specs.declared.draft.BlockDraft.{BlockDraft}
use Rattle.avm_input.specs.ProposeInputs.{ProposeInput}
use Rattle.avm_input.specs.Replies.{Reply}

abbrev pub reply_shown : WrittenReply → Reply
reply_shown reply = record { text = reply.text.items; status = reply.status }

abbrev pub texts : {A : Type 0} → List (String A) → List (List ℕ)
texts lines = map string_bytes lines

-- a draft as the input that it was read from defines it
abbrev pub draft_shown : BlockDraft → ProposeInput
draft_shown draft = record { base = draft.base; header = draft.header; calls = draft.calls.items }
