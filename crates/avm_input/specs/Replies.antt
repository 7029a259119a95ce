-- Replies: a text that is written, and the exit status.
use Rattle.std.specs.Prelude.{ℕ, List, codes}

-- a text and an exit status
pub record Reply : Type 0 where
  pub text : List ℕ
  pub status : ℕ

-- the statuses: succeeded, refused, a wrong command line, and no answer after a failed read or write, or because memory ran out
abbrev pub succeeded : ℕ
succeeded = 0

abbrev pub refused : ℕ
refused = 1

abbrev pub usage : ℕ
usage = 2

abbrev pub failed : ℕ
failed = 3

abbrev pub usage_reply : Reply
usage_reply = record { text = codes "usage: avm asm|dis|check|propose|replay|debug|state\n"; status = usage }

-- an input that is too long, or source text that is no UTF-8
abbrev pub input_refusal : Reply
input_refusal = record { text = codes "refused input\n"; status = refused }
