-- The lines of a text that are not read yet.
use Rattle.std.specs.Prelude.{◌≡◌, ℕ, ◌+◌, ◌-◌, ◌<◌, List, [], length, All, Option, Some, None, Result, Ok, Err}
use Rattle.std.specs.List.{slice_split}
use Rattle.teal_value.specs.declared.failure.Failure.{Failure}
use Rattle.teal_value.specs.Answer.{Fails}
use Rattle.teal_text.specs.declared.fault.TextFault.{TextFault}
use Rattle.teal_text.specs.declared.line.Line.{Line}
use Rattle.teal_text.specs.Tokens.{LiesWithin}
use Rattle.teal_text.specs.Lines.{LineTokens, view, with_line, lines_from, lines_of, is_line_feed}

-- how many lines were read, how many bytes are left, and what lines these are, or their first fault
pub record Unread : Type 0 where
  pub text : List ℕ
  pub read : ℕ
  pub left : ℕ
  pub lines : Result (List LineTokens) TextFault

abbrev pub all_lines : List ℕ → Unread
all_lines text = record { text = text; read = 0; left = length text; lines = lines_of text }

-- the lines of the last bytes of a text, behind so many lines
abbrev pub unread_behind : ℕ → List ℕ → List ℕ → Unread
unread_behind read text rest =
    record { text = text; read = read; left = length rest; lines = lines_from (read + 1) (length text - length rest) (slice_split is_line_feed rest) }

-- the first line is read
pub record IsBehind (line : Line) (before after : Unread) : Type 0 where
  pub lines : before.lines ≡ with_line (view line) after.lines
  pub text : after.text ≡ before.text
  pub read : after.read ≡ before.read + 1
  pub left : after.left < before.left
  pub within : All (LiesWithin 0 (length before.text)) line.tokens.items

-- what the next line is: there is one, or none, or its tokens have a fault
abbrev pub IsRead : Result (Option Line) (Failure TextFault) → Unread → Unread → Type 0
IsRead (Ok (Some line)) before after = IsBehind line before after
IsRead (Ok None) before after = (before.lines ≡ Ok []) × (after ≡ before)
IsRead (Err e) before after = Fails e before.lines
