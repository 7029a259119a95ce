-- What the lines of a text mean from the first on that is not read yet.
use Rattle.std.specs.Prelude.{◌≡◌, ℕ, ◌+◌, List, [], length, All, Option, Some, None, Result, Ok, Err}
use Rattle.teal_value.specs.declared.failure.Failure.{Failure}
use Rattle.teal_value.specs.declared.failure.Failure.TheVariants as failure
use Rattle.teal_value.specs.Answer.{◌>>=◌, Fails}
use Rattle.teal_table.specs.declared.shape.Version.{Version}
use Rattle.teal_text.specs.declared.fault.TextFault.{TextFault}
use Rattle.teal_text.specs.declared.line.Line.{Line}
use Rattle.teal_text.specs.Tokens.{LiesWithin}
use Rattle.teal_text.specs.Lines.{LineTokens, view}
use Rattle.teal_text.specs.Unread.{Unread, IsBehind}
use Rattle.teal_source.specs.declared.statement.Statement.{Statement}
use Rattle.teal_source.specs.declared.fault.AsmFault.{AsmFault}
use Rattle.teal_source.specs.declared.fault.AsmFaultKind.TheVariants as kind
use Rattle.teal_source.specs.Statements.{fault_at, on_text, pragma_of, statements, words_of_lines}
use Rattle.teal_asm.specs.Meaning.{Meaning, meaning_of_lines, meaning_with}
use Rattle.teal_asm.specs.Thinned.{Thins}

-- the statements of the lines that are left, behind those before them
abbrev pub unread_statements : Version → List Statement → Unread → Result (List Statement) AsmFault
unread_statements version before u = on_text u.lines >>= λ ls. statements version before (words_of_lines u.text ls)

abbrev pub unread_meaning : Unread → Result Meaning AsmFault
unread_meaning u = on_text u.lines >>= λ ls. meaning_of_lines (words_of_lines u.text ls)

-- the meaning of a pragma and the lines that are left
abbrev pub meaning_behind : Result Version AsmFault → Unread → Result Meaning AsmFault
meaning_behind named u = on_text u.lines >>= λ ls. meaning_with named (words_of_lines u.text ls)

-- how many lines the text has
abbrev pub line_total : Unread → Result ℕ TextFault
line_total u = u.lines >>= λ ls. Ok (u.read + length ls)

-- what the next line is
abbrev pub IsNext : Result (Option Line) (Failure AsmFault) → Unread → Unread → Type 0
IsNext (Ok (Some line)) before after = IsBehind line before after
IsNext (Ok None) before after = (before.lines ≡ Ok []) × (after ≡ before)
IsNext (Err e) before after = Fails e (on_text before.lines)

-- the first line that has a token is read
pub record IsFirst (line : Line) (before after : Unread) : Type 0 where
  pub meaning : unread_meaning before ≡ meaning_behind (pragma_of before.text (view line)) after
  pub text : after.text ≡ before.text
  pub total : line_total after ≡ line_total before
  pub within : All (LiesWithin 0 (length before.text)) line.tokens.items

abbrev pub FindsFirst : Result (Option Line) (Failure AsmFault) → Unread → Unread → Type 0
FindsFirst (Ok (Some line)) before after = IsFirst line before after
FindsFirst (Ok None) before after = unread_meaning before ≡ fault_at 1 kind.NoPragma
FindsFirst (Err e) before after = Fails e (unread_meaning before)

-- whether the tokens of all lines that are left are right
abbrev pub all_tokens : Result (List LineTokens) TextFault → Result (Unit {0}) AsmFault
all_tokens left = on_text left >>= λ ls. Ok tt

-- a fault of a later round counts where the tokens of the lines that are left have none
abbrev pub IsLater : Failure AsmFault → Failure AsmFault → Result (List LineTokens) TextFault → Type 0
IsLater failure.Memory result left = result ≡ failure.Memory
IsLater (failure.Fault f) result left = Fails {A = List LineTokens} result (on_text left >>= λ ls. Err f)

-- what is kept of the statements that are meant, or the answer where they have a fault, and the lines behind them are left
abbrev pub AddsOrStops : {X : Type 0} → Result X (Failure AsmFault) → List Statement → Result (List Statement) AsmFault → Result (List LineTokens) TextFault → Type 0
AddsOrStops (Ok x) kept meant left = (all : List Statement) × (meant ≡ Ok all) × Thins kept all
AddsOrStops (Err e) kept meant left = (fault : Failure AsmFault) × Fails fault meant × IsLater fault e left
