use Rattle.std.proofs.Common.{◌≡◌, ◌++◌, length, map}
use denote.Shadow.{shadow}
use denote.Text.{Utf8}
use Rattle.json.specs.Tree.{items_tokens, json_tokens}
use Rattle.json_views.specs.Documents.{items_of, text}
use Rattle.json_views.specs.Disassembly.{lines_of, shown_lines}
use Rattle.json_views.proofs.disassembly.put_lines.Given as goal

-- what is written, and the lines that are left, are the array
abbrev pub invariant-loop-line : goal.invariant-loop-line
invariant-loop-line l = shadow (Utf8 l.rest) × (l.out ++ items_tokens (items_of (map text (lines_of l.rest))) ≡ l.fn.out ++ json_tokens (shown_lines l.text))

abbrev pub decreases-loop-line : goal.decreases-loop-line
decreases-loop-line l = length l.rest
