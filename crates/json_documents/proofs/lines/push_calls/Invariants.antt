use Rattle.std.proofs.Common.{◌≡◌, ◌++◌, drop, string_bytes}
use Rattle.std.specs.List.{flat_map}
use Rattle.json_documents.specs.Lines.{call_line}
use Rattle.json_documents.proofs.lines.push_calls.Given as goal

-- what is written, and the calls that are left, are all of them
abbrev pub invariant-loop-call : goal.invariant-loop-call
invariant-loop-call l = string_bytes l.text ++ flat_map call_line (drop l.call-index l.calls) ≡ string_bytes l.fn.text ++ flat_map call_line l.calls
