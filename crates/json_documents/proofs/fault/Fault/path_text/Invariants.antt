use Rattle.std.proofs.Common.{◌≡◌, ◌≤◌, length, drop, string_bytes}
use Rattle.json_documents.specs.ShownSteps.{steps_shown}
use Rattle.json_documents.specs.Steps.{path_text}
use Rattle.json_documents.proofs.fault.Fault.path_text.Given as goal

-- the text is that of the steps from here on
abbrev pub invariant-loop-left : goal.invariant-loop-left
invariant-loop-left l = (string_bytes l.text ≡ path_text (steps_shown (drop l.left l.self-inside.path.items))) × (l.left ≤ length l.self-inside.path.items)

abbrev pub decreases-loop-left : goal.decreases-loop-left
decreases-loop-left l = l.left
