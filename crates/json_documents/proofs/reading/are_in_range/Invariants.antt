use Rattle.std.proofs.Common.{◌≡◌, length}
use Rattle.std.specs.List.{list_all}
use Rattle.json.specs.Lex.{tokens}
use Rattle.json_documents.specs.Reading.{is_in_range}
use Rattle.json_documents.proofs.reading.are_in_range.Given as goal

-- all tokens are within their range where those are that are left
abbrev pub invariant-loop-token : goal.invariant-loop-token
invariant-loop-token l = list_all is_in_range l.reader ≡ list_all is_in_range (tokens l.text)

abbrev pub decreases-loop-token : goal.decreases-loop-token
decreases-loop-token l = length l.reader
