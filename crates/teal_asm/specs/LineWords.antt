-- The words of a line, without where they lie in memory.
use Rattle.teal_source.specs.Shown.{words}
use Rattle.teal_source.specs.Statements.{Words}
use Rattle.teal_asm.specs.declared.line.LineWords.{LineWords}

abbrev pub line_words : LineWords → Words
line_words l = record { line = l.line; first = l.first.now; more = words l.more.now }
