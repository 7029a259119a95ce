use Rattle.teal_text.proofs.PlainWords.{lines_read, words_read}
use Rattle.teal_text.proofs.line.plain_words_read_back.Goals as goal

pub returns-clause-lines : goal.returns-clause-lines
returns-clause-lines c = λ lines plain. lines_read 1 0 lines plain

pub returns-clause-words : goal.returns-clause-words
returns-clause-words c = words_read
