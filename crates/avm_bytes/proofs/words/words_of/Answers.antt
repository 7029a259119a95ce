use Rattle.std.proofs.Common.{lit<, refl}
use Rattle.std.proofs.lemmas.Iterator.Consumers.{map_from_collect}
use Rattle.std.proofs.lemmas.Iterator.Splits.{YieldsList-from_str_split}
use Rattle.avm_bytes.proofs.Texts.{words_of-not_utf8, words_of-utf8}
use Rattle.avm_bytes.proofs.words.words_of.Goals as goal

pub returns-in-Ok : goal.returns-in-Ok
returns-in-Ok c =
    rw (words_of-utf8 c.args.bytes.now c.in-Ok.text.now c.in-Ok.ensures.cases.1 c.in-Ok.ensures.cases.0)
    (map_from_collect _ c.collect.ensures.ran (YieldsList-from_str_split 0 c.in-Ok.text.now (lit< tt) c.split.ensures.text c.split.ensures.has_more c.split.ensures.pattern))

pub returns-in-Err : goal.returns-in-Err
returns-in-Err c = rw (words_of-not_utf8 c.args.bytes.now c.in-Err.ensures.cases.0, c.new.ensures.items) refl
