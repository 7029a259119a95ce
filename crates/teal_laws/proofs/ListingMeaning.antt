-- The listing of a program means the program's instructions.
use Rattle.std.proofs.Common.{◌≡◌, refl, ℕ, ◌+◌, List, [], ◌∷◌, length, map, codes, Result, Ok, arith}
use Rattle.teal_table.specs.declared.shape.Version.{Version}
use Rattle.teal_table.specs.declared.shape.Version.TheVariants.{Two, Three}
use Rattle.teal_check.specs.WellFormed.{WellFormed}
use Rattle.teal_text.specs.Numbers.{base_of, digits_of, numeral_value}
use Rattle.teal_text.specs.Lines.{LineTokens, lines_of}
use Rattle.teal_text.specs.PlainWords.{line_of_words, tokens_of_words, lines_of_words, words_at}
use Rattle.teal_text.proofs.PlainWords.{lines_read, words_read}
use Rattle.teal_dis.specs.Listing.{Word, version_digit, listing_from, listing_lines, listing}
use Rattle.teal_source.specs.declared.fault.AsmFault.{AsmFault}
use Rattle.teal_source.specs.Statements.{Words, words_of_lines, pragma_version}
use Rattle.teal_asm.specs.Meaning.{Meaning, meaning, meaning_with, meaning_of_lines}
use Rattle.teal_laws.specs.Listed.{IsListed}
use Rattle.teal_laws.specs.ListedMeaning.{program_meaning}
use Rattle.teal_laws.proofs.PlainListing.{listing_is_plain}
use Rattle.teal_laws.proofs.ListedStatements.{numbered, statements_are}
use Rattle.teal_laws.proofs.ListedInstructions.{all_instructions_are}

words_are : (text : List ℕ) (number place : ℕ) (lines : List (List Word)) → map (words_at text) (lines_of_words number place lines) ≡ lines → words_of_lines text (lines_of_words number place lines) ≡ numbered number lines
words_are text number place [] e = refl
words_are text number place (ws ∷ lines) e =
    let first : words_at text (record { number = number; tokens = tokens_of_words place ws }) ≡ ws = cc in
    let more : map (words_at text) (lines_of_words (number + 1) (place + length (line_of_words ws) + 1) lines) ≡ lines = cc in
    rw (first, words_are text (number + 1) (place + length (line_of_words ws) + 1) lines more) refl

pragma_back : (version : Version) → pragma_version (record { line = 1; first = codes "#pragma"; more = codes "version" ∷ version_digit version ∷ [] }) ≡ Ok version
unfolding base_of digits_of numeral_value
pragma_back Two = refl
pragma_back Three = refl

meaning_read : (text : List ℕ) (ls : List LineTokens) (ws : List Words) (m : Result Meaning AsmFault) → lines_of text ≡ Ok ls → words_of_lines text ls ≡ ws → meaning_of_lines ws ≡ m → meaning text ≡ m
unfolding meaning
meaning_read text ls ws m e f g = rw (e, f) g

-- a listing means what its program means
pub listing_means : (w : WellFormed) → IsListed w → meaning (listing w) ≡ Ok (program_meaning w)
listing_means w l =
    let lines = listing_lines w in
    let text = listing w in
    let more = numbered 2 (listing_from w.placed 0 w.placed) in
    let plain = listing_is_plain w l in
    let words = words_are text 1 0 lines (words_read lines) in
    let ss = statements_are w.version w.placed 2 0 w.placed [] (omega (arith, l.few)) l.instructions tt tt in
    let is = all_instructions_are w.placed 2 l.few l.targets in
    let body : meaning_with (Ok w.version) more ≡ Ok (program_meaning w) = rw (ss, is) refl in
    let whole : meaning_of_lines (numbered 1 lines) ≡ Ok (program_meaning w) = rw (pragma_back w.version) body in
    meaning_read text (lines_of_words 1 0 lines) (numbered 1 lines) (Ok (program_meaning w)) (lines_read 1 0 lines plain) words whole
