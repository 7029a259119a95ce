-- What is read back from a page.
use Rattle.std.proofs.Common.{ℕ, zero, suc, ◌+◌, ◌*◌, ◌/◌, ◌%◌, ◌<◌, List, [], ◌∷◌, ◌++◌, length, codes, refl, arith, All, Contains}
use Rattle.std.specs.List.{slice_index}
use Rattle.std.specs.Prelude.{replicate}
use Rattle.std.proofs.lemmas.List.Elements.{Contains-append_left, Contains-append_right, Contains-get_or}
use Rattle.base64.specs.Engines.{standard}
use Rattle.base64.specs.GeneralPurpose.{IsBytes, encode_of}
use Rattle.base64.specs.Rfc4648.{encode_symbols, padding_len}
use Rattle.base64.proofs.EngineFacts.{decode_of-encode_of}
use Rattle.json_commands.specs.Pages.{number_of, page_document}
use Rattle.json_commands.specs.ReadingBack.{Base64ReadsBack, PagesReadBack, alphabet}
use Rattle.json_views.specs.Documents.{document_text}

abbrev table : List ℕ
table = standard.encode_table

abbrev IsSymbol : ℕ → Type 0
IsSymbol c = Contains alphabet c

-- ---- lists

record AreSymbols (xs : List ℕ) : Type 0 where
  all : All IsSymbol xs

one_more : {x : ℕ} {xs : List ℕ} → IsSymbol x → AreSymbols xs → AreSymbols (x ∷ xs)
one_more {x = x} {xs = xs} first more = record { all = each }
  where
    each : All IsSymbol (x ∷ xs)
    each zero d lt = first
    each (suc k) d lt = more.all k d (omega (arith, lt))

none : AreSymbols []
none = record { all = λ k d lt. absurd (omega (arith, lt)) }

first_of : (x : ℕ) (xs : List ℕ) → AreSymbols (x ∷ xs) → IsSymbol x
first_of x xs are = are.all 0 x (omega arith)

rest_of : (x : ℕ) (xs : List ℕ) → AreSymbols (x ∷ xs) → AreSymbols xs
rest_of x xs are = record { all = λ k d lt. are.all (suc k) d (omega (arith, lt)) }

both : (xs ys : List ℕ) → AreSymbols xs → AreSymbols ys → AreSymbols (xs ++ ys)
both [] ys first more = more
both (x ∷ xs) ys first more = one_more (first_of x xs first) (both xs ys (rest_of x xs first) more)

-- ---- symbols

symbol : (i : ℕ) → i < 64 → IsSymbol (slice_index table i)
symbol i lt = Contains-append_left table (codes "=") (slice_index table i) (Contains-get_or table i 0 lt)

padding : IsSymbol 61
padding = Contains-append_right table (codes "=") 61 (0, omega arith, refl)

pads : (n : ℕ) → AreSymbols (replicate n 61)
pads zero = none
pads (suc n) = one_more padding (pads n)

symbols : (m : List ℕ) → IsBytes m → AreSymbols (encode_symbols table m)
unfolding encode_symbols
symbols [] bytes = none
symbols (a ∷ []) bytes =
    let pa = bytes 0 in
    one_more (symbol (a / 4) (omega (arith, pa))) (one_more (symbol (a % 4 * 16) (omega (arith, pa))) none)
symbols (a ∷ b ∷ []) bytes =
    let pa = bytes 0 in
    let pb = bytes 1 in
    one_more (symbol (a / 4) (omega (arith, pa)))
    (one_more (symbol (a % 4 * 16 + b / 16) (omega (arith, pa, pb))) (one_more (symbol (b % 16 * 4) (omega (arith, pb))) none))
symbols (a ∷ b ∷ c ∷ rest) bytes =
    let pa = bytes 0 in
    let pb = bytes 1 in
    let pc = bytes 2 in
    one_more (symbol (a / 4) (omega (arith, pa)))
    (one_more (symbol (a % 4 * 16 + b / 16) (omega (arith, pa, pb)))
    (one_more (symbol (b % 16 * 4 + c / 64) (omega (arith, pb, pc)))
    (one_more (symbol (c % 64) (omega (arith, pc))) (symbols rest (λ i. bytes (suc (suc (suc i))))))))

-- ---- the laws

pub base64_reads_back : Base64ReadsBack
base64_reads_back bytes are = record {
  alone = (both (encode_symbols table bytes) (replicate (padding_len (length bytes)) 61) (symbols bytes are) (pads (padding_len (length bytes)))).all;
  decodes = decode_of-encode_of standard bytes refl are;
}

pub pages_read_back : PagesReadBack
pages_read_back traces base b page is =
    let text = document_text (page_document base b (number_of traces) is.verdict is.trace) in
    (encode_of standard text, is.is, base64_reads_back text is.bytes)
