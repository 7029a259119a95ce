-- The lines of a text as statements: a label, and a command.
use Rattle.std.specs.Prelude.{ℕ, ◌-◌, ◌==◌, Bool, true, false, ◌&&◌, ◌||◌, if◌then◌else◌, nat_lt, nat_eq, List, [], ◌∷◌, ◌++◌, length, take, map, slice_range, slice_index, codes, Option, Some, None, Result, Ok, Err}
use Rattle.std.specs.List.{list_any, flat_map}
use Rattle.std.specs.Option.{option_map_or}
use Rattle.std.specs.Str.{bytes_eq}
use Rattle.teal_value.specs.declared.failure.Failure.{Failure}
use Rattle.teal_value.specs.declared.failure.Failure.TheVariants as failure
use Rattle.teal_value.specs.Answer.{◌>>=◌}
use Rattle.teal_table.specs.declared.shape.Version.{Version}
use Rattle.teal_table.specs.declared.shape.Version.TheVariants.{Two, Three}
use Rattle.teal_code.specs.declared.instr.Immediates.TheVariants as is
use Rattle.teal_text.specs.declared.fault.TextFault.{TextFault}
use Rattle.teal_text.specs.declared.token.Token.{Token}
use Rattle.teal_text.specs.Lines.{LineTokens}
use Rattle.teal_source.specs.declared.statement.Statement.{Statement}
use Rattle.teal_source.specs.declared.command.Command.{Command}
use Rattle.teal_source.specs.declared.command.Command.TheVariants.{Int, Byte, Plain}
use Rattle.teal_source.specs.declared.fault.AsmFaultKind.{AsmFaultKind}
use Rattle.teal_source.specs.declared.fault.AsmFaultKind.TheVariants as kind
use Rattle.teal_source.specs.declared.fault.AsmFault.{AsmFault}
use Rattle.teal_source.specs.Operands.{Word, any_number}
use Rattle.teal_source.specs.Commands.{command, two_operands}

-- a line that has tokens, as words
pub record Words : Type 0 where
  pub line : ℕ
  pub first : Word
  pub more : List Word

-- ---- the words of a text

abbrev pub fault_at : {A : Type 0} → ℕ → AsmFaultKind → Result A AsmFault
fault_at line k = Err (record { line = line; kind = k })

abbrev pub on_line : {A : Type 0} → ℕ → Result A AsmFaultKind → Result A AsmFault
on_line line (Ok x) = Ok x
on_line line (Err k) = fault_at line k

abbrev pub on_text : {A : Type 0} → Result A TextFault → Result A AsmFault
on_text (Ok x) = Ok x
on_text (Err e) = fault_at e.line kind.Text

abbrev pub word_at : List ℕ → Token → Word
word_at text t = slice_range text t.start t.end

-- the words of a line, if it has some
abbrev pub words_on : ℕ → List Word → List Words
words_on line [] = []
words_on line (w ∷ ws) = record { line = line; first = w; more = ws } ∷ []

abbrev pub words_of_line : List ℕ → LineTokens → List Words
words_of_line text l = words_on l.number (map (word_at text) l.tokens)

-- the lines that have tokens
abbrev pub words_of_lines : List ℕ → List LineTokens → List Words
words_of_lines text ls = flat_map (words_of_line text) ls

-- ---- the pragma

abbrev pub version_numbered : ℕ → Result Version AsmFaultKind
version_numbered n = if n == 2 then Ok Two else if n == 3 then Ok Three else Err kind.Version

abbrev pub named_version : List Word → Result Version AsmFaultKind
named_version ws = two_operands ws >>= λ p. if bytes_eq p.0 (codes "version") then (any_number p.1 >>= version_numbered) else Err kind.Operands

abbrev pub is_pragma : Word → Bool
is_pragma w = bytes_eq w (codes "#pragma")

abbrev pub pragma_version : Words → Result Version AsmFault
pragma_version l = if is_pragma l.first then on_line l.line (named_version l.more) else fault_at l.line kind.NoPragma

-- the version that a line's first words name
abbrev pub pragma_in : ℕ → List Words → Result Version AsmFault
pragma_in line [] = fault_at line kind.NoPragma
pragma_in line (l ∷ ls) = pragma_version l

abbrev pub pragma_of : List ℕ → LineTokens → Result Version AsmFault
pragma_of text l = pragma_in l.number (words_of_line text l)

abbrev pub failure_on_line : ℕ → Failure AsmFaultKind → Failure AsmFault
failure_on_line line failure.Memory = failure.Memory
failure_on_line line (failure.Fault k) = failure.Fault (record { line = line; kind = k })

-- ---- what came before a line

abbrev pub gathered_uint : Option Command → List ℕ
gathered_uint (Some (Int n)) = n ∷ []
gathered_uint _ = []

abbrev pub gathered_string : Option Command → List (List ℕ)
gathered_string (Some (Byte s)) = s ∷ []
gathered_string _ = []

abbrev pub is_uint_block : Option Command → Bool
is_uint_block (Some (Plain o (is.UintBlock ns))) = true
is_uint_block _ = false

abbrev pub is_byte_block : Option Command → Bool
is_byte_block (Some (Plain o (is.ByteBlock ss))) = true
is_byte_block _ = false

-- the values, each once, in the order in which they are first used
abbrev pub with_new : {A : Type 0} → (A → A → Bool) → List A → A → List A
with_new eq seen x = if list_any (eq x) seen then seen else seen ++ x ∷ []

abbrev pub distinct : {A : Type 0} → (A → A → Bool) → List A → List A → List A
distinct eq seen [] = seen
distinct eq seen (x ∷ xs) = distinct eq (with_new eq seen x) xs

abbrev pub gathered_uints : List Statement → List ℕ
gathered_uints ss = distinct nat_eq [] (flat_map (λ s. gathered_uint s.command) ss)

abbrev pub gathered_strings : List Statement → List (List ℕ)
gathered_strings ss = distinct bytes_eq [] (flat_map (λ s. gathered_string s.command) ss)

abbrev pub has_label : Word → Statement → Bool
has_label name s = option_map_or (λ label. bytes_eq name label) s.label false

-- no explicit block beside gathered constants of its kind, and at most 256 of these
abbrev pub mixes_blocks : List Statement → Bool
mixes_blocks ss =
    (list_any (λ s. is_uint_block s.command) ss && nat_lt 0 (length (gathered_uints ss)))
    || (list_any (λ s. is_byte_block s.command) ss && nat_lt 0 (length (gathered_strings ss)))

abbrev pub gathers_too_many : List Statement → Bool
gathers_too_many ss = nat_lt 256 (length (gathered_uints ss)) || nat_lt 256 (length (gathered_strings ss))

-- a statement behind those before it
abbrev pub behind : List Statement → Statement → Result Statement AsmFaultKind
behind before s =
    if mixes_blocks (before ++ s ∷ []) then Err kind.MixedBlock
    else if gathers_too_many (before ++ s ∷ []) then Err kind.TooManyConstants
    else Ok s

-- the statements with one more
abbrev pub appended : {F : Type 0} → List Statement → Result Statement F → Result (List Statement) F
appended before r = r >>= λ s. Ok (before ++ s ∷ [])

-- ---- a line

-- the name of a label: a word that ends in `:`, with a character before it at least
abbrev pub label_name : Word → Option Word
label_name w =
    if nat_lt 1 (length w) && (slice_index w (length w - 1) == 58) then Some (take (length w - 1) w) else None

abbrev pub optional_command : Version → List Word → Result (Option Command) AsmFaultKind
optional_command version [] = Ok None
optional_command version (name ∷ ws) = command version name ws >>= λ c. Ok (Some c)

abbrev pub with_label : Version → List Statement → ℕ → Word → List Word → Result Statement AsmFaultKind
with_label version before line name ws =
    if list_any (has_label name) before then Err kind.LabelTwice
    else (optional_command version ws >>= λ c. behind before (record { line = line; label = Some name; command = c }))

abbrev pub labelled : Version → List Statement → ℕ → Option Word → Word → List Word → Result Statement AsmFaultKind
labelled version before line None w ws = command version w ws >>= λ c. behind before (record { line = line; label = None; command = Some c })
labelled version before line (Some name) w ws = with_label version before line name ws

unfoldable pub statement : Version → List Statement → Words → Result Statement AsmFaultKind
statement version before l =
    if is_pragma l.first then Err kind.Version else labelled version before l.line (label_name l.first) l.first l.more

-- the statements of lines, behind those before them
unfoldable pub statements : Version → List Statement → List Words → Result (List Statement) AsmFault
statements version before [] = Ok before
statements version before (l ∷ ls) = on_line l.line (statement version before l) >>= λ s. statements version (before ++ s ∷ []) ls
