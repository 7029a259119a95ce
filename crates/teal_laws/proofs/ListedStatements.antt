-- The lines of a listing as statements.
use Rattle.std.proofs.Common.{◌≡◌, ◌∙◌, refl, sym, ap, ℕ, ◌+◌, ◌-◌, ◌<◌, ◌≤◌, Bool, true, false, ◌&&◌, ltb, List, [], ◌∷◌, ◌++◌, length, length-append, get_or, codes, append_assoc, Option, Some, None, Ok, arith}
use Rattle.std.specs.Prelude.{if◌then◌else◌}
use Rattle.std.specs.List.{list_any, flat_map}
use Rattle.std.specs.Option.{option_map_or}
use Rattle.std.specs.Str.{bytes_eq}
use Rattle.std.proofs.Math.Seq.{take-append_seam}
use Rattle.std.proofs.lemmas.List.{append-nil}
use Rattle.std.proofs.lemmas.Bool.Decides.{nat_tests}
use Rattle.teal_table.specs.declared.shape.Version.{Version}
use Rattle.teal_table.specs.declared.opcode.Opcode.{Opcode}
use Rattle.teal_table.specs.Table.{row_of, name_of}
use Rattle.teal_code.specs.declared.instr.Immediates.{Immediates}
use Rattle.teal_code.specs.declared.instr.Immediates.TheVariants as is
use Rattle.teal_code.specs.Limits.{most_program_bytes}
use Rattle.teal_check.specs.declared.program.PlacedInstr.{PlacedInstr}
use Rattle.teal_dis.specs.Listing.{Word, operands, is_target, label_of, target_word, instruction_line, listing_from}
use Rattle.teal_source.specs.declared.statement.Statement.{Statement}
use Rattle.teal_source.specs.Statements.{Words, words_on, gathered_uint, gathered_string, gathered_uints, gathered_strings, has_label, behind, label_name, statement, statements}
use Rattle.teal_laws.specs.Listed.{IsOfVersion, AreOf, command_of}
use Rattle.teal_laws.proofs.InstructionWords.{words_back}
use Rattle.teal_laws.proofs.Names.{name_is_plain}
use Rattle.teal_laws.proofs.Labels.{labels_differ}

-- lines of words with their numbers
abbrev pub numbered : ℕ → List (List Word) → List Words
numbered line [] = []
numbered line (ws ∷ lines) = words_on line ws ++ numbered (line + 1) lines

-- a label, where there is one, as lines and as statements
abbrev pub lines_if : Bool → List PlacedInstr → ℕ → List (List Word)
lines_if b placed n = if b then ((label_of placed n ++ codes ":") ∷ []) ∷ [] else []

abbrev pub statements_if : Bool → List PlacedInstr → ℕ → ℕ → List Statement
statements_if b placed line n = if b then record { line = line; label = Some (label_of placed n); command = None } ∷ [] else []

-- the line of an instruction, behind that of its label where it has one
abbrev pub line_behind : List PlacedInstr → ℕ → ℕ → ℕ
line_behind placed line n = line + length (lines_if (is_target placed n) placed n)

abbrev pub instruction_statement : List PlacedInstr → ℕ → PlacedInstr → Statement
instruction_statement placed line p = record { line = line; label = None; command = Some (command_of p.instr.opcode (target_word placed p.target) p.instr.immediates) }

-- the statements of the instructions from one with a number on, from a line on
abbrev pub listed : List PlacedInstr → ℕ → ℕ → List PlacedInstr → List Statement
listed placed line n [] = statements_if (is_target placed n) placed line n
listed placed line n (p ∷ ps) =
    statements_if (is_target placed n) placed line n
    ++ instruction_statement placed (line_behind placed line n) p ∷ listed placed (line_behind placed line n + 1) (n + 1) ps

-- ---- nothing is gathered

-- no statement has a constant that is gathered
abbrev pub AreQuiet : List Statement → Type 0
AreQuiet [] = Unit {0}
AreQuiet (s ∷ ss) = (gathered_uint s.command ≡ []) × (gathered_string s.command ≡ []) × AreQuiet ss

pub quiet-append : (a b : List Statement) → AreQuiet a → AreQuiet b → AreQuiet (a ++ b)
quiet-append [] b h k = k
quiet-append (s ∷ a) b h k = (h.0, h.1, quiet-append a b h.2 k)

quiet_flat : (ss : List Statement) → AreQuiet ss → (flat_map (λ (s : Statement). gathered_uint s.command) ss ≡ []) × (flat_map (λ (s : Statement). gathered_string s.command) ss ≡ [])
quiet_flat [] h = (refl, refl)
quiet_flat (s ∷ ss) h = let more = quiet_flat ss h.2 in (rw (h.0, more.0) refl, rw (h.1, more.1) refl)

pub quiet_gathers : (ss : List Statement) → AreQuiet ss → (gathered_uints ss ≡ []) × (gathered_strings ss ≡ [])
quiet_gathers ss h = let flat = quiet_flat ss h in (rw (flat.0) refl, rw (flat.1) refl)

and_false : (a : Bool) → a && false ≡ false
and_false true = refl
and_false false = refl

quiet_behind : (before : List Statement) (s : Statement) → AreQuiet (before ++ s ∷ []) → behind before s ≡ Ok s
quiet_behind before s h =
    let gathers = quiet_gathers (before ++ s ∷ []) h in
    rw (gathers.0, gathers.1, and_false (list_any _ (before ++ s ∷ [])), and_false (list_any _ (before ++ s ∷ []))) refl

command_is_quiet : (o : Opcode) (target : List ℕ) (m : Immediates) → (gathered_uint (Some (command_of o target m)) ≡ []) × (gathered_string (Some (command_of o target m)) ≡ [])
command_is_quiet o target is.Nothing = (refl, refl)
command_is_quiet o target (is.Index i) = (refl, refl)
command_is_quiet o target (is.Field f) = (refl, refl)
command_is_quiet o target (is.GroupField g f) = (refl, refl)
command_is_quiet o target (is.ArrayField f i) = (refl, refl)
command_is_quiet o target (is.GroupArrayField g f i) = (refl, refl)
command_is_quiet o target (is.Bounds s e) = (refl, refl)
command_is_quiet o target (is.Offset n) = (refl, refl)
command_is_quiet o target (is.UintBlock ns) = (refl, refl)
command_is_quiet o target (is.ByteBlock ss) = (refl, refl)
command_is_quiet o target (is.Uint n) = (refl, refl)
command_is_quiet o target (is.Bytes s) = (refl, refl)

if_is_quiet : (b : Bool) (placed : List PlacedInstr) (line n : ℕ) → AreQuiet (statements_if b placed line n)
if_is_quiet true placed line n = (refl, refl, tt)
if_is_quiet false placed line n = tt

pub listed_is_quiet : (placed : List PlacedInstr) (line n : ℕ) (ps : List PlacedInstr) → AreQuiet (listed placed line n ps)
listed_is_quiet placed line n [] = if_is_quiet (is_target placed n) placed line n
listed_is_quiet placed line n (p ∷ ps) =
    let c = command_is_quiet p.instr.opcode (target_word placed p.target) p.instr.immediates in
    quiet-append (statements_if (is_target placed n) placed line n) _ (if_is_quiet (is_target placed n) placed line n) (c.0, c.1, listed_is_quiet placed (line_behind placed line n + 1) (n + 1) ps)

-- ---- labels so far

-- a label of an instruction before the one with a number
abbrev HasEarlier : List PlacedInstr → ℕ → Option Word → Type 0
HasEarlier placed n None = Unit {0}
HasEarlier placed n (Some name) = (m : ℕ) × (m < n) × (is_target placed m ≡ true) × (name ≡ label_of placed m)

-- each label is that of a target before the instruction with this number
abbrev pub AreEarlier : List PlacedInstr → ℕ → List Statement → Type 0
AreEarlier placed n [] = Unit {0}
AreEarlier placed n (s ∷ ss) = HasEarlier placed n s.label × AreEarlier placed n ss

earlier-append : (placed : List PlacedInstr) (n : ℕ) (a b : List Statement) → AreEarlier placed n a → AreEarlier placed n b → AreEarlier placed n (a ++ b)
earlier-append placed n [] b h k = k
earlier-append placed n (s ∷ a) b h k = (h.0, earlier-append placed n a b h.1 k)

still_earlier : (placed : List PlacedInstr) (n : ℕ) (label : Option Word) → HasEarlier placed n label → HasEarlier placed (n + 1) label
still_earlier placed n None h = tt
still_earlier placed n (Some name) h = (h.0, omega (arith, h.1), h.2, h.3)

all_still_earlier : (placed : List PlacedInstr) (n : ℕ) (ss : List Statement) → AreEarlier placed n ss → AreEarlier placed (n + 1) ss
all_still_earlier placed n [] h = tt
all_still_earlier placed n (s ∷ ss) h = (still_earlier placed n s.label h.0, all_still_earlier placed n ss h.1)

one_is_new : (placed : List PlacedInstr) (n : ℕ) (label : Option Word) → n ≤ most_program_bytes → HasEarlier placed n label → option_map_or (λ (l : Word). bytes_eq (label_of placed n) l) label false ≡ false
one_is_new placed n None le h = refl
one_is_new placed n (Some name) le h = rw (h.3) (labels_differ placed h.0 n h.1 le h.2)

label_is_new : (placed : List PlacedInstr) (n : ℕ) (before : List Statement) → n ≤ most_program_bytes → AreEarlier placed n before → list_any (has_label (label_of placed n)) before ≡ false
label_is_new placed n [] le h = refl
label_is_new placed n (s ∷ before) le h = rw (one_is_new placed n s.label le h.0) (label_is_new placed n before le h.1)

if_is_earlier : (b : Bool) (placed : List PlacedInstr) (line n : ℕ) → is_target placed n ≡ b → AreEarlier placed (n + 1) (statements_if b placed line n)
if_is_earlier true placed line n t = ((n, omega arith, t, refl), tt)
if_is_earlier false placed line n t = tt

-- ---- one line

last_byte : (name : List ℕ) → get_or (name ++ codes ":") (length name) 0 ≡ 58
last_byte [] = refl
last_byte (b ∷ name) = last_byte name

label_name_of : (name : List ℕ) → 0 < length name → label_name (name ++ codes ":") ≡ Some name
label_name_of name some =
    let len : length (name ++ codes ":") ≡ length name + 1 = length-append name (codes ":") in
    let long : ltb 1 (length (name ++ codes ":")) ≡ true = grind (arith, nat_tests) in
    let front : length (name ++ codes ":") - 1 ≡ length name = omega (arith, len) in
    rw (long, front, last_byte name, take-append_seam name (codes ":")) refl

label_statement : (version : Version) (placed : List PlacedInstr) (line n : ℕ) (before : List Statement) → n ≤ most_program_bytes → AreQuiet before → AreEarlier placed n before
    → statement version before (record { line = line; first = label_of placed n ++ codes ":"; more = [] }) ≡ Ok (record { line = line; label = Some (label_of placed n); command = None })
unfolding statement
label_statement version placed line n before le quiet earlier =
    let s : Statement = record { line = line; label = Some (label_of placed n); command = None } in
    let whole = quiet_behind before s (quiet-append before (s ∷ []) quiet (refl, refl, tt)) in
    rw (label_name_of (label_of placed n) (omega arith), label_is_new placed n before le earlier) whole

line_statement : (version : Version) (placed : List PlacedInstr) (line : ℕ) (p : PlacedInstr) (before : List Statement) → IsOfVersion version p.instr → AreQuiet before
    → statement version before (record { line = line; first = name_of p.instr.opcode; more = operands (row_of p.instr.opcode).immediates (target_word placed p.target) p.instr.immediates }) ≡ Ok (instruction_statement placed line p)
unfolding statement
line_statement version placed line p before of quiet =
    let name = name_is_plain p.instr.opcode in
    let c = command_is_quiet p.instr.opcode (target_word placed p.target) p.instr.immediates in
    let s = instruction_statement placed line p in
    let whole = quiet_behind before s (quiet-append before (s ∷ []) quiet (c.0, c.1, tt)) in
    rw (name.1, name.2, words_back version (target_word placed p.target) p.instr of) whole

-- ---- all lines

none_left : (version : Version) (before : List Statement) → statements version before [] ≡ Ok before
unfolding statements
none_left version before = refl

one_more : (version : Version) (before : List Statement) (l : Words) (ls : List Words) (s : Statement) → statement version before l ≡ Ok s → statements version before (l ∷ ls) ≡ statements version (before ++ s ∷ []) ls
unfolding statements
one_more version before l ls s e = rw e refl

label_step : (b : Bool) (version : Version) (placed : List PlacedInstr) (line n : ℕ) (before : List Statement) (rest : List (List Word)) → n ≤ most_program_bytes → AreQuiet before → AreEarlier placed n before
    → statements version before (numbered line (lines_if b placed n ++ rest)) ≡ statements version (before ++ statements_if b placed line n) (numbered (line + length (lines_if b placed n)) rest)
label_step true version placed line n before rest le quiet earlier =
    one_more version before (record { line = line; first = label_of placed n ++ codes ":"; more = [] }) (numbered (line + 1) rest) _ (label_statement version placed line n before le quiet earlier)
label_step false version placed line n before rest le quiet earlier =
    let same : line + 0 ≡ line = omega arith in
    rw (append-nil before, same) refl

-- the lines of a listing are read as its statements
pub statements_are : (version : Version) (placed : List PlacedInstr) (line n : ℕ) (ps : List PlacedInstr) (before : List Statement) → n + length ps ≤ most_program_bytes → AreOf version ps → AreQuiet before → AreEarlier placed n before
    → statements version before (numbered line (listing_from placed n ps)) ≡ Ok (before ++ listed placed line n ps)
statements_are version placed line n [] before le of quiet earlier =
    ap (λ ls. statements version before (numbered line ls)) (sym (append-nil (lines_if (is_target placed n) placed n)))
    ∙ label_step (is_target placed n) version placed line n before [] (omega (arith, le)) quiet earlier
    ∙ none_left version (before ++ statements_if (is_target placed n) placed line n)
statements_are version placed line n (p ∷ ps) before le of quiet earlier =
    let b = is_target placed n in
    let at = line_behind placed line n in
    let labelled_before = before ++ statements_if b placed line n in
    let s = instruction_statement placed at p in
    let c = command_is_quiet p.instr.opcode (target_word placed p.target) p.instr.immediates in
    let quiet_labels = quiet-append before (statements_if b placed line n) quiet (if_is_quiet b placed line n) in
    let quiet_now = quiet-append labelled_before (s ∷ []) quiet_labels (c.0, c.1, tt) in
    let earlier_labels = earlier-append placed (n + 1) before (statements_if b placed line n) (all_still_earlier placed n before earlier) (if_is_earlier b placed line n refl) in
    let earlier_now = earlier-append placed (n + 1) labelled_before (s ∷ []) earlier_labels (tt, tt) in
    let first = label_step b version placed line n before (instruction_line placed p ∷ listing_from placed (n + 1) ps) (omega (arith, le)) quiet earlier in
    let second = one_more version labelled_before (record { line = at; first = name_of p.instr.opcode; more = operands (row_of p.instr.opcode).immediates (target_word placed p.target) p.instr.immediates }) (numbered (at + 1) (listing_from placed (n + 1) ps)) s (line_statement version placed at p labelled_before of.0 quiet_labels) in
    let rest = statements_are version placed (at + 1) (n + 1) ps (labelled_before ++ s ∷ []) (omega (arith, le)) of.1 quiet_now earlier_now in
    first ∙ second ∙ rest ∙ ap (λ (x : List Statement). Ok x) (simp append_assoc)
