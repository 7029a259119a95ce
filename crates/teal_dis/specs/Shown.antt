-- Words and labels of the program, without where they lie in memory.
use Rattle.std.specs.Prelude.{◌≡◌, ℕ, ◌+◌, ◌≤◌, if◌then◌else◌, Bool, false, List, [], ◌∷◌, ◌++◌, codes, decimal, length, map, String, string_bytes, slice_index_or, Option, Some, None}
use Rattle.teal_check.specs.declared.program.PlacedInstr.{PlacedInstr}
use Rattle.teal_dis.specs.Listing.{Word, is_target, line_number, targets_before}

abbrev pub texts : {A : Type 0} → List (String A) → List Word
texts words = map string_bytes words

-- whether a branch leads to each instruction, and to the end
pub record AreMarks (placed : List PlacedInstr) (marks : List Bool) : Type 0 where
  pub count : length marks ≡ length placed + 1
  pub each : (n : ℕ) → n ≤ length placed → slice_index_or marks n false ≡ is_target placed n

-- the number of the label before the instruction with a number, where it has one
abbrev pub label_before : List PlacedInstr → ℕ → Option ℕ
label_before placed n = if is_target placed n then Some (targets_before placed n + 1) else None

-- the number of each instruction's label, and of the end's
pub record AreLabels (placed : List PlacedInstr) (labels : List (Option ℕ)) : Type 0 where
  pub count : length labels ≡ length placed + 1
  pub each : (n : ℕ) → n ≤ length placed → slice_index_or labels n None ≡ label_before placed n

-- the label of a number, and its line
abbrev pub label : Option ℕ → Word
label None = []
label (Some k) = codes "label" ++ decimal k

abbrev pub lines_of_label : Option ℕ → List (List Word)
lines_of_label None = []
lines_of_label (Some k) = ((label (Some k) ++ codes ":") ∷ []) ∷ []

-- the label of a branch's target, by the labels' numbers
abbrev pub label_in : List (Option ℕ) → Option ℕ → Word
label_in labels None = []
label_in labels (Some target) = label (slice_index_or labels target None)

-- the lines of all instructions, and how many lines there are
pub record AreLineNumbers (placed : List PlacedInstr) (numbers : List ℕ) : Type 0 where
  pub count : length numbers ≡ length placed + 1
  pub each : (n : ℕ) → n ≤ length placed → slice_index_or numbers n 0 ≡ line_number placed n
