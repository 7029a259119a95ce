-- The way from a document to a value in it.
use Rattle.std.specs.Prelude.{ℕ, List, [], ◌∷◌, ◌++◌, codes, decimal}

-- a step from a value into it: to the member of a name, or to the element at an index
pub data Step : Type 0 where
  at_name : List ℕ → Step
  at_index : ℕ → Step

abbrev pub step_text : Step → List ℕ
step_text (at_name name) = name
step_text (at_index i) = decimal i

-- a JSON pointer in the form of a fragment (RFC 6901, section 6), from steps of which the last comes first
abbrev pub path_text : List Step → List ℕ
path_text [] = codes "#"
path_text (s ∷ ss) = path_text ss ++ (codes "/" ++ step_text s)
