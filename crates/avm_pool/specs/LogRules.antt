-- The rule of the book that a log stands in: whoever has the rights to add to it adds to all of it.
use Rattle.std.specs.Prelude.{◌≡◌, ℕ, ◌+◌, ◌<◌, ◌≤◌, ◌==◌, true, List, [], ◌∷◌, ◌++◌, length, get_or, MatchBool}
use Rattle.logbook.specs.Pages.{Book, Cell, Named, Step, View, cell, may_make, may_write, nib}
use Rattle.logbook.specs.declared.tokens.Pen.{Pen}
use Rattle.avm_call.specs.declared.outcome.Outcome.TheVariants.{Rejected}
use Rattle.mv_parts.specs.CallHistory.{CallEntry}

-- what is seen of a log: its entries, and how many more there is room for
pub record CommitLog : Type 0 where
  pub entries : List CallEntry
  pub room : ℕ

-- The first word counts the cells after the first two. Each entry has brought one of them home, from the first on.
pub record IsKeptLog (cells : List Cell) (log : List CallEntry) : Type 0 where
  pub at_home : (cell cells 0).1 ≡ true
  pub count : (cell cells 0).0 + 2 ≡ length cells
  pub within : length log + 2 ≤ length cells
  pub home : (k : ℕ) → 2 ≤ k → k < length log + 2 → (cell cells k).1 ≡ true

abbrev pub head_of : Book → Named
head_of b = record { tracked = true; key = 0; book = b }

-- a step that adds a cell asks for no entry
abbrev pub no_entry : CallEntry
no_entry = record { timestamp = 0; number = 0; outcome = Rejected; reads = []; writes = [] }

-- a cell was added, and may be made; or there were not as many as was said
abbrev pub AddsCell : Step CallEntry → View CallEntry ℕ → ℕ → View CallEntry ℕ → Type 0
AddsCell s v found w = MatchBool (found == s.old) (w.1.0 ≡ nib may_make (s.old + 2) 0) (Unit {0})

-- the entry was added to all that had been seen
abbrev pub AddsEntry : Step CallEntry → View CallEntry ℕ → ℕ → View CallEntry ℕ → Type 0
AddsEntry s v found w = w.0 ≡ v.0 ++ s.ask ∷ []

-- the rights from a number on are there
abbrev pub HaveRights : Book → ℕ → List Pen → Type 0
HaveRights b n pens = (i : ℕ) (d : Pen) → n ≤ i → i < length pens → ((get_or pens i d).book ≡ b) × ((get_or pens i d).nib ≡ nib may_write (i + 2) 0)

-- what the owner of a log keeps
pub record IsOwnedLog (book : Book) (head : Named) (len : ℕ) (seen_book : Book) (names : List ℕ) (log : List CallEntry) (pens : List Pen) : Type 0 where
  pub head_is : head ≡ head_of book
  pub len_is : len ≡ length log
  pub book_is : seen_book ≡ book
  pub nothing_kept : names ≡ []
  pub room : length log ≤ length pens
  pub rights : HaveRights book (length log) pens
