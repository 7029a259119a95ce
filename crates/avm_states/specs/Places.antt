-- Where a key stands among entries by rising key.
use Rattle.std.specs.Prelude.{◌≡◌, ℕ, ◌<◌, ◌≤◌, List, length, slice_index_or, slice_set, None, Some, Result, MatchResult}
use Rattle.std.specs.declared.cmp.Ordering.{Ordering}
use Rattle.std.specs.List.{insert, remove}
use Rattle.std.specs.Map.{lookup, remove_entry}
use Rattle.std.specs.BTreeMap.{insert_entry, is_at}

module _ {K X : Type 0} (cmp : K → K → Ordering) (key : K) (entries : List (K × X)) where
  -- the key stands at this place: its value is read, set and taken there
  pub record StandsAt (place : ℕ) : Type 0 where
    pub within : place < length entries
    pub value : (d : K × X) → lookup (is_at (cmp key)) entries ≡ Some (slice_index_or entries place d).1
    pub set : (d : K × X) (v : X) → insert_entry cmp entries key v ≡ slice_set entries place ((slice_index_or entries place d).0, v)
    pub taken : remove_entry (is_at (cmp key)) entries ≡ remove entries place

  -- the key is not there, and would go to this place
  pub record WouldGoTo (place : ℕ) : Type 0 where
    pub within : place ≤ length entries
    pub none : lookup (is_at (cmp key)) entries ≡ None
    pub set : (v : X) → insert_entry cmp entries key v ≡ insert entries place (key, v)
    pub taken : remove_entry (is_at (cmp key)) entries ≡ entries

  abbrev pub IsPlaceOf : Result ℕ ℕ → Type 0
  IsPlaceOf place = MatchResult place StandsAt WouldGoTo
