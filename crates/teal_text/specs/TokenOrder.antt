-- Where the tokens of a line lie.
use Rattle.std.specs.Prelude.{◌≡◌, ℕ, ◌+◌, ◌-◌, ◌<◌, ◌≤◌, true, false, List, [], ◌∷◌, length, take, drop}
use Rattle.std.specs.List.{prefix_len, list_all}
use Rattle.teal_text.specs.declared.token.Token.{Token}
use Rattle.teal_text.specs.Tokens.{is_blank, is_ended}

-- The tokens of bytes that stand at a place of the text, from left to right: only blanks stand before each, and behind
-- the last only blanks and a comment.
abbrev pub LieInOrder : ℕ → List ℕ → List Token → Type 0
LieInOrder place bs [] = is_ended false (drop (prefix_len is_blank bs) bs) ≡ true
LieInOrder place bs (t ∷ ts) =
    (place ≤ t.start) × (t.start < t.end) × (t.end ≤ place + length bs) × (list_all is_blank (take (t.start - place) bs) ≡ true) × LieInOrder t.end (drop (t.end - place) bs) ts
