-- The marks of versions as a list, as worlds have them.
use Rattle.std.specs.Prelude.{List, [], ◌∷◌, ◌++◌}
use Rattle.mv_chain.specs.declared.chain.Version.{Version}
use Rattle.mv_history.specs.World.{Mark}

-- the marks of an item's versions
abbrev pub marks_at : {Item V : Type 0} → Item → List (Version V) → List (Mark Item)
marks_at x [] = []
marks_at x (v ∷ vs) = record { item = x; version = v.timestamp; reader = v.mark } ∷ marks_at x vs

-- the marks of the versions that items have
abbrev pub marks_among : {Item V : Type 0} → (Item → List (Version V)) → List Item → List (Mark Item)
marks_among all [] = []
marks_among all (x ∷ xs) = marks_at x (all x) ++ marks_among all xs
