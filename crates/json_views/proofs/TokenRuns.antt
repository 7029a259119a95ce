-- The tokens of arrays and objects, a part after another.
use Rattle.std.proofs.Common.{◌≡◌, ◌∙◌, List, [], ◌∷◌, ◌++◌, map, refl, sym, ap, append_assoc, append-nil}
use Rattle.std.specs.List.{flat_map}
use Rattle.std.proofs.lemmas.Grind.{flat_map-append}
use Rattle.json.specs.Json.{Json}
use Rattle.json.specs.Token.{Token, end_array, key}
use Rattle.json.specs.Tree.{items_tokens, json_tokens, members_tokens}
use Rattle.json_views.specs.Documents.{Member, items_of, member_tokens, members_of}

module _ {A : Type 0} (shown : A → Json) where
  -- the tokens of items, without the brackets of their array
  abbrev pub run : List A → List Token
  run xs = flat_map (λ x. json_tokens (shown x)) xs

  -- the tokens of some items stand in front of those of the items that follow
  pub items_behind : (xs ys : List A) → items_tokens (items_of (map shown (xs ++ ys))) ≡ run xs ++ items_tokens (items_of (map shown ys))
  items_behind [] ys = refl
  items_behind (x ∷ xs) ys = ap (λ ts. json_tokens (shown x) ++ ts) (items_behind xs ys) ∙ sym (append_assoc (json_tokens (shown x)) (run xs) (items_tokens (items_of (map shown ys))))

  -- one item more adds its tokens at the end
  pub run_more : (xs : List A) (x : A) → run (xs ++ x ∷ []) ≡ run xs ++ json_tokens (shown x)
  run_more xs x = flat_map-append (λ y. json_tokens (shown y)) xs (x ∷ []) ∙ ap (λ ts. run xs ++ ts) (append-nil (json_tokens (shown x)))

  -- all items, and the closing bracket
  pub closed : (xs : List A) → run xs ++ end_array ∷ [] ≡ items_tokens (items_of (map shown xs))
  closed xs = sym (items_behind xs []) ∙ ap (λ ys. items_tokens (items_of (map shown ys))) (append-nil xs)

-- the tokens of some members stand in front of those of the members that follow
pub members_behind : (first more : List Member) → members_tokens (members_of (first ++ more)) ≡ member_tokens first ++ members_tokens (members_of more)
members_behind [] more = refl
members_behind (m ∷ ms) more = ap (λ ts. key m.0 ∷ ts) (ap (λ ts. json_tokens m.1 ++ ts) (members_behind ms more) ∙ sym (append_assoc (json_tokens m.1) (member_tokens ms) (members_tokens (members_of more))))
