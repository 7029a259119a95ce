-- Vectors as keys, seen as lists.
use Rattle.std.proofs.Common.{◌≡◌, ℕ, suc, ◌+◌, Bool, true, false, cond, not, ◌||◌, List, [], ◌∷◌, ◌++◌, length, map, Some, None, refl, sym, ap, ◌∙◌, arith}
use Rattle.std.specs.Global.{Vec}
use Rattle.std.specs.List.{list_any, position_or_len, position}
use Rattle.std.specs.Map.{lookup}
use Rattle.std.specs.Str.{bytes_eq}
use Rattle.indexmap.specs.IndexMap.{insert_entry}
use Rattle.std.proofs.lemmas.List.{map_push}
use Rattle.std.proofs.lemmas.Bool.{ltb-false}
use Rattle.std.proofs.lemmas.List.Sums.{prefix_len-le-length}
use Rattle.teal_source.specs.Statements.{with_new}

abbrev pub items : Vec ℕ → List ℕ
items v = v.items

abbrev pub entry : Vec ℕ × ℕ → List ℕ × ℕ
entry e = (e.0.items, e.1)

pub length-items : (ks : List (Vec ℕ)) → length (map items ks) ≡ length ks
length-items [] = refl
length-items (k ∷ ks) = ap suc (length-items ks)

seen : (v : List ℕ) (ks : List (Vec ℕ)) → list_any (λ (y : Vec ℕ). bytes_eq v y.items) ks ≡ list_any (bytes_eq v) (map items ks)
seen v [] = refl
seen v (k ∷ ks) = ap (λ b. bytes_eq v k.items || b) (seen v ks)

by_test : (b : Bool) (ks : List (Vec ℕ)) (v : Vec ℕ) → map items (cond b ks (ks ++ v ∷ [])) ≡ cond b (map items ks) (map items ks ++ v.items ∷ [])
by_test true ks v = refl
by_test false ks v = map_push items ks v

-- a string goes behind the gathered ones, unless it is among them
pub inserted : (ks now : List (Vec ℕ)) (v : Vec ℕ) → now ≡ cond (list_any (λ (y : Vec ℕ). bytes_eq v.items y.items) ks) ks (ks ++ v ∷ []) → map items now ≡ with_new bytes_eq (map items ks) v.items
inserted ks now v e = ap (map items) e ∙ by_test _ ks v ∙ ap (λ b. cond b (map items ks) (map items ks ++ v.items ∷ [])) (seen v.items ks)

-- where a key stands
same_place : (v : List ℕ) (ks : List (Vec ℕ)) → position_or_len (λ (y : Vec ℕ). bytes_eq v y.items) ks ≡ position_or_len (bytes_eq v) (map items ks)
same_place v [] = refl
same_place v (k ∷ ks) = at_test (bytes_eq v k.items) (same_place v ks)
  where
    at_test : (b : Bool) {m n : ℕ} → m ≡ n → cond (not b) (1 + m) 0 ≡ cond (not b) (1 + n) 0
    at_test true e = refl
    at_test false e = ap (λ k. 1 + k) e

from_test : (b : Bool) (i j : ℕ) → cond b (Some i) None ≡ Some j → i ≡ j
from_test true i j e = cc
from_test false i j e = absurd cc

pub not_from_test : (b : Bool) (i : ℕ) → cond b (Some i) None ≡ None → b ≡ false
not_from_test true i e = absurd cc
not_from_test false i e = refl

-- a string is found at the first place where it stands among the gathered ones
pub found_at : (v : List ℕ) (ks : List (Vec ℕ)) (i : ℕ) → position (λ (y : Vec ℕ). bytes_eq v y.items) ks ≡ Some i → i ≡ position_or_len (bytes_eq v) (map items ks)
found_at v ks i e = sym (from_test _ _ i e) ∙ same_place v ks

-- a string that is not among them has the place behind the last
pub not_found : (v : List ℕ) (ks : List (Vec ℕ)) (n : ℕ) → position (λ (y : Vec ℕ). bytes_eq v y.items) ks ≡ None → n ≡ length ks → n ≡ position_or_len (bytes_eq v) (map items ks)
not_found v ks n e is =
    let beyond = ltb-false (position_or_len (λ (y : Vec ℕ). bytes_eq v y.items) ks) (length ks) (not_from_test _ _ e) in
    let inside = prefix_len-le-length (λ (y : Vec ℕ). not (bytes_eq v y.items)) ks in
    let same : n ≡ position_or_len (λ (y : Vec ℕ). bytes_eq v y.items) ks = omega (arith, beyond, inside) in
    same ∙ same_place v ks

-- labels
pub found_label : (name : List ℕ) (es : List (Vec ℕ × ℕ)) → lookup (λ (k : Vec ℕ). bytes_eq name k.items) es ≡ lookup (bytes_eq name) (map entry es)
found_label name [] = refl
found_label name (e ∷ es) = ap (λ o. cond (bytes_eq name e.0.items) (Some e.1) o) (found_label name es)

-- a new label goes behind the labels that are there
pub label_inserted : (k : Vec ℕ) (n : ℕ) (es : List (Vec ℕ × ℕ)) → lookup (bytes_eq k.items) (map entry es) ≡ None → map entry (insert_entry (λ (x y : Vec ℕ). bytes_eq x.items y.items) es k n) ≡ map entry es ++ (k.items, n) ∷ []
label_inserted k n [] none = refl
label_inserted k n (e ∷ es) none = at_test (bytes_eq k.items e.0.items) (label_inserted k n es) none
  where
    at_test : (b : Bool) → (lookup (bytes_eq k.items) (map entry es) ≡ None → map entry (insert_entry (λ (x y : Vec ℕ). bytes_eq x.items y.items) es k n) ≡ map entry es ++ (k.items, n) ∷ [])
        → cond b (Some e.1) (lookup (bytes_eq k.items) (map entry es)) ≡ None
        → map entry (cond b ((e.0, n) ∷ es) (e ∷ insert_entry (λ (x y : Vec ℕ). bytes_eq x.items y.items) es k n)) ≡ entry e ∷ (map entry es ++ (k.items, n) ∷ [])
    at_test true later some = absurd cc
    at_test false later none = ap (λ xs. entry e ∷ xs) (later none)
