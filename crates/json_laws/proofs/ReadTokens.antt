-- What holds of a value and its tokens, by how values are read: a relation between a value, the tokens before it was read, and
-- those that are left.
use Rattle.std.proofs.Common.{◌≡◌, ℕ, zero, suc, Bool, List, [], ◌∷◌, length, Option, Some, None, refl, sym, subst}
use Rattle.std.specs.Prelude.{option_and_then}
use Rattle.json.specs.Token.{Token, begin_object, end_object, begin_array, end_array, key, string, number, boolean, null, bad}
use Rattle.json.specs.Json.{Json, Items, Members, Parse, after_end_array, if_last, items, items_step, members, members_step, no_items, no_members, item, member, parse_map, read_key, value, value_with, array, object}
use Rattle.json.specs.Json as json
use Rattle.json_documents.specs.Reading.{lone_value, most_nested}

-- between what was read, the tokens before it was read, and those that are left
abbrev pub Relation : Type 0 → Type 1
Relation A = A → List Token → List Token → Type 0

-- the relation holds of plain values, and of arrays and objects where it holds of what is in them
pub record IsClosed (R : Relation Json) (S : Relation Items) (T : Relation Members) : Type 0 where
  pub is_null : (ts : List Token) → R json.null (null ∷ ts) ts
  pub is_boolean : (b : Bool) (ts : List Token) → R (json.boolean b) (boolean b ∷ ts) ts
  pub is_number : (s : List ℕ) (ts : List Token) → R (json.number s) (number s ∷ ts) ts
  pub is_string : (s : List ℕ) (ts : List Token) → R (json.string s) (string s ∷ ts) ts
  pub is_array : (js : Items) (ts rest : List Token) → S js ts rest → R (array js) (begin_array ∷ ts) rest
  pub is_object : (ms : Members) (ts rest : List Token) → T ms ts rest → R (object ms) (begin_object ∷ ts) rest
  pub no_more_items : (ts : List Token) → S no_items (end_array ∷ ts) ts
  pub one_item : (j : Json) (js : Items) (ts left rest : List Token) → R j ts left → S js left rest → S (item j js) ts rest
  pub no_more_members : (ts : List Token) → T no_members (end_object ∷ ts) ts
  pub one_member : (k : List ℕ) (j : Json) (ms : Members) (ts left rest : List Token) → R j ts left → T ms left rest → T (member k j ms) (key k ∷ ts) rest

-- what a reader takes stands in the relation
abbrev Takes : {A : Type 0} → Parse A → Relation A → Type 0
Takes {A = A} parse R = (ts : List Token) (x : A) (rest : List Token) → parse ts ≡ Some (x, rest) → R x ts rest

none_taken : {A : Type 0} (R : Relation A) → Takes (λ ts. None) R
none_taken R ts x rest e = absurd cc

mapped : {A B : Type 0} (R : Relation B) (f : A → B) (r : Option (A × List Token)) (y : B) (ts rest : List Token) → ((x : A) (left : List Token) → r ≡ Some (x, left) → R (f x) ts left) → parse_map f r ≡ Some (y, rest) → R y ts rest
mapped R f None y ts rest h e = absurd cc
mapped {A} {B} R f (Some (x, left)) y ts rest h e =
    let same : ◌≡◌ {A = B × List Token} (f x, left) (y, rest) = cc in
    subst (λ p. R p.0 ts p.1) same (h x left refl)

plain : {A : Type 0} (R : Relation A) (a x : A) (ts before rest : List Token) → R a before ts → ◌≡◌ {A = Option (A × List Token)} (Some (a, ts)) (Some (x, rest)) → R x before rest
plain {A} R a x ts before rest h e = let same : ◌≡◌ {A = A × List Token} (a, ts) (x, rest) = cc in subst (λ p. R p.0 before p.1) same h

-- what stands in front
end_is : (ts rest : List Token) → after_end_array ts ≡ Some rest → ts ≡ end_array ∷ rest
end_is [] rest e = absurd cc
end_is (begin_object ∷ ts) rest e = absurd cc
end_is (end_object ∷ ts) rest e = absurd cc
end_is (begin_array ∷ ts) rest e = absurd cc
end_is (end_array ∷ ts) rest e = cc
end_is (key s ∷ ts) rest e = absurd cc
end_is (string s ∷ ts) rest e = absurd cc
end_is (number s ∷ ts) rest e = absurd cc
end_is (boolean b ∷ ts) rest e = absurd cc
end_is (null ∷ ts) rest e = absurd cc
end_is (bad ∷ ts) rest e = absurd cc

-- the key of a member, or the end of an object
abbrev key_or_end : Option (List ℕ) → Token
key_or_end None = end_object
key_or_end (Some s) = key s

key_is : (ts : List Token) (k : Option (List ℕ)) (rest : List Token) → read_key ts ≡ Some (k, rest) → ts ≡ key_or_end k ∷ rest
key_is [] k rest e = absurd cc
key_is (begin_object ∷ ts) k rest e = absurd cc
key_is (end_object ∷ ts) k rest e = let same : ◌≡◌ {A = Option (List ℕ) × List Token} (None, ts) (k, rest) = cc in λ i. key_or_end ((same i).0) ∷ (same i).1
key_is (begin_array ∷ ts) k rest e = absurd cc
key_is (end_array ∷ ts) k rest e = absurd cc
key_is (key s ∷ ts) k rest e = let same : ◌≡◌ {A = Option (List ℕ) × List Token} (Some s, ts) (k, rest) = cc in λ i. key_or_end ((same i).0) ∷ (same i).1
key_is (string s ∷ ts) k rest e = absurd cc
key_is (number s ∷ ts) k rest e = absurd cc
key_is (boolean b ∷ ts) k rest e = absurd cc
key_is (null ∷ ts) k rest e = absurd cc
key_is (bad ∷ ts) k rest e = absurd cc

module _ {R : Relation Json} {S : Relation Items} {T : Relation Members} (c : IsClosed R S T) where
  value_takes : (a : Parse Items) (o : Parse Members) → Takes a S → Takes o T → Takes (value_with a o) R
  value_takes a o ha ho [] x rest e = absurd cc
  value_takes a o ha ho (begin_object ∷ ts) x rest e = mapped R object (o ts) x (begin_object ∷ ts) rest (λ ms left is. c.is_object ms ts left (ho ts ms left is)) e
  value_takes a o ha ho (end_object ∷ ts) x rest e = absurd cc
  value_takes a o ha ho (begin_array ∷ ts) x rest e = mapped R array (a ts) x (begin_array ∷ ts) rest (λ js left is. c.is_array js ts left (ha ts js left is)) e
  value_takes a o ha ho (end_array ∷ ts) x rest e = absurd cc
  value_takes a o ha ho (key s ∷ ts) x rest e = absurd cc
  value_takes a o ha ho (string s ∷ ts) x rest e = plain R (json.string s) x ts (string s ∷ ts) rest (c.is_string s ts) e
  value_takes a o ha ho (number s ∷ ts) x rest e = plain R (json.number s) x ts (number s ∷ ts) rest (c.is_number s ts) e
  value_takes a o ha ho (boolean b ∷ ts) x rest e = plain R (json.boolean b) x ts (boolean b ∷ ts) rest (c.is_boolean b ts) e
  value_takes a o ha ho (null ∷ ts) x rest e = plain R json.null x ts (null ∷ ts) rest (c.is_null ts) e
  value_takes a o ha ho (bad ∷ ts) x rest e = absurd cc

  item_takes : (v : Parse Json) (more : Parse Items) (ts : List Token) (o : Option (List Token)) → Takes v R → Takes more S → ((rest : List Token) → o ≡ Some rest → ts ≡ end_array ∷ rest) → (js : Items) (rest : List Token) → items_step v more ts o ≡ Some (js, rest) → S js ts rest
  item_takes v more ts (Some left) hv hm front js rest e = subst (λ us. S js us rest) (sym (front left refl)) (plain S no_items js left (end_array ∷ left) rest (c.no_more_items left) e)
  item_takes v more ts None hv hm front js rest e = by (v ts) refl e
    where
      by : (r : Option (Json × List Token)) → v ts ≡ r → option_and_then (λ p. parse_map (item p.0) (more p.1)) r ≡ Some (js, rest) → S js ts rest
      by None is e = absurd cc
      by (Some (j, left)) is e = mapped S (item j) (more left) js ts rest (λ ks after got. c.one_item j ks ts left after (hv ts j left is) (hm left ks after got)) e

  items_take : (v : Parse Json) → Takes v R → (n : ℕ) → Takes (items v n) S
  unfolding items
  items_take v hv zero ts js rest e = absurd cc
  items_take v hv (suc n) ts js rest e = item_takes v (items v n) ts (after_end_array ts) hv (items_take v hv n) (λ left is. end_is ts left is) js rest e

  member_takes : (v : Parse Json) (more : Parse Members) (k : Option (List ℕ)) (ts : List Token) → Takes v R → Takes more T → (ms : Members) (rest : List Token) → members_step v more k ts ≡ Some (ms, rest) → T ms (key_or_end k ∷ ts) rest
  member_takes v more None ts hv hm ms rest e = plain T no_members ms ts (end_object ∷ ts) rest (c.no_more_members ts) e
  member_takes v more (Some k) ts hv hm ms rest e = by (v ts) refl e
    where
      by : (r : Option (Json × List Token)) → v ts ≡ r → option_and_then (λ p. parse_map (member k p.0) (more p.1)) r ≡ Some (ms, rest) → T ms (key k ∷ ts) rest
      by None is e = absurd cc
      by (Some (j, left)) is e = mapped T (member k j) (more left) ms (key k ∷ ts) rest (λ ns after got. c.one_member k j ns ts left after (hv ts j left is) (hm left ns after got)) e

  members_take : (v : Parse Json) → Takes v R → (n : ℕ) → Takes (members v n) T
  unfolding members
  members_take v hv zero ts ms rest e = absurd cc
  members_take v hv (suc n) ts ms rest e = by (read_key ts) refl (members_take v hv n) e
    where
      by : (r : Option (Option (List ℕ) × List Token)) → read_key ts ≡ r → Takes (members v n) T → option_and_then (λ p. members_step v (members v n) p.0 p.1) r ≡ Some (ms, rest) → T ms ts rest
      by None is more e = absurd cc
      by (Some (k, left)) is more e = subst (λ us. T ms us rest) (sym (key_is ts k left is)) (member_takes v (members v n) k left hv more ms rest e)

  values_take : (d : ℕ) → Takes (value d) R
  unfolding value
  values_take zero = value_takes (λ ts. None) (λ ts. None) (none_taken S) (none_taken T)
  values_take (suc d) =
      value_takes (λ ts. items (value d) (length ts) ts) (λ ts. members (value d) (length ts) ts)
      (λ ts js rest e. items_take (value d) (values_take d) (length ts) ts js rest e) (λ ts ms rest e. members_take (value d) (values_take d) (length ts) ts ms rest e)

  -- a value that all of the tokens are
  pub lone_value_takes : (ts : List Token) (j : Json) → lone_value ts ≡ Some j → R j ts []
  lone_value_takes ts j e = by (value most_nested ts) refl e
    where
      by : (r : Option (Json × List Token)) → value most_nested ts ≡ r → option_and_then (λ p. if_last p.0 p.1) r ≡ Some j → R j ts []
      by None is e = absurd cc
      by (Some (i, [])) is e = let same : i ≡ j = cc in subst (λ k. R k ts []) same (values_take most_nested ts i [] is)
      by (Some (i, (t ∷ rest))) is e = absurd cc
