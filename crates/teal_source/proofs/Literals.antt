-- The literals of a line, one after another.
use Rattle.std.proofs.Common.{◌≡◌, ℕ, zero, suc, ◌+◌, ◌<◌, ◌≤◌, true, false, List, [], ◌∷◌, length, drop, get_or, Some, None, refl, ap, ◌∙◌, arith}
use Rattle.std.proofs.lemmas.List.{drop_more, drop_all}
use Rattle.std.specs.Borrow.{Bor}
use Rattle.teal_text.specs.Literals.{names_encoding}
use Rattle.teal_source.specs.Operands.{Word, literals_in}
use Rattle.teal_source.specs.Shown.{words}

length-words : (ops : List (Bor (List ℕ))) → length (words ops) ≡ length ops
length-words [] = refl
length-words (x ∷ xs) = ap suc (length-words xs)

word_at : (ops : List (Bor (List ℕ))) (at : ℕ) (d : Bor (List ℕ)) → get_or (words ops) at d.now ≡ (get_or ops at d).now
word_at [] at d = refl
word_at (x ∷ xs) zero d = refl
word_at (x ∷ xs) (suc at) d = word_at xs at d

pub drop-words : (ops : List (Bor (List ℕ))) (at : ℕ) (d : Bor (List ℕ)) → at < length ops → drop at (words ops) ≡ (get_or ops at d).now ∷ drop (at + 1) (words ops)
drop-words ops at d lt =
    drop_more (words ops) at d.now (omega (arith, length-words ops)) ∙ ap (λ w. w ∷ drop (at + 1) (words ops)) (word_at ops at d)

pub drop-words-all : (ops : List (Bor (List ℕ))) (at : ℕ) → length ops ≤ at → drop at (words ops) ≡ []
drop-words-all ops at le = drop_all at (words ops) (omega (arith, length-words ops))

paired : (w t : Word) (ws : List Word) → names_encoding w ≡ true → literals_in (w ∷ t ∷ ws) ≡ (w, Some t) ∷ literals_in ws
paired w t ws names = rw names refl

-- a literal of two tokens
pub encoded_at : (ops : List (Bor (List ℕ))) (at : ℕ) (d : Bor (List ℕ)) → at + 1 < length ops → names_encoding (get_or ops at d).now ≡ true
    → literals_in (drop at (words ops)) ≡ ((get_or ops at d).now, Some (get_or ops (at + 1) d).now) ∷ literals_in (drop (at + 2) (words ops))
encoded_at ops at d lt names =
    let first : drop at (words ops) ≡ (get_or ops at d).now ∷ (get_or ops (at + 1) d).now ∷ drop (at + 2) (words ops) =
    drop-words ops at d (omega arith) ∙ ap (λ ws. (get_or ops at d).now ∷ ws) (drop-words ops (at + 1) d lt ∙ ap (λ n. (get_or ops (at + 1) d).now ∷ drop n (words ops)) (omega arith)) in
    ap literals_in first ∙ paired _ _ _ names

-- a literal of one token: it names no encoding, or no token stands behind it
pub single : (w : Word) (ws : List Word) → names_encoding w ≡ false → literals_in (w ∷ ws) ≡ (w, None) ∷ literals_in ws
single w [] none = refl
single w (t ∷ ws) none = rw none refl

pub last : (w : Word) (ws : List Word) → ws ≡ [] → literals_in (w ∷ ws) ≡ (w, None) ∷ literals_in ws
last w ws e = rw e refl

-- a word that names no encoding is a literal by itself
pub plain_at : (ops : List (Bor (List ℕ))) (at : ℕ) (d : Bor (List ℕ)) → at < length ops → names_encoding (get_or ops at d).now ≡ false
    → literals_in (drop at (words ops)) ≡ ((get_or ops at d).now, None) ∷ literals_in (drop (at + 1) (words ops))
plain_at ops at d lt none = ap literals_in (drop-words ops at d lt) ∙ single _ _ none

-- the last word is a literal by itself
pub last_at : (ops : List (Bor (List ℕ))) (at : ℕ) (d : Bor (List ℕ)) → at < length ops → length ops ≤ at + 1
    → literals_in (drop at (words ops)) ≡ ((get_or ops at d).now, None) ∷ literals_in (drop (at + 1) (words ops))
last_at ops at d lt le = ap literals_in (drop-words ops at d lt) ∙ last _ _ (drop-words-all ops (at + 1) le)
