-- Items and lists that are compared.
use Rattle.std.proofs.Common.{◌≡◌, ℕ, ◌+◌, ◌<◌, ◌==◌, zero, suc, Bool, true, false, not, nat_eq, List, [], ◌∷◌, length, get_or, refl, sym, ap, ◌∙◌, subst, arith}
use Rattle.std.specs.Cmp.Lexicographic.{pointwise}
use Rattle.std.proofs.lemmas.Slice.Eq.{bytes_eq-Decides}
use Rattle.std.specs.Bool.{Decides}
use Rattle.teal_value.specs.SameValues.{are_same_bytes}
use Rattle.teal_value.specs.declared.address.Address.{Address}
use Rattle.avm_ledger.proofs.Changes.{address_is}
use Rattle.std.specs.declared.cmp.Ordering.TheVariants.{Equal}
use Rattle.std.specs.Cmp.{tied_itself}
use Rattle.avm_items.specs.declared.item.Item.{Item}
use Rattle.avm_items.specs.Items.{item_cmp}
use Rattle.avm_items.proofs.Puts.{item_total}

-- items that are the same tie
pub item_ties : (x y : Item) → x ≡ y → item_cmp x y ≡ Equal
item_ties x y same = ap (item_cmp x) (sym same) ∙ tied_itself item_total x

-- lists of one length are the same where their elements are
pub lists_alike : {A : Type 0} (xs ys : List A) → length xs ≡ length ys → ((i : ℕ) → i < length xs → (d : A) → get_or xs i d ≡ get_or ys i d) → xs ≡ ys
lists_alike [] [] count each = refl
lists_alike [] (y ∷ ys) count each = absurd (omega arith)
lists_alike (x ∷ xs) [] count each = absurd (omega arith)
lists_alike (x ∷ xs) (y ∷ ys) count each =
    let first : x ≡ y = each zero (omega arith) x in
    ap (λ z. z ∷ xs) first ∙ ap (λ zs. y ∷ zs) (lists_alike xs ys (omega arith) (λ i h. each (suc i) (omega (arith, h))))

any_default : {A : Type 0} (xs : List A) (i : ℕ) (d e : A) → i < length xs → get_or xs i d ≡ get_or xs i e
any_default [] i d e within = absurd (omega arith)
any_default (x ∷ xs) zero d e within = refl
any_default (x ∷ xs) (suc i) d e within = any_default xs i d e (omega (arith, within))

-- lists of the same length with the same first n elements and next one have the same first n + 1
pub next_alike : {A : Type 0} (xs ys : List A) (n : ℕ) (x y : A) → n < length xs → length xs ≡ length ys → x ≡ get_or xs n x → y ≡ get_or ys n y → x ≡ y
    → ((i : ℕ) → i < n → (d : A) → get_or xs i d ≡ get_or ys i d) → (i : ℕ) → i < n + 1 → (d : A) → get_or xs i d ≡ get_or ys i d
next_alike xs ys n x y within count x_is y_is same before i h d = by (i == n) refl
  where
    by : (b : Bool) → (i == n) ≡ b → get_or xs i d ≡ get_or ys i d
    by true is =
        let e : i ≡ n = grind (arith, is) in
        ap (λ j. get_or xs j d) e ∙ any_default xs n d x within ∙ sym x_is ∙ same ∙ y_is ∙ any_default ys n y d (subst (λ m. n < m) count within) ∙ ap (λ j. get_or ys j d) (sym e)
    by false is = before i (grind (arith, is, h)) d

-- byte strings that are found not to differ are the same
pub same_bytes : (xs ys : List ℕ) (differ : Bool) → differ ≡ false → differ ≡ not (pointwise nat_eq xs ys) → xs ≡ ys
same_bytes xs ys differ none is = (bytes_eq-Decides xs ys).0 (turn (pointwise nat_eq xs ys) (sym is ∙ none))
  where
    turn : (b : Bool) → not b ≡ false → b ≡ true
    turn true e = refl
    turn false e = absurd cc

-- addresses are the same exactly where their bytes are
pub address-Decides : (a b : Address) → Decides (are_same_bytes a.0 b.0) (a ≡ b)
address-Decides a b = let d = bytes_eq-Decides a.0 b.0 in (λ t. address_is a b (d.0 t), λ e. d.1 (ap (λ (x : Address). x.0) e))
