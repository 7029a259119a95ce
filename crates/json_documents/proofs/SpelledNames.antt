-- The text of a string alone.
use Rattle.std.proofs.Common.{◌≡◌, ◌∙◌, ap, ℕ, List, [], ◌∷◌, ◌++◌, append-nil}
use Rattle.json.specs.Print.{print, print_from, quoted}
use Rattle.json.specs.Token.{Token, string}

-- a string that is printed alone is its text in quotes
pub printed_string : (items before : List ℕ) (tokens : List Token) (name : List ℕ)
    → items ≡ before ++ print tokens → before ≡ [] → tokens ≡ string name ∷ [] → items ≡ quoted name
unfolding print_from
printed_string items before tokens name is first all =
    is ∙ (ap (λ xs. xs ++ print tokens) first ∙ (ap print all ∙ append-nil (quoted name)))
