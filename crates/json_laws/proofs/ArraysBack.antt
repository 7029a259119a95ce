-- What is shown as an array is read back, where each element adds itself to what was gathered before it.
use Rattle.std.proofs.Common.{◌≡◌, ℕ, ◌+◌, List, [], ◌∷◌, ◌++◌, All, Result, Ok, refl, sym, ap, ◌∙◌, append_assoc, append-nil}
use Rattle.std.specs.Prelude.{map}
use Rattle.std.proofs.lemmas.List.Elements.{All-head, All-tail, All-same}
use Rattle.teal_value.specs.Answer.{◌>>=◌}
use Rattle.json.specs.Json.{Json}
use Rattle.json_documents.specs.Arrays.{each, gathered}
use Rattle.json_documents.specs.Faults.{Fault, in_step}
use Rattle.json_documents.specs.Steps.{Step}
use Rattle.json_views.specs.Documents.{array_of, items_of}

-- a step that is known
pub then : {A B : Type 0} (r : Result A Fault) (x : A) (more : A → Result B Fault) (answer : Result B Fault) → r ≡ Ok x → more x ≡ answer → (r >>= more) ≡ answer
then r x more answer e f = ap (λ r. r >>= more) e ∙ f

-- one that is known, behind a step into the value
pub then_in : {A B : Type 0} (step : Step) (r : Result A Fault) (x : A) (more : A → Result B Fault) (answer : Result B Fault) → r ≡ Ok x → more x ≡ answer → (in_step step r >>= more) ≡ answer
then_in step r x more answer e f = ap (λ r. in_step step r >>= more) e ∙ f

module _ {A X : Type 0} (one : A → Json → Result A Fault) (shown : X → Json) (so_far : List X → A) where
  -- an element of these, behind those before it, adds itself to what was gathered
  abbrev pub AddItself : List X → Type 0
  AddItself xs = (before : List X) (x : X) (rest : List X) → before ++ x ∷ rest ≡ xs → one (so_far before) (shown x) ≡ Ok (so_far (before ++ x ∷ []))

  from_index : (i : ℕ) (before rest xs : List X) → before ++ rest ≡ xs → AddItself xs → gathered one i (so_far before) (items_of (map shown rest)) ≡ Ok (so_far xs)
  unfolding gathered
  from_index i before [] xs is add = ap (λ ys. Ok (so_far ys)) (sym (append-nil before) ∙ is)
  from_index i before (x ∷ rest) xs is add =
      then_in _ _ _ _ _ (add before x rest is) (from_index (i + 1) (before ++ x ∷ []) rest xs (append_assoc before (x ∷ []) rest ∙ is) add)

  -- an array of elements that add themselves is read back
  pub array_back : (xs : List X) → AddItself xs → each one (so_far []) (array_of shown xs) ≡ Ok (so_far xs)
  array_back xs add = from_index 0 [] xs xs refl add

-- what holds of each element, at one of them
pub at_seam : {X : Type 0} (P : X → Type 0) (before : List X) (x : X) (rest xs : List X) → before ++ x ∷ rest ≡ xs → All P xs → P x
at_seam P [] x rest xs is all = All-head P x rest (All-same P (x ∷ rest) xs is all)
at_seam P (b ∷ before) x rest xs is all = at_seam P before x rest (before ++ x ∷ rest) refl (All-tail P b (before ++ x ∷ rest) (All-same P (b ∷ (before ++ x ∷ rest)) xs is all))
