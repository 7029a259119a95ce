-- Reading each of a list, from left to right.
use Rattle.std.proofs.Common.{◌≡◌, ℕ, ◌+◌, ◌<◌, List, [], ◌∷◌, ◌++◌, length, drop, get_or, map, Ok, Err, refl, sym, ap, ◌∙◌}
use Rattle.std.proofs.lemmas.List.{drop_more}
use Rattle.teal_value.specs.declared.failure.Failure.{Failure}
use Rattle.teal_value.specs.declared.failure.Failure.TheVariants as failure
use Rattle.teal_value.specs.Answer.{◌>>=◌, Fails}
use Rattle.teal_value.proofs.Fronts.{with_front, none_in_front, with_front-cons, with_front-nil}
use Rattle.teal_source.specs.declared.fault.AsmFaultKind.{AsmFaultKind}
use Rattle.teal_source.specs.Commands.{Asked, each}

-- the values so far and those of the rest are those that are meant
pub record EachOn {A B : Type 0} (f : A → Asked B) (so_far : List B) (rest : List A) (meant : Asked (List B)) : Type 0 where
  pub same : with_front so_far (each f rest) ≡ meant

pub begins : {A B : Type 0} (f : A → Asked B) (now : List B) (rest all : List A) → now ≡ [] → rest ≡ all → EachOn f now rest (each f all)
begins f now rest all e is = rw (e, is) (record { same = none_in_front _ })

step : {A B : Type 0} (f : A → Asked B) (x : A) (rest : List A) (r : Asked B) → f x ≡ r → each f (x ∷ rest) ≡ (r >>= λ y. each f rest >>= λ ys. Ok (y ∷ ys))
step f x rest r e = rw e refl

pub goes_on : {A B : Type 0} (f : A → Asked B) (so_far now : List B) (rest next : List A) (x : A) (y : B) (meant : Asked (List B)) → EachOn f so_far rest meant → rest ≡ x ∷ next → f x ≡ Ok y → now ≡ so_far ++ y ∷ [] → EachOn f now next meant
goes_on f so_far now rest next x y meant r is e pushed = record {
  same = rw pushed (sym (with_front-cons so_far y (each f next)) ∙ sym (ap (with_front so_far) (step f x next (Ok y) e)) ∙ sym (ap (λ xs. with_front so_far (each f xs)) is) ∙ r.same);
}

pub stops : {A B : Type 0} (f : A → Asked B) (so_far : List B) (rest next : List A) (x : A) (d : Failure AsmFaultKind) (meant : Asked (List B)) → EachOn f so_far rest meant → rest ≡ x ∷ next → Fails d (f x) → Fails d meant
stops f so_far rest next x failure.Memory meant r is e = tt
stops f so_far rest next x (failure.Fault k) meant r is e =
    sym r.same ∙ ap (λ xs. with_front so_far (each f xs)) is ∙ ap (with_front so_far) (step f x next (Err k) e)

pub is_done : {A B : Type 0} (f : A → Asked B) (so_far : List B) (rest : List A) (meant : Asked (List B)) → EachOn f so_far rest meant → rest ≡ [] → meant ≡ Ok so_far
is_done f so_far rest meant r e = sym r.same ∙ ap (λ xs. with_front so_far (each f xs)) e ∙ with_front-nil so_far _ refl

-- the images of what is left begin with the next one's
pub map-drop : {A B : Type 0} (g : A → B) (xs : List A) (i : ℕ) (x : A) → i < length xs → x ≡ get_or xs i x → map g (drop i xs) ≡ g x ∷ map g (drop (i + 1) xs)
map-drop g xs i x lt at = ap (map g) (drop_more xs i x lt) ∙ ap (λ y. g y ∷ map g (drop (i + 1) xs)) (sym at)
