-- Paths as JSON pointers.
use Rattle.std.proofs.Common.{◌≡◌, ℕ, zero, suc, ◌+◌, ◌%◌, ◌/◌, ◌<◌, Bool, true, false, cond, ltb, leb, eqb, ◌&&◌, ◌||◌, List, [], ◌∷◌, ◌++◌, Option, Some, None, Err, refl, sym, ap, subst, ◌∙◌, arith}
use Rattle.std.specs.Prelude.{codes, decimal, option_and_then}
use Rattle.std.specs.Fmt.{digit_glyph, digits, digits_onto}
use Rattle.std.specs.List.{flat_map, list_all}
use Rattle.std.proofs.lemmas.Bool.{and_from, cond-true, le-leb, lt-ltb, or_left, or_right}
use Rattle.std.proofs.lemmas.List.{append-nil}
use Rattle.std.proofs.lemmas.List.Concat.{flat_map-append}
use Rattle.std.proofs.lemmas.List.Folds.{list_all-append}
use Rattle.json.specs.Json.{Json, null, boolean, number, string, array, object}
use Rattle.json.specs.Find.{get, is_null}
use Rattle.json_documents.specs.Steps.{Step, at_index, at_name, step_text}
use Rattle.json_documents.specs.declared.document_fault.DocumentFault.TheVariants as what
use Rattle.json_documents.specs.Faults.{Fault, here}
use Rattle.json_documents.specs.Members.{unless_null}
use Rattle.json_documents.specs.Reading.{on_value, value_of_text}
use Rattle.json_laws.specs.Paths.{Enters, Follow, PathsAreShown, PointersLead, TokensArePlain, TokensOfTextsArePlain, behind, is_plain, pointer_tokens, value_at}
use Rattle.json_laws.proofs.PathSteps.{ArePlain, IsPlain}
use Rattle.json_laws.proofs.PathDocuments.{document_located}

-- ---- the text

pub paths_are_shown : PathsAreShown
paths_are_shown [] = refl
paths_are_shown (s ∷ ss) =
    ap (λ t. t ++ (codes "/" ++ step_text s)) (paths_are_shown ss)
    ∙ ap (λ t. codes "#" ++ t) (sym (flat_map-append (λ t. codes "/" ++ t) (pointer_tokens ss) (step_text s ∷ []) ∙ ap (λ t. flat_map (λ t. codes "/" ++ t) (pointer_tokens ss) ++ t) (append-nil (codes "/" ++ step_text s))))

-- ---- its tokens

digit_plain : (d : ℕ) → d < 10 → is_plain (48 + d) ≡ true
digit_plain d h = or_left (leb 97 (48 + d) && leb (48 + d) 122 || leb 48 (48 + d) && leb (48 + d) 57) (eqb (48 + d) 45) (or_right (leb 97 (48 + d) && leb (48 + d) 122) (leb 48 (48 + d) && leb (48 + d) 57) (and_from (leb 48 (48 + d)) (leb (48 + d) 57) (le-leb 48 (48 + d) (omega arith)) (le-leb (48 + d) 57 (omega arith))))

glyph_plain : (d : ℕ) → d < 10 → is_plain (digit_glyph false d) ≡ true
glyph_plain d h = ap is_plain (cond-true (ltb d 10) (48 + d) (87 + d) (lt-ltb d 10 h)) ∙ digit_plain d h

digits_if : (last : Bool) (shorter longer : List ℕ) → list_all is_plain shorter ≡ true → list_all is_plain longer ≡ true → list_all is_plain (cond last shorter longer) ≡ true
digits_if true shorter longer s l = s
digits_if false shorter longer s l = l

digits_plain : (k n : ℕ) (so_far : List ℕ) → list_all is_plain so_far ≡ true → list_all is_plain (digits_onto k 10 false n so_far) ≡ true
digits_plain zero n so_far h = h
digits_plain (suc k) n so_far h =
    let more : list_all is_plain (digit_glyph false (n % 10) ∷ so_far) ≡ true = and_from (is_plain (digit_glyph false (n % 10))) (list_all is_plain so_far) (glyph_plain (n % 10) (omega arith)) h in
    digits_if (eqb (n / 10) 0) (digit_glyph false (n % 10) ∷ so_far) (digits_onto k 10 false (n / 10) (digit_glyph false (n % 10) ∷ so_far)) more (digits_plain k (n / 10) (digit_glyph false (n % 10) ∷ so_far) more)

index_plain : (i : ℕ) → list_all is_plain (decimal i) ≡ true
unfolding digits
index_plain i = digits_plain 64 i [] refl

step_plain : (s : Step) → IsPlain s → list_all is_plain (step_text s) ≡ true
step_plain (at_name name) h = h
step_plain (at_index i) h = index_plain i

tokens_plain : (path : List Step) → ArePlain path → list_all (list_all is_plain) (pointer_tokens path) ≡ true
tokens_plain [] h = refl
tokens_plain (s ∷ ss) h = list_all-append (list_all is_plain) (pointer_tokens ss) (step_text s ∷ []) ∙ and_from _ _ (tokens_plain ss h.1) (and_from _ _ (step_plain s h.0) refl)

pub tokens_are_plain : TokensArePlain
tokens_are_plain j f e = tokens_plain f.path (document_located j f e).1

text_plain : (o : Option Json) (f : Fault) → on_value o ≡ Err f → list_all (list_all is_plain) (pointer_tokens f.path) ≡ true
text_plain None f e = let same : here what.Syntax ≡ f = cc in subst (λ (f : Fault). list_all (list_all is_plain) (pointer_tokens f.path) ≡ true) same refl
text_plain (Some j) f e = tokens_are_plain j f e

pub tokens_of_texts_are_plain : TokensOfTextsArePlain
tokens_of_texts_are_plain text f e = text_plain (value_of_text text) f e

-- ---- where they lead

follow_on : (ts : List (List ℕ)) (t : List ℕ) (j w v : Json) → Follow ts j w → Enters t w v → Follow (ts ++ t ∷ []) j v
follow_on [] t j w v same h = (v, subst (λ (x : Json). Enters t x v) (sym same) h, refl)
follow_on (u ∷ us) t j w v h on = (h.0, h.1, follow_on us t h.0 w v h.2 on)

not_null : (o : Option Json) (v : Json) → unless_null o ≡ Some v → o ≡ Some v
not_null None v e = absurd cc
not_null (Some j) v e = null_if (is_null j) e
  where
    null_if : (null : Bool) → cond null None (Some j) ≡ Some v → Some j ≡ Some v
    null_if true same = absurd cc
    null_if false same = same

enters : (s : Step) (w v : Json) → behind s w ≡ Some v → Enters (step_text s) w v
enters (at_name name) null v e = absurd cc
enters (at_name name) (boolean b) v e = absurd cc
enters (at_name name) (number n) v e = absurd cc
enters (at_name name) (string t) v e = absurd cc
enters (at_name name) (array js) v e = absurd cc
enters (at_name name) (object ms) v e = not_null (get name (object ms)) v e
enters (at_index i) null v e = absurd cc
enters (at_index i) (boolean b) v e = absurd cc
enters (at_index i) (number n) v e = absurd cc
enters (at_index i) (string t) v e = absurd cc
enters (at_index i) (object ms) v e = absurd cc
enters (at_index i) (array js) v e = (i, refl, e)

-- the last step, from where the others lead
last_step : (s : Step) (ts : List (List ℕ)) (j v : Json) (o : Option Json) → ((w : Json) → o ≡ Some w → Follow ts j w) → option_and_then (behind s) o ≡ Some v → Follow (ts ++ step_text s ∷ []) j v
last_step s ts j v None before e = absurd cc
last_step s ts j v (Some w) before e = follow_on ts (step_text s) j w v (before w refl) (enters s w v e)

pub pointers_lead : PointersLead
pointers_lead [] j v e = cc
pointers_lead (s ∷ ss) j v e = last_step s (pointer_tokens ss) j v (value_at ss j) (pointers_lead ss j) e
