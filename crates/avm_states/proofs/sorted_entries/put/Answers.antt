use Rattle.std.proofs.Common.{◌≡◌, ◌∙◌, ℕ, ◌+◌, ◌<◌, List, length, get_or, set, Some, Result, Ok, Err, sym, ap, subst, arith}
use Rattle.std.specs.Result.{IfErr}
use Rattle.std.specs.Map.{keys_of, lookup}
use Rattle.std.specs.BTreeMap.{insert_entry, is_at}
use Rattle.std.specs.List.Sorted.{IsStrictlySortedBy}
use Rattle.std.specs.declared.cmp.Ordering.{Ordering}
use Rattle.std.proofs.lemmas.List.{length-set}
use Rattle.std.proofs.lemmas.List.Edits.{length-insert}
use Rattle.std.proofs.lemmas.Result.{IfOk-from_err}
use Rattle.avm_states.specs.Places.{StandsAt}
use Rattle.avm_states.proofs.Places.{stands_in, would_go_in}
use Rattle.avm_states.proofs.sorted_entries.put.Goals as goal

-- what holds, holds where there is an error too
if_err : {A E : Type 0} (r : Result A E) (P : Type 0) → P → IfErr r (λ _. P)
if_err (Ok _) P p = tt
if_err (Err _) P p = p

as_many : (n : ℕ) → n ≡ n + 0
as_many n = omega arith

module _ {K X : Type 0} {R : K → K → Ordering} {k : K} {es : List (K × X)} {place : ℕ} (here : StandsAt R k es place) (e : K × X) (read : e ≡ get_or es place e) where
  old_value : (v : X) → v ≡ e.1 → Some v ≡ lookup (is_at (R k)) es
  old_value v is = ap Some is ∙ ap (λ d. Some d.1) read ∙ sym (here.value e)

  new_entries : (v w : X) → w ≡ v → set es place (e.0, w) ≡ insert_entry R es k v
  new_entries v w is = ap (λ x. set es place (e.0, x)) is ∙ ap (λ d. set es place (d.0, v)) read ∙ sym (here.set e v)

pub place_of-requires : goal.place_of-requires
place_of-requires g c = record { order = subst (λ es. IsStrictlySortedBy g.K.Ord.cmp (keys_of es)) (sym c.deref.ensures.value) c.requires.order }

pub index_mut-requires : goal.index_mut-requires
index_mut-requires g c = subst (λ n. c.in-Ok.place < n) c.deref.ensures.len c.in-Ok.ensures.within

pub add-requires : goal.add-requires
add-requires g c = (would_go_in c.deref.ensures.value c.in-Err.ensures).within

pub returns-in_err-add-in-Err-clause-old : goal.returns-in_err-add-in-Err-clause-old
returns-in_err-add-in-Err-clause-old g c = IfOk-from_err _ _ c.from_residual.ensures.0

pub returns-in_err-add-in-Err-clause-set : goal.returns-in_err-add-in-Err-clause-set
returns-in_err-add-in-Err-clause-set g c = IfOk-from_err _ _ c.from_residual.ensures.0

pub returns-in_err-add-in-Err-clause-len : goal.returns-in_err-add-in-Err-clause-len
returns-in_err-add-in-Err-clause-len g c = IfOk-from_err _ _ c.from_residual.ensures.0

pub returns-in_err-add-in-Err-clause-unchanged : goal.returns-in_err-add-in-Err-clause-unchanged
returns-in_err-add-in-Err-clause-unchanged g c = if_err _ _ c.in_err-add-in-Err.ensures

pub returns-in_err-add-in-Err-clause-only_new : goal.returns-in_err-add-in-Err-clause-only_new
returns-in_err-add-in-Err-clause-only_new g c = if_err _ _ (would_go_in c.deref.ensures.value c.in-Err.ensures).none

pub returns-in-Ok-clause-old : goal.returns-in-Ok-clause-old
returns-in-Ok-clause-old g c = old_value (stands_in c.deref.ensures.value c.in-Ok.ensures) _ c.index_mut.ensures.value _ c.replace.ensures.value

pub returns-in-Ok-clause-set : goal.returns-in-Ok-clause-set
returns-in-Ok-clause-set g c = new_entries (stands_in c.deref.ensures.value c.in-Ok.ensures) _ c.index_mut.ensures.value _ _ c.replace.ensures.after

pub returns-in-Ok-clause-len : goal.returns-in-Ok-clause-len
returns-in-Ok-clause-len g c = length-set _ _ _ ∙ as_many _

pub returns-in_ok-add-in-Err-clause-old : goal.returns-in_ok-add-in-Err-clause-old
returns-in_ok-add-in-Err-clause-old g c = sym (would_go_in c.deref.ensures.value c.in-Err.ensures).none

pub returns-in_ok-add-in-Err-clause-set : goal.returns-in_ok-add-in-Err-clause-set
returns-in_ok-add-in-Err-clause-set g c = c.in_ok-add-in-Err.ensures ∙ sym ((would_go_in c.deref.ensures.value c.in-Err.ensures).set c.args.value)

pub returns-in_ok-add-in-Err-clause-len : goal.returns-in_ok-add-in-Err-clause-len
returns-in_ok-add-in-Err-clause-len g c =
    ap length c.in_ok-add-in-Err.ensures ∙ length-insert _ _ _ (would_go_in c.deref.ensures.value c.in-Err.ensures).within
