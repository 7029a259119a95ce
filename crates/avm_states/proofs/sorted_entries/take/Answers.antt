use Rattle.std.proofs.Common.{◌≡◌, ◌∙◌, ℕ, ◌<◌, ◌≤◌, List, length, Some, sym, ap, subst, arith}
use Rattle.std.specs.List.{remove}
use Rattle.std.specs.Map.{keys_of}
use Rattle.std.specs.List.Sorted.{IsStrictlySortedBy}
use Rattle.std.proofs.lemmas.List.Edits.{length-remove}
use Rattle.avm_states.proofs.Places.{stands_in, would_go_in}
use Rattle.avm_states.proofs.sorted_entries.take.Goals as goal

no_longer : {X : Type 0} (es fs : List X) (i : ℕ) → fs ≡ remove es i → i < length es → length fs ≤ length es
no_longer es fs i e within = omega (arith, ap length e, length-remove es i within)

no_more : (n : ℕ) → n ≤ n
no_more n = omega arith

pub place_of-requires : goal.place_of-requires
place_of-requires g c = record { order = subst (λ es. IsStrictlySortedBy g.K.Ord.cmp (keys_of es)) (sym c.deref.ensures.value) c.requires.order }

pub remove-requires : goal.remove-requires
remove-requires g c = subst (λ n. c.in-Ok.place < n) c.deref.ensures.len c.in-Ok.ensures.within

pub returns-in-Ok-clause-value : goal.returns-in-Ok-clause-value
returns-in-Ok-clause-value g c =
    ap (λ e. Some e.1) c.remove.ensures.value ∙ sym ((stands_in c.deref.ensures.value c.in-Ok.ensures).value c.remove.result)

pub returns-in-Ok-clause-rest : goal.returns-in-Ok-clause-rest
returns-in-Ok-clause-rest g c = c.remove.ensures.items ∙ sym (stands_in c.deref.ensures.value c.in-Ok.ensures).taken

pub returns-in-Ok-clause-len : goal.returns-in-Ok-clause-len
returns-in-Ok-clause-len g c = no_longer _ _ _ c.remove.ensures.items (stands_in c.deref.ensures.value c.in-Ok.ensures).within

pub returns-in-Err-clause-value : goal.returns-in-Err-clause-value
returns-in-Err-clause-value g c = sym (would_go_in c.deref.ensures.value c.in-Err.ensures).none

pub returns-in-Err-clause-rest : goal.returns-in-Err-clause-rest
returns-in-Err-clause-rest g c = sym (would_go_in c.deref.ensures.value c.in-Err.ensures).taken

pub returns-in-Err-clause-len : goal.returns-in-Err-clause-len
returns-in-Err-clause-len g c = no_more _
