use Rattle.std.proofs.Common.{◌≡◌, ◌∙◌, ℕ, ◌+◌, ◌<◌, List, [], ◌∷◌, ◌++◌, length, set, take, ap, sym, arith}
use Rattle.std.specs.List.{refill}
use Rattle.std.proofs.lemmas.List.{length-set, length_push, take_all, take_more_set}
use Rattle.avm_cpu.proofs.Tops.{refilled}
use Rattle.avm_cpu.proofs.constants.write_at.Goals as goal

-- a list whose slice was written to and is written back
written_back : {A : Type 0} (xs ys : List A) (n i : ℕ) (x : A) → ys ≡ xs → n ≡ length xs → refill n xs (set ys i x) ≡ set xs i x
written_back xs ys n i x same long =
    ap (λ zs. refill n xs (set zs i x)) same ∙ ap (λ m. refill m xs (set xs i x)) long ∙ refilled xs (set xs i x) (length-set xs i x)

-- an item behind the last
behind : {A : Type 0} (xs : List A) (i : ℕ) (x : A) → length xs ≡ i → take (i + 1) (xs ++ x ∷ []) ≡ take i xs ++ x ∷ []
behind xs i x is =
    take_all (i + 1) (xs ++ x ∷ []) (omega (arith, length_push xs x)) ∙ ap (λ ys. ys ++ x ∷ []) (sym (take_all i xs (omega arith)))

pub returns-in_ok-rewrite-clause-written : goal.returns-in_ok-rewrite-clause-written
returns-in_ok-rewrite-clause-written c =
    let items = c.args.list.now.items in
    let place = c.args.place in
    let within : place < length items = omega arith in
    ap (take (place + 1)) (written_back items c.as_mut_slice.result.now c.args.list.now.len place c.rewrite.new.self c.as_mut_slice.ensures.value c.args.list.now.ok.0)
    ∙ take_more_set items place c.rewrite.new.self within
    ∙ ap (λ s. take place items ++ s ∷ []) (c.in_ok-rewrite.ensures ∙ c.as_slice.ensures)

pub returns-in_ok-rewrite-clause-there : goal.returns-in_ok-rewrite-clause-there
returns-in_ok-rewrite-clause-there c =
    let items = c.args.list.now.items in
    let same = ap length (written_back items c.as_mut_slice.result.now c.args.list.now.len c.args.place c.rewrite.new.self c.as_mut_slice.ensures.value c.args.list.now.ok.0) ∙ length-set items c.args.place c.rewrite.new.self in
    omega arith

pub returns-in_ok-push-clause-written : goal.returns-in_ok-push-clause-written
returns-in_ok-push-clause-written c =
    let items = c.args.list.now.items in
    let place = c.args.place in
    ap (take (place + 1)) c.in_ok-push.ensures.items
    ∙ behind items place c.in_ok-clone.field-0 (omega arith)
    ∙ ap (λ s. take place items ++ s ∷ []) c.in_ok-clone.ensures

pub returns-in_ok-push-clause-there : goal.returns-in_ok-push-clause-there
returns-in_ok-push-clause-there c =
    let long = ap length c.in_ok-push.ensures.items ∙ length_push c.args.list.now.items c.in_ok-clone.field-0 in
    omega arith
