-- A block has one verdict.
use Rattle.std.proofs.Common.{◌≡◌, ◌≢◌, ◌∙◌, ap, sym, subst, refl, ℕ, suc, ◌+◌, List, [], ◌∷◌, ◌++◌, length}
use Rattle.avm_ledger.specs.declared.header.Header.{Header}
use Rattle.avm_ledger.specs.Ledgers.{Ledger}
use Rattle.avm_call.specs.declared.outcome.Outcome.{Outcome}
use Rattle.avm_call.specs.Replay.{ledger_after, outcome_on, outcomes, replayed}
use Rattle.avm_block.specs.declared.entry.Entry.{Entry}
use Rattle.avm_block.specs.Blocks.{calls_in, outcomes_in}
use Rattle.avm_replay.specs.declared.verdict.Verdict.TheVariants as verdict
use Rattle.avm_replay.proofs.Entries.{heads, tails}
use Rattle.avm_replay.specs.Verdicts.{IsFirstWrong, OneVerdict}

-- what stands at the seam of two parts of all entries ends as it says, where all do
right_at_seam : (l : Ledger) (h : Header) (before : List Entry) (e : Entry) (behind : List Entry)
    → outcomes l h (calls_in (before ++ e ∷ behind)) ≡ outcomes_in (before ++ e ∷ behind) → outcome_on (replayed l h (calls_in before)) e.call h ≡ e.outcome
right_at_seam l h [] e behind agree = heads agree
right_at_seam l h (b ∷ bs) e behind agree = right_at_seam (ledger_after l b.call h) h bs e behind (tails agree)

not_all_agree : (l : Ledger) (h : Header) (es : List Entry) (n : ℕ) (found : Outcome) → IsFirstWrong l h es n found → outcomes l h (calls_in es) ≡ outcomes_in es → ⊥
not_all_agree l h es n found w agree = w.differs (w.ends ∙ right_at_seam l h w.before w.entry w.behind (rw w.parts at agree))

-- entries of which one part agrees, and the next one is wrong
first_is_one : (l : Ledger) (h : Header) (a : List Entry) (e : Entry) (x : List Entry) (b : List Entry) (f : Entry) (y : List Entry) → a ++ e ∷ x ≡ b ++ f ∷ y
    → outcomes l h (calls_in a) ≡ outcomes_in a → outcomes l h (calls_in b) ≡ outcomes_in b
    → outcome_on (replayed l h (calls_in a)) e.call h ≢ e.outcome → outcome_on (replayed l h (calls_in b)) f.call h ≢ f.outcome
    → (length a ≡ length b) × (outcome_on (replayed l h (calls_in a)) e.call h ≡ outcome_on (replayed l h (calls_in b)) f.call h)
first_is_one l h [] e x [] f y same agree_a agree_b wrong_a wrong_b = (refl, ap (λ (z : Entry). outcome_on l z.call h) (heads same))
first_is_one l h [] e x (b ∷ bs) f y same agree_a agree_b wrong_a wrong_b =
    absurd (wrong_a (subst (λ (z : Entry). outcome_on l z.call h ≡ z.outcome) (sym (heads same)) (heads agree_b)))
first_is_one l h (a ∷ later) e x [] f y same agree_a agree_b wrong_a wrong_b =
    absurd (wrong_b (subst (λ (z : Entry). outcome_on l z.call h ≡ z.outcome) (heads same) (heads agree_a)))
first_is_one l h (a ∷ later) e x (b ∷ bs) f y same agree_a agree_b wrong_a wrong_b =
    let is : b ≡ a = sym (heads same) in
    let agree_bs = subst (λ (z : Entry). outcomes (ledger_after l z.call h) h (calls_in bs) ≡ outcomes_in bs) is (tails agree_b) in
    let wrong_bs = subst (λ (z : Entry). outcome_on (replayed (ledger_after l z.call h) h (calls_in bs)) f.call h ≢ f.outcome) is wrong_b in
    let rest = first_is_one (ledger_after l a.call h) h later e x bs f y (tails same) (tails agree_a) agree_bs wrong_a wrong_bs in
    (ap (λ n. suc n) rest.0, rest.1 ∙ sym (ap (λ (z : Entry). outcome_on (replayed (ledger_after l z.call h) h (calls_in bs)) f.call h) is))

same_wrong : (l : Ledger) (h : Header) (es : List Entry) (n m : ℕ) (found other : Outcome) → IsFirstWrong l h es n found → IsFirstWrong l h es m other → (n ≡ m) × (found ≡ other)
same_wrong l h es n m found other v w =
    let one = first_is_one l h v.before v.entry v.behind w.before w.entry w.behind (sym v.parts ∙ w.parts) v.agree w.agree
    (λ e. v.differs (v.ends ∙ e)) (λ e. w.differs (w.ends ∙ e)) in
    (v.numbered ∙ ap (λ k. k + 1) one.0 ∙ sym w.numbered, v.ends ∙ one.1 ∙ sym w.ends)

pub one_verdict : OneVerdict
one_verdict l b (verdict.Agrees x) (verdict.Agrees y) v w = ap verdict.Agrees (v.1 ∙ sym w.1)
one_verdict l b (verdict.Agrees x) verdict.WrongBase v w = absurd (w v.0.base)
one_verdict l b (verdict.Agrees x) (verdict.WrongOutcome n f) v w = absurd (not_all_agree l b.header b.entries n f w.1 v.0.outcomes)
one_verdict l b (verdict.Agrees x) verdict.WrongState v w = absurd (w.2 v.0.after)
one_verdict l b verdict.WrongBase (verdict.Agrees y) v w = absurd (v w.0.base)
one_verdict l b verdict.WrongBase verdict.WrongBase v w = refl
one_verdict l b verdict.WrongBase (verdict.WrongOutcome n f) v w = absurd (v w.0)
one_verdict l b verdict.WrongBase verdict.WrongState v w = absurd (v w.0)
one_verdict l b (verdict.WrongOutcome n f) (verdict.Agrees y) v w = absurd (not_all_agree l b.header b.entries n f v.1 w.0.outcomes)
one_verdict l b (verdict.WrongOutcome n f) verdict.WrongBase v w = absurd (w v.0)
one_verdict l b (verdict.WrongOutcome n f) (verdict.WrongOutcome m g) v w = let same = same_wrong l b.header b.entries n m f g v.1 w.1 in (λ i. verdict.WrongOutcome (same.0 i) (same.1 i))
one_verdict l b (verdict.WrongOutcome n f) verdict.WrongState v w = absurd (not_all_agree l b.header b.entries n f v.1 w.1)
one_verdict l b verdict.WrongState (verdict.Agrees y) v w = absurd (v.2 w.0.after)
one_verdict l b verdict.WrongState verdict.WrongBase v w = absurd (w v.0)
one_verdict l b verdict.WrongState (verdict.WrongOutcome n f) v w = absurd (not_all_agree l b.header b.entries n f w.1 v.1)
one_verdict l b verdict.WrongState verdict.WrongState v w = refl
