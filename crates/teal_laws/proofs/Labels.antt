-- The labels of a listing differ, and each is found where it stands.
use Rattle.std.proofs.Common.{◌≡◌, ◌∙◌, refl, sym, ap, ℕ, zero, suc, ◌+◌, ◌^◌, ◌<◌, ◌≤◌, true, false, List, drop, Some, inl, inr, arith}
use Rattle.std.specs.Prelude.{decimal, if◌then◌else◌}
use Rattle.std.specs.Str.{bytes_eq}
use Rattle.std.proofs.lemmas.Bool.{cases_lt}
use Rattle.std.proofs.lemmas.Slice.Eq.{bytes_eq-Decides}
use Rattle.teal_code.specs.Limits.{most_program_bytes}
use Rattle.teal_text.specs.Numbers.{number_of}
use Rattle.teal_text.proofs.ReadBack.{decimal_back}
use Rattle.teal_check.specs.declared.program.PlacedInstr.{PlacedInstr}
use Rattle.teal_dis.specs.Listing.{is_target, targets_before, label_of}
use Rattle.teal_laws.proofs.PlainListing.{few_targets}

-- a target has fewer targets before it than any instruction behind it
pub more_targets : (placed : List PlacedInstr) (m n : ℕ) → m < n → is_target placed m ≡ true → targets_before placed m < targets_before placed n
unfolding targets_before
more_targets placed m zero lt t = absurd (omega arith)
more_targets placed m (suc n) lt t =
    elim (cases_lt m n) [
      | inl less ↦
          let earlier = more_targets placed m n less t in
          elim (is_target placed n) as (λ b. targets_before placed m < targets_before placed n + (if b then 1 else 0)) [ true ↦ omega (arith, earlier) | false ↦ omega (arith, earlier) ]
      | inr le ↦
          let same : m ≡ n = omega arith in
          let here : is_target placed n ≡ true = ap (is_target placed) (sym same) ∙ t in
          rw (here, same) (omega arith)
    ]

same_decimal : (m n : ℕ) → m < 2 ^ 64 → n < 2 ^ 64 → decimal m ≡ decimal n → m ≡ n
same_decimal m n small few e =
    let both : Some m ≡ Some n = sym (decimal_back m small) ∙ ap number_of e ∙ decimal_back n few in
    cc

pub bytes_same : (a : List ℕ) → bytes_eq a a ≡ true
bytes_same a = (bytes_eq-Decides a a).1 refl

-- the label of a target is not that of an instruction behind it
pub labels_differ : (placed : List PlacedInstr) (m n : ℕ) → m < n → n ≤ most_program_bytes → is_target placed m ≡ true → bytes_eq (label_of placed n) (label_of placed m) ≡ false
labels_differ placed m n lt le t =
    elim (bytes_eq (label_of placed n) (label_of placed m)) as (λ x. bytes_eq (label_of placed n) (label_of placed m) ≡ x → x ≡ false) [
      | true ↦ λ e.
          let words : label_of placed n ≡ label_of placed m = (bytes_eq-Decides (label_of placed n) (label_of placed m)).0 e in
          let digits : decimal (targets_before placed n + 1) ≡ decimal (targets_before placed m + 1) = ap (drop 5) words in
          let numbers = same_decimal (targets_before placed n + 1) (targets_before placed m + 1) (omega (arith, few_targets placed n, le)) (omega (arith, few_targets placed m, lt, le)) digits in
          absurd (omega (arith, numbers, more_targets placed m n lt t))
      | false ↦ λ e. refl
    ] refl
