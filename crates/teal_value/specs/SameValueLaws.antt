-- That the test of values answers true exactly where they are equal.
use Rattle.std.proofs.Common.{◌≡◌, Bool, true, false, refl, sym, ap}
use Rattle.std.specs.Bool.{Decides}
use Rattle.std.specs.Cmp.{IsEquivalence}
use Rattle.std.proofs.lemmas.Bool.Decides.{Decides-eqb}
use Rattle.std.proofs.lemmas.Slice.Eq.{bytes_eq-Decides}
use Rattle.teal_value.specs.declared.value.Value.{Value}
use Rattle.teal_value.specs.declared.value.Value.TheVariants.{Uint, Bytes}
use Rattle.teal_value.specs.SameValues.{is_same}

pub is_same-Decides : (v w : Value) → Decides (is_same v w) (v ≡ w)
is_same-Decides (Uint a) (Uint b) = let d = Decides-eqb a b in (λ e. ap Uint (d.0 e), λ e. d.1 (cc))
is_same-Decides (Bytes a) (Bytes b) = let d = bytes_eq-Decides a b in (λ e. ap Bytes (d.0 e), λ e. d.1 (cc))
is_same-Decides (Uint a) (Bytes b) = (λ e. absurd cc, λ e. absurd cc)
is_same-Decides (Bytes a) (Uint b) = (λ e. absurd cc, λ e. absurd cc)

alike : (a b : Bool) → (a ≡ true → b ≡ true) → (b ≡ true → a ≡ true) → a ≡ b
alike true b f g = sym (f refl)
alike false true f g = g refl
alike false false f g = refl

turned : (v w : Value) → is_same v w ≡ true → is_same w v ≡ true
turned v w e = (is_same-Decides w v).1 (sym ((is_same-Decides v w).0 e))

pub is_same_equiv : IsEquivalence is_same
is_same_equiv = record {
  refl = λ v. (is_same-Decides v v).1 refl;
  symm = λ v w. alike (is_same v w) (is_same w v) (turned v w) (turned w v);
  congr = λ v w u e. ap (λ x. is_same x u) ((is_same-Decides v w).0 e);
}
