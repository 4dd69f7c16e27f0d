use Rattle.std.proofs.Common.{◌≡◌, [], ◌∷◌, ℤ, arith}
use Rattle.std.proofs.lemmas.Int.{ints}
use Rattle.sfm_demo.specs.DemoText.{set_values}
use Rattle.sfm_demo.proofs.lines.table_values.Goals as goal

same_eight : (a b c d e f g h a' b' c' d' e' f' g' h' : ℤ) → a ≡ a' → b ≡ b' → c ≡ c' → d ≡ d'
    → e ≡ e' → f ≡ f' → g ≡ g' → h ≡ h'
    → a ∷ b ∷ c ∷ d ∷ e ∷ f ∷ g ∷ h ∷ [] ≡ a' ∷ b' ∷ c' ∷ d' ∷ e' ∷ f' ∷ g' ∷ h' ∷ []
same_eight a b c d e f g h a' b' c' d' e' f' g' h' p q r s t u v w = cc

pub returns : goal.returns
unfolding set_values
returns c = same_eight _ _ _ _ _ _ _ _ _ _ _ _ _ _ _ _ (omega (arith, ints)) (omega (arith, ints))
    (omega (arith, ints)) (omega (arith, ints)) (omega (arith, ints)) (omega (arith, ints))
    (omega (arith, ints)) (omega (arith, ints))
