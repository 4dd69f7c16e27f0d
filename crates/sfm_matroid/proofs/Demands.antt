-- Demands that are put one after another.
use Rattle.std.proofs.Common.{◌≡◌, ℕ, ◌+◌, ◌<◌, List, [], ◌∷◌, ◌++◌, length, take, get_or, ℤ, refl, sym, ap, ◌∙◌}
use Rattle.std.proofs.lemmas.Grind.{take_at_read}
use Rattle.sfm_assign.specs.Splits.{Demands}

-- a demand more
pub demands-push : (x demands : List ℤ) (e : ℕ) (d : ℤ) → e < length x → demands ≡ take e x
    → demands ++ get_or x e d ∷ [] ≡ take (e + 1) x
demands-push x demands e d lt inv = ap (λ ds. ds ++ get_or x e d ∷ []) inv
    ∙ sym (take_at_read x e d lt).1

-- demands by their three parts
pub same_demands : (d : Demands) (demands : List ℤ) (lists : List (List ℕ)) (capacities : List ℤ)
    → d.demands ≡ demands → d.lists ≡ lists → d.capacities ≡ capacities
    → d ≡ record { demands = demands; lists = lists; capacities = capacities }
same_demands d demands lists capacities a b k = rw (sym a, sym b, sym k) refl
