-- Parts of a line with what further tokens tell put behind them, one after another.
use Rattle.std.proofs.Common.{◌≡◌, ℕ, List, [], ◌∷◌, ◌++◌, map, refl, sym, ap, ◌∙◌}
use Rattle.std.proofs.lemmas.List.{append_assoc, map-append}
use Rattle.sfm_lines.specs.Parts.{LineParts}
use Rattle.sfm_lines.specs.CutParts.{with_groups, with_labelled}

-- one more at the end
pub map-one : {X Y : Type 0} (f : X → Y) (xs more : List X) (x : X) (y : Y) → more ≡ xs ++ x ∷ []
    → f x ≡ y → map f more ≡ map f xs ++ y ∷ []
map-one f xs more x y e is = rw (e, map-append f xs (x ∷ []), is) refl

append-none : {X : Type 0} (xs : List X) → xs ++ [] ≡ xs
append-none [] = refl
append-none (x ∷ xs) = ap (λ l. x ∷ l) (append-none xs)

-- behind others
behind : {X Y : Type 0} (f : X → Y) (front : List Y) (xs : List X) (x : X)
    → (front ++ map f xs) ++ f x ∷ [] ≡ front ++ map f (xs ++ x ∷ [])
behind f front xs x = append_assoc front (map f xs) (f x ∷ [])
    ∙ ap (λ l. front ++ l) (sym (map-append f xs (x ∷ [])))

module _ (old : LineParts) where
  pub no-groups : old ≡ with_groups old []
  no-groups = rw (append-none old.numbers, append-none old.groups) refl

  pub one-group : (now more : LineParts) (groups : List (List ℕ × List (List ℕ)))
      (group : List ℕ × List (List ℕ)) → now ≡ with_groups old groups
      → more ≡ with_groups now (group ∷ []) → more ≡ with_groups old (groups ++ group ∷ [])
  one-group now more groups group is one =
      one ∙ (ap (λ (p : LineParts). with_groups p (group ∷ [])) is
      ∙ rw (
        behind (λ (g : List ℕ × List (List ℕ)). g.0) old.numbers groups group,
        behind (λ (g : List ℕ × List (List ℕ)). g.1) old.groups groups group,
      ) refl)

  pub no-labelled : old ≡ with_labelled old []
  no-labelled = rw (append-none old.elements, append-none old.labels) refl

  pub one-labelled : (now more : LineParts) (entries : List (List ℕ × List (List ℕ)))
      (entry : List ℕ × List (List ℕ)) → now ≡ with_labelled old entries
      → more ≡ with_labelled now (entry ∷ []) → more ≡ with_labelled old (entries ++ entry ∷ [])
  one-labelled now more entries entry is one =
      one ∙ (ap (λ (p : LineParts). with_labelled p (entry ∷ [])) is
      ∙ rw (
        behind (λ (e : List ℕ × List (List ℕ)). e.0) old.elements entries entry,
        behind (λ (e : List ℕ × List (List ℕ)). e.1) old.labels entries entry,
      ) refl)
