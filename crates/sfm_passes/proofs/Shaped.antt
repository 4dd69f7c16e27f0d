-- Tokens that a pass cuts at the first separator among them.
use Rattle.std.proofs.Common.{◌≡◌, ◌≢◌, inl, ℕ, suc, List, [], ◌∷◌, ◌++◌, codes, sym, ap, subst, ◌∙◌, arith}
use Rattle.std.specs.List.{Any}
use Rattle.sfm_lines.specs.Parts.{IsSeparator, HaveNoSeparator, IsCutAtColon}
use Rattle.sfm_lines.proofs.Colons.{none-any}

unmarked-tail : (token : List ℕ) (tokens : List (List ℕ)) → HaveNoSeparator (token ∷ tokens)
    → HaveNoSeparator tokens
unmarked-tail token tokens h = λ k d lt. h (suc k) d (omega arith)

-- tokens are cut at the first separator, where that is a colon
first-mark : (mark : List ℕ) (before rest before' rest' : List (List ℕ)) → HaveNoSeparator before
    → HaveNoSeparator before' → IsSeparator mark
    → before ++ mark ∷ rest ≡ before' ++ codes ":" ∷ rest' → (mark ≡ codes ":") × (rest ≡ rest')
first-mark mark [] rest [] rest' u v m e = (cc, cc)
first-mark mark [] rest (token ∷ before') rest' u v m e =
    let same : mark ≡ token = cc in
    absurd (v 0 token (omega arith) (subst (λ (t : List ℕ). IsSeparator t) same m))
first-mark mark (token ∷ before) rest [] rest' u v m e =
    let same : token ≡ codes ":" = cc in
    absurd (u 0 token (omega arith) (inl same))
first-mark mark (token ∷ before) rest (token' ∷ before') rest' u v m e =
    let more : before ++ mark ∷ rest ≡ before' ++ codes ":" ∷ rest' = cc in
    first-mark mark before rest before' rest' (unmarked-tail token before u)
    (unmarked-tail token' before' v) m more

module _ (mark : List ℕ) (tokens front rest : List (List ℕ)) (is : tokens ≡ front ++ mark ∷ rest)
    (unmarked : HaveNoSeparator front) (m : IsSeparator mark) where
  cut-here : (before behind : List (List ℕ)) → IsCutAtColon tokens before behind
      → (mark ≡ codes ":") × (rest ≡ behind)
  cut-here before behind h = first-mark mark front rest before behind unmarked h.unmarked_before m
      (sym is ∙ h.cut)

  -- the first separator is no colon
  pub other-mark : (mark ≢ codes ":") → (before behind : List (List ℕ))
      → IsCutAtColon tokens before behind → ⊥
  other-mark other before behind h = other (cut-here before behind h).0

  -- there is another separator behind it
  pub mark-behind : Any IsSeparator rest → (before behind : List (List ℕ))
      → IsCutAtColon tokens before behind → ⊥
  mark-behind any before behind h =
      none-any IsSeparator behind h.unmarked_behind (rw ((cut-here before behind h).1) at any)

-- the one colon
pub colon-is : (mark : List ℕ) (tokens front rest : List (List ℕ)) → tokens ≡ front ++ mark ∷ rest
    → mark ≡ codes ":" → HaveNoSeparator front → HaveNoSeparator rest
    → IsCutAtColon tokens front rest
colon-is mark tokens front rest is colon unmarked behind = record {
  cut = is ∙ ap (λ (t : List ℕ). front ++ t ∷ rest) colon;
  unmarked_before = unmarked;
  unmarked_behind = behind;
}
