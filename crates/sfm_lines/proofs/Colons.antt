-- Tokens that are cut at their one colon alone.
use Rattle.std.proofs.Common.{◌≡◌, ◌≢◌, ℕ, ◌+◌, ◌-◌, ◌<◌, List, [], ◌∷◌, ◌++◌, length, get_or, slice_get, Some, take, drop, map, Bor, codes, refl, sym, ap, ◌∙◌, inl, add-one, arith}
use Prim.Native.Nat.{zero, suc}
use Rattle.std.specs.List.{All, Any}
use Rattle.std.proofs.lemmas.Option.{slice_get-get_or}
use Rattle.std.proofs.lemmas.List.{length-map, take-map, drop-map, take_rest}
use Rattle.sfm_lines.specs.Parts.{LineParts, IsSeparator, HaveNoSeparator, IsCutAtColon, IsColonLine}
use Rattle.sfm_lines.specs.Lines.{texts_of}
use Rattle.sfm_lines.specs.CutParts.{IsFirstColon}
use Rattle.sfm_lines.proofs.Cutting.{tail-none, front-same}
use Rattle.sfm_lines.proofs.Repeats.{text-at}

-- of all and of none
pub none-any : {X : Type 0} (P : X → Type 0) (xs : List X) → All (λ x. P x → ⊥) xs → Any P xs → ⊥
none-any P xs all (k, x, lt, e, p) = let no : P x → ⊥ = rw e at (all k x lt) in no p

-- a token that is no separator is no colon
pub no-colon : (tokens : List (List ℕ)) → HaveNoSeparator tokens
    → All (λ token. token ≢ codes ":") tokens
no-colon tokens all = λ k d lt e. all k d lt (inl e)

cut-suc : {X : Type 0} (b : X) (xs : List X) (place : ℕ) → slice_get xs place ≡ Some b
    → xs ≡ take place xs ++ b ∷ drop (suc place) xs
cut-suc b [] place e = cc
cut-suc b (x ∷ xs) zero e = let same : x ≡ b = cc in ap (λ c. c ∷ xs) same
cut-suc b (x ∷ xs) (suc place) e = ap (λ l. x ∷ l) (cut-suc b xs place e)

-- tokens are cut at a colon among them
pub colon-cut : (tokens : List (List ℕ)) (at : ℕ) → IsFirstColon tokens at
    → tokens ≡ take at tokens ++ codes ":" ∷ drop (at + 1) tokens
colon-cut tokens at first = rw (add-one at) (cut-suc (codes ":") tokens at first.here)

-- and in one way
pub colon-same : (tokens before behind before' behind' : List (List ℕ))
    → IsCutAtColon tokens before behind → IsCutAtColon tokens before' behind' → (before ≡ before')
    × (behind ≡ behind')
colon-same tokens before behind before' behind' h g =
    front-same (codes ":") before behind before' behind' (no-colon before h.unmarked_before)
    (no-colon before' g.unmarked_before) (sym h.cut ∙ g.cut)

-- the first colon is where they are cut
pub colon-first : (tokens : List (List ℕ)) (at : ℕ) (before behind : List (List ℕ))
    → IsFirstColon tokens at → IsCutAtColon tokens before behind → (take at tokens ≡ before)
    × (drop (at + 1) tokens ≡ behind)
colon-first tokens at before behind first h =
    front-same (codes ":") (take at tokens) (drop (at + 1) tokens) before behind first.none_before
    (no-colon before h.unmarked_before) (sym (colon-cut tokens at first) ∙ h.cut)

-- so tokens that are cut in other counts are those of no such line
pub other-counts : (AreCounts : ℕ → ℕ → Type 0) (tokens numbers elements : List (Bor (List ℕ)))
    → IsCutAtColon (texts_of tokens) (texts_of numbers) (texts_of elements)
    → (AreCounts (length numbers) (length elements) → ⊥)
    → (parts : LineParts) → IsColonLine AreCounts (texts_of tokens) parts → ⊥
other-counts AreCounts tokens numbers elements cut none parts h =
    let same = colon-same (texts_of tokens) h.0 h.1 (texts_of numbers) (texts_of elements) h.2
    cut in
    let n : length h.0 ≡ length numbers = ap length same.0
    ∙ length-map numbers (λ (t : Bor (List ℕ)). t.now) in
    let e : length h.1 ≡ length elements = ap length same.1
    ∙ length-map elements (λ (t : Bor (List ℕ)). t.now) in
    none (rw (n, e) at h.3)

-- tokens without a colon are not cut
pub colon-none : (tokens before behind : List (List ℕ)) → All (λ token. token ≢ codes ":") tokens
    → IsCutAtColon tokens before behind → ⊥
colon-none tokens before behind none h = none_in before behind (rw (h.cut) at none)
  where
    none_in : (before behind : List (List ℕ))
        → All (λ token. token ≢ codes ":") (before ++ codes ":" ∷ behind) → ⊥
    none_in [] behind none = none 0 [] (omega arith) refl
    none_in (token ∷ before) behind none =
        none_in before behind (tail-none (codes ":") token (before ++ codes ":" ∷ behind) none)

-- what a pass over tokens finds first
pub first-here : (tokens : List (Bor (List ℕ))) (i : ℕ) (d : Bor (List ℕ)) → i < length tokens
    → (get_or tokens i d).now ≡ codes ":"
    → All (λ token. token ≢ codes ":") (map (λ t. t.now) (take i tokens))
    → IsFirstColon (map (λ t. t.now) tokens) i
first-here tokens i d lt is none = record {
  here = slice_get-get_or (map (λ (t : Bor (List ℕ)). t.now) tokens) i []
      (omega (arith, lt, length-map tokens (λ (t : Bor (List ℕ)). t.now)))
      ∙ ap Some (text-at tokens i d lt ∙ is);
  none_before = rw (take-map (λ (t : Bor (List ℕ)). t.now) i tokens) none;
}

module _ (tokens : List (Bor (List ℕ))) (at : ℕ)
    (first : IsFirstColon (map (λ t. t.now) tokens) at) where
  front-is : map (λ t. t.now) (take at tokens) ≡ take at (map (λ t. t.now) tokens)
  front-is = sym (take-map (λ (t : Bor (List ℕ)). t.now) at tokens)

  back-is : map (λ t. t.now) (take (length tokens - (at + 1)) (drop (at + 1) tokens)) ≡ drop
      (at + 1) (map (λ t. t.now) tokens)
  back-is = ap (λ (l : List (Bor (List ℕ))). map (λ t. t.now) l) (take_rest tokens (at + 1))
      ∙ sym (drop-map (λ (t : Bor (List ℕ)). t.now) (at + 1) tokens)

  -- tokens with a separator before or behind their first colon are not cut
  pub marked-before : (before behind : List (List ℕ))
      → Any IsSeparator (map (λ t. t.now) (take at tokens))
      → IsCutAtColon (map (λ t. t.now) tokens) before behind → ⊥
  marked-before before behind any h =
      let same = front-is ∙ (colon-first (map (λ t. t.now) tokens) at before behind first h).0 in
      none-any IsSeparator before h.unmarked_before (rw same at any)

  pub marked-behind : (before behind : List (List ℕ))
      → Any IsSeparator (map (λ t. t.now) (take (length tokens - (at + 1)) (drop (at + 1) tokens)))
      → IsCutAtColon (map (λ t. t.now) tokens) before behind → ⊥
  marked-behind before behind any h =
      let same = back-is ∙ (colon-first (map (λ t. t.now) tokens) at before behind first h).1 in
      none-any IsSeparator behind h.unmarked_behind (rw same at any)

  -- others are
  pub is-cut : HaveNoSeparator (map (λ t. t.now) (take at tokens))
      → HaveNoSeparator (map (λ t. t.now) (take (length tokens - (at + 1)) (drop (at + 1) tokens)))
      → IsCutAtColon (map (λ t. t.now) tokens) (map (λ t. t.now) (take at tokens))
      (map (λ t. t.now) (take (length tokens - (at + 1)) (drop (at + 1) tokens)))
  is-cut before behind = record {
    cut = rw (front-is, back-is) (colon-cut (map (λ t. t.now) tokens) at first);
    unmarked_before = before;
    unmarked_behind = behind;
  }
