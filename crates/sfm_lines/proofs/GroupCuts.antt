-- Tokens behind a colon that are cut at semicolons are elements, and then for each group a
-- semicolon, its cap and its names.
use Rattle.std.proofs.Common.{◌≡◌, ℕ, suc, ◌≤◌, List, [], ◌∷◌, ◌++◌, length, Bool, true, false, cond, map, codes, refl, sym, ap, ◌∙◌, inr, arith}
use Rattle.std.specs.List.{All, AllZip, onto_first, flat_map}
use Rattle.std.proofs.lemmas.Slice.Eq.{bytes_eq-Decides}
use Rattle.sfm_lines.specs.Parts.{IsSeparator, HaveNoSeparator}
use Rattle.sfm_lines.specs.CutParts.{is_semicolon, cut_at_semicolons, IsGroupCut, AreGroupsCut}
use Rattle.sfm_lines.proofs.Matches.{All-AllZip}

-- the tokens of the groups, with and without their semicolons
abbrev pub group_tokens : List (List ℕ × List (List ℕ)) → List (List ℕ)
group_tokens groups = flat_map (λ group. codes ";" ∷ group.0 ∷ group.1) groups

abbrev pub piece_tokens : List (List (List ℕ)) → List (List ℕ)
piece_tokens pieces = flat_map (λ piece. codes ";" ∷ piece) pieces

abbrev pub IsGroup : List ℕ × List (List ℕ) → Type 0
IsGroup group = (1 ≤ length group.1) × HaveNoSeparator (group.0 ∷ group.1)

tail-of : {X : Type 0} (P : X → Type 0) (x : X) (xs : List X) → All P (x ∷ xs) → All P xs
tail-of P x xs all = λ k d lt. all (suc k) d (omega arith)

head-of : {X : Type 0} (P : X → Type 0) (x : X) (xs : List X) → All P (x ∷ xs) → P x
head-of P x xs all = all 0 x (omega arith)

no-semicolon : (token : List ℕ) → (IsSeparator token → ⊥) → is_semicolon token ≡ false
no-semicolon token none = at (is_semicolon token) refl
  where
    at : (b : Bool) → is_semicolon token ≡ b → is_semicolon token ≡ false
    at true e = absurd (none (inr ((bytes_eq-Decides token (codes ";")).0 e)))
    at false e = e

semicolon : is_semicolon (codes ";") ≡ true
semicolon = refl

-- a piece at the end, and one before a semicolon
split-end : (piece : List (List ℕ)) → HaveNoSeparator piece
    → cut_at_semicolons (piece ++ []) ≡ piece ∷ []
split-end [] all = refl
split-end (token ∷ piece) all =
    rw (
      no-semicolon token (head-of (λ t. IsSeparator t → ⊥) token piece all),
      split-end piece (tail-of (λ t. IsSeparator t → ⊥) token piece all),
    ) refl

split-next : (piece more : List (List ℕ)) → HaveNoSeparator piece
    → cut_at_semicolons (piece ++ codes ";" ∷ more) ≡ piece ∷ cut_at_semicolons more
split-next [] more all = refl
split-next (token ∷ piece) more all =
    rw (
      no-semicolon token (head-of (λ t. IsSeparator t → ⊥) token piece all),
      split-next piece more (tail-of (λ t. IsSeparator t → ⊥) token piece all),
    ) refl

-- elements and groups are cut into themselves
split-groups : (elements : List (List ℕ)) (groups : List (List ℕ × List (List ℕ)))
    → HaveNoSeparator elements → All IsGroup groups
    → cut_at_semicolons (elements ++ group_tokens groups) ≡ elements ∷ map
    (λ group. group.0 ∷ group.1) groups
split-groups elements [] unmarked each = split-end elements unmarked
split-groups elements (group ∷ groups) unmarked each =
    split-next elements ((group.0 ∷ group.1) ++ group_tokens groups) unmarked
    ∙ ap (λ l. elements ∷ l) (split-groups (group.0 ∷ group.1) groups
    (head-of IsGroup group groups each).1 (tail-of IsGroup group groups each))

each-group : (groups : List (List ℕ × List (List ℕ))) → All IsGroup groups
    → AllZip IsGroupCut (map (λ group. group.0 ∷ group.1) groups) groups
each-group [] each = tt
each-group (group ∷ groups) each =
    let first = head-of IsGroup group groups each in (
      record { cut = refl; some = first.0; unmarked = first.1 },
      each-group groups (tail-of IsGroup group groups each),
    )

pub groups-cut : (elements : List (List ℕ)) (groups : List (List ℕ × List (List ℕ)))
    → 1 ≤ length elements → HaveNoSeparator elements → All IsGroup groups
    → AreGroupsCut (cut_at_semicolons (elements ++ group_tokens groups)) elements groups
groups-cut elements groups some unmarked each = record {
  rest = map (λ group. group.0 ∷ group.1) groups;
  pieces_are = split-groups elements groups unmarked each;
  some = some;
  unmarked = unmarked;
  each = each-group groups each;
}

-- pieces as the tokens that they are cut from
abbrev joined : List (List (List ℕ)) → List (List ℕ)
joined [] = []
joined (piece ∷ pieces) = piece ++ piece_tokens pieces

split-some : (tokens : List (List ℕ)) → (piece : List (List ℕ)) × (pieces : List (List (List ℕ)))
    × (cut_at_semicolons tokens ≡ piece ∷ pieces)
split-some [] = ([], [], refl)
split-some (token ∷ tokens) = at (is_semicolon token) (cut_at_semicolons tokens)
  where
    at : (b : Bool) (pieces : List (List (List ℕ))) → (piece : List (List ℕ))
        × (rest : List (List (List ℕ)))
        × (cond b ([] ∷ pieces) (onto_first token pieces) ≡ piece ∷ rest)
    at true pieces = ([], pieces, refl)
    at false [] = (token ∷ [], [], refl)
    at false (piece ∷ pieces) = (token ∷ piece, pieces, refl)

joined-behind : (tokens : List (List ℕ)) (pieces : List (List (List ℕ))) → joined pieces ≡ tokens
    → (piece : List (List ℕ)) (rest : List (List (List ℕ))) → pieces ≡ piece ∷ rest
    → joined ([] ∷ pieces) ≡ codes ";" ∷ tokens
joined-behind tokens [] e piece rest is = absurd (cc)
joined-behind tokens (first ∷ pieces) e piece rest is = ap (λ l. codes ";" ∷ l) e

joined-onto : (token : List ℕ) (pieces : List (List (List ℕ)))
    → joined (onto_first token pieces) ≡ token ∷ joined pieces
joined-onto token [] = refl
joined-onto token (piece ∷ pieces) = refl

joined-step : (token : List ℕ) (tokens : List (List ℕ)) (b : Bool) → is_semicolon token ≡ b
    → joined (cut_at_semicolons tokens) ≡ tokens
    → joined (cond b ([] ∷ cut_at_semicolons tokens) (onto_first token (cut_at_semicolons tokens)))
    ≡ token ∷ tokens
joined-step token tokens true e rest =
    let some = split-some tokens in
    joined-behind tokens (cut_at_semicolons tokens) rest some.0 some.1 some.2
    ∙ ap (λ t. t ∷ tokens) (sym ((bytes_eq-Decides token (codes ";")).0 e))
joined-step token tokens false e rest = joined-onto token (cut_at_semicolons tokens)
    ∙ ap (λ l. token ∷ l) rest

joined-split : (tokens : List (List ℕ)) → joined (cut_at_semicolons tokens) ≡ tokens
joined-split [] = refl
joined-split (token ∷ tokens) =
    joined-step token tokens (is_semicolon token) refl (joined-split tokens)

same-tokens : (pieces : List (List (List ℕ))) (groups : List (List ℕ × List (List ℕ)))
    → AllZip IsGroupCut pieces groups → piece_tokens pieces ≡ group_tokens groups
same-tokens [] [] h = refl
same-tokens [] (group ∷ groups) h = absurd h
same-tokens (piece ∷ pieces) [] h = absurd h
same-tokens (piece ∷ pieces) (group ∷ groups) h = rw (h.0.cut, same-tokens pieces groups h.1) refl

-- and what is cut so are elements and groups
pub groups-behind : (behind elements : List (List ℕ)) (groups : List (List ℕ × List (List ℕ)))
    → AreGroupsCut (cut_at_semicolons behind) elements groups
    → behind ≡ elements ++ group_tokens groups
groups-behind behind elements groups h =
    sym (joined-split behind) ∙ (ap joined h.pieces_are
    ∙ ap (λ l. elements ++ l) (same-tokens h.rest groups h.each))

pub groups-each : (pieces : List (List (List ℕ))) (elements : List (List ℕ))
    (groups : List (List ℕ × List (List ℕ))) → AreGroupsCut pieces elements groups
    → All IsGroup groups
groups-each pieces elements groups h =
    All-AllZip IsGroupCut IsGroup (λ piece group cut. (cut.some, rw cut.cut at cut.unmarked)) h.rest
    groups h.each
