-- Where a line is cut behind its first token: the front is cut into that token by itself, so that
-- fronts may be put one behind another.
use Rattle.std.proofs.Common.{◌≡◌, ℕ, zero, suc, ◌+◌, ◌-◌, ◌<◌, ◌≤◌, inl, inr, Bool, true, false, not, cond, List, [], ◌∷◌, ◌++◌, length, get_or, take, drop, refl, sym, ap, ◌∙◌, append_assoc, arith}
use Rattle.std.specs.List.{All, position_or_len, slice_split, filter}
use Rattle.std.proofs.lemmas.Grind.{common_steps}
use Rattle.std.proofs.lemmas.List.{append-nil, drop_all, length-take}
use Rattle.std.proofs.lemmas.List.Sums.{fails_before_first, passes_at_first}
use Rattle.std.proofs.lemmas.List.Splits.{slice_split_at}
use Rattle.sfm_lines.specs.Lines.{has_bytes, tokens_of}
use Rattle.sfm_lines.specs.Tokens.{is_blank, IsFirstCut}
use Rattle.sfm_lines.proofs.Cutting.{cut-at}
use Rattle.sfm_lines.proofs.Cuts.{rest-is}

-- what is left of a line stands behind blanks
pub record IsSkipped (line left : List ℕ) : Type 0 where
  pub front : List ℕ
  pub cut : line ≡ front ++ left
  pub blank : (rest : List ℕ) → tokens_of (front ++ rest) ≡ tokens_of rest

pub nothing-skipped : (line : List ℕ) → IsSkipped line line
nothing-skipped line = record { front = []; cut = refl; blank = λ rest. refl }

blank-first : (c : ℕ) (left : List ℕ) → position_or_len is_blank (c ∷ left) ≤ 0 → is_blank c ≡ true
blank-first c left none = at (is_blank c) none
  where
    at : (b : Bool) → cond (not b) (1 + position_or_len is_blank left) 0 ≤ 0 → b ≡ true
    at true none = refl
    at false none = absurd (omega (arith, none))

blank-token : (c : ℕ) (rest : List ℕ) → is_blank c ≡ true → tokens_of (c ∷ rest) ≡ tokens_of rest
blank-token c rest is = ap (λ (l : List (List ℕ)). filter has_bytes l)
    (slice_split_at is_blank [] c rest (λ k d lt. absurd (omega (arith, lt))) is)

pub skipped-blank : (line left : List ℕ) (e : ℕ) → IsSkipped line left
    → e ≡ position_or_len is_blank left → e < length left → e ≤ 0
    → IsSkipped line (take (length left - (e + 1)) (drop (e + 1) left))
skipped-blank line [] e h end lt none = absurd (omega (arith, lt))
skipped-blank line (c ∷ left) zero h end lt none =
    let is = blank-first c left (omega (arith, end)) in
    let rest : take (length (c ∷ left) - (0 + 1)) (drop (0 + 1) (c ∷ left)) ≡ left = rest-is
    (c ∷ left) 1 (omega arith) in
    rw rest (record {
      front = h.front ++ c ∷ [];
      cut = h.cut ∙ sym (append_assoc h.front (c ∷ []) left);
      blank = λ more. ap tokens_of (append_assoc h.front (c ∷ []) more)
          ∙ (h.blank (c ∷ more) ∙ blank-token c more is);
    })
skipped-blank line (c ∷ left) (suc e) h end lt none = absurd (omega (arith, none))

-- a token and a blank behind it
kept-token : (token : List ℕ) (pieces : List (List ℕ)) → 0 < length token
    → filter has_bytes (token ∷ pieces) ≡ token ∷ filter has_bytes pieces
kept-token [] pieces some = absurd (omega (arith, some))
kept-token (c ∷ token) pieces some = refl

module _ (left : List ℕ) (e : ℕ) (end : e ≡ position_or_len is_blank left) (lt : e < length left)
    (some : 0 < e) where
  no-blank : All (λ c. is_blank c ≡ false) (take e left)
  no-blank = rw end (λ k d m. let k' = fails_before_first is_blank left k d
      (grind (arith, common_steps)) in grind (arith, common_steps))

  blank-here : is_blank (get_or left e 0) ≡ true
  blank-here = rw end (passes_at_first is_blank left 0 (omega (arith, end, lt)))

  token-then : (rest : List ℕ) → tokens_of (take e left ++ get_or left e 0 ∷ rest) ≡ take e
      left ∷ tokens_of rest
  token-then rest = ap (λ (l : List (List ℕ)). filter has_bytes l)
      (slice_split_at is_blank (take e left) (get_or left e 0) rest no-blank blank-here)
      ∙ kept-token (take e left) (slice_split is_blank rest)
      (omega (arith, some, lt, length-take e left))

  pub first-cut : (line : List ℕ) → IsSkipped line left
      → IsFirstCut line (take e left) (take (length left - (e + 1)) (drop (e + 1) left))
  first-cut line h =
      let end_of : List ℕ = take e left ++ get_or left e 0 ∷ [] in
      let more : (rest : List ℕ) → tokens_of ((h.front ++ end_of) ++ rest) ≡ take e left ∷ tokens_of
      rest =
      λ rest. ap tokens_of (append_assoc h.front end_of rest)
      ∙ (h.blank (end_of ++ rest)
      ∙ (ap tokens_of (append_assoc (take e left) (get_or left e 0 ∷ []) rest)
      ∙ token-then rest)) in
      let one : tokens_of (h.front ++ end_of) ≡ take e left ∷ [] = ap tokens_of
      (sym (append-nil (h.front ++ end_of))) ∙ more [] in
      rw (rest-is left (e + 1) (omega (arith, lt))) (record {
        front = h.front ++ end_of;
        cut = h.cut ∙ (ap (λ (l : List ℕ). h.front ++ l)
            (cut-at (get_or left e 0) left e lt refl
            ∙ sym (append_assoc (take e left) (get_or left e 0 ∷ []) (drop (e + 1) left)))
            ∙ sym (append_assoc h.front end_of (drop (e + 1) left)));
        one = one;
        ends = inr (λ rest. more rest ∙ ap (λ (l : List (List ℕ)). l ++ tokens_of rest) (sym one));
      })

-- the last token
pub last-cut : (line left : List ℕ)
    → tokens_of line ≡ left ∷ tokens_of (take (length left - length left) (drop (length left) left))
    → IsFirstCut line left (take (length left - length left) (drop (length left) left))
last-cut line left is =
    let none : take (length left - length left) (drop (length left) left) ≡ [] = rest-is left
    (length left) (omega arith) ∙ drop_all (length left) left (omega arith) in
    let one : tokens_of line ≡ left ∷ [] = rw none at is in
    rw none (record { front = line; cut = sym (append-nil line); one = one; ends = inl refl })
