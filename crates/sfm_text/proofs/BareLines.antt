-- A rank line without the weights of its elements is a line of its own: of good bytes, and with no
-- more of them in its tokens.
use Rattle.std.proofs.Common.{◌≡◌, ℕ, ◌+◌, ◌≤◌, Bool, true, false, cond, List, [], ◌∷◌, ◌++◌, length, map, get_or, codes, Option, Some, None, inl, inr, refl, sym, ap, subst, ◌∙◌, arith, length-append}
use Rattle.std.specs.List.{All, Any, AllZip, slice_split, onto_first}
use Rattle.std.proofs.lemmas.List.{get_or_default}
use Rattle.std.proofs.lemmas.List.Elements.{All-nil, All-cons, All-head, All-tail, All-append, All-filter}
use Rattle.sfm_lines.specs.Lines.{has_bytes, tokens_of}
use Rattle.sfm_lines.specs.Tokens.{is_blank}
use Rattle.sfm_lines.specs.Weights.{IsWeighed, IsUnweighed}
use Rattle.sfm_lines.specs.Words.{word_text}
use Rattle.sfm_lines.specs.Reading.{IsBadByte}
use Rattle.sfm_lines.specs.ReadParts.{bytes_in, IsLineOf}
use Rattle.sfm_lines.specs.declared.word.TermWord.TheVariants.{RankWord}
use Rattle.sfm_lines.proofs.Colons.{none-any}
use Rattle.sfm_weights.specs.Plain.{IsToken, IsEntryOf}
use Rattle.sfm_weights.proofs.Entries.{entry-token, not-empty}
use Rattle.sfm_weights.proofs.Tokens.{tokens-append, token-one, tokens-clean}

-- no byte is bad
abbrev IsGood : List ℕ → Type 0
IsGood text = All (λ c. IsBadByte c → ⊥) text

-- ---- the tokens of a line of good bytes

good-onto : (x : ℕ) (pieces : List (List ℕ)) → (IsBadByte x → ⊥) → All IsGood pieces
    → All IsGood (onto_first x pieces)
good-onto x [] is h = All-cons IsGood (x ∷ []) []
    (All-cons (λ c. IsBadByte c → ⊥) x [] is (All-nil (λ c. IsBadByte c → ⊥))) (All-nil IsGood)
good-onto x (piece ∷ pieces) is h =
    All-cons IsGood (x ∷ piece) pieces
    (All-cons (λ c. IsBadByte c → ⊥) x piece is (All-head IsGood piece pieces h))
    (All-tail IsGood piece pieces h)

good-more : (b : Bool) (x : ℕ) (pieces : List (List ℕ)) → (IsBadByte x → ⊥) → All IsGood pieces
    → All IsGood (cond b ([] ∷ pieces) (onto_first x pieces))
good-more true x pieces is h = All-cons IsGood [] pieces (All-nil (λ c. IsBadByte c → ⊥)) h
good-more false x pieces is h = good-onto x pieces is h

good-pieces : (xs : List ℕ) → IsGood xs → All IsGood (slice_split is_blank xs)
good-pieces [] h = All-cons IsGood [] [] (All-nil (λ c. IsBadByte c → ⊥)) (All-nil IsGood)
good-pieces (x ∷ xs) h = good-more (is_blank x) x (slice_split is_blank xs)
    (All-head (λ c. IsBadByte c → ⊥) x xs h)
    (good-pieces xs (All-tail (λ c. IsBadByte c → ⊥) x xs h))

good-bytes : (line : List ℕ) → (Any IsBadByte line → ⊥) → IsGood line
good-bytes line none = λ k d lt bad.
    none (k, get_or line k d, lt, sym (get_or_default line k d (get_or line k d) lt), bad)

good-tokens : (line : List ℕ) → (Any IsBadByte line → ⊥) → All IsGood (tokens_of line)
good-tokens line none = All-filter has_bytes IsGood (slice_split is_blank line)
    (good-pieces line (good-bytes line none))

-- ---- a line with given tokens

abbrev bare_of : List (List ℕ) → List ℕ
bare_of [] = []
bare_of (token ∷ tokens) = token ++ 32 ∷ bare_of tokens

bare-tokens : (tokens : List (List ℕ)) → All IsToken tokens → tokens_of (bare_of tokens) ≡ tokens
bare-tokens [] h = refl
bare-tokens (token ∷ tokens) h =
    let one = token-one token (All-head IsToken token tokens h) in
    let rest = bare-tokens tokens (All-tail IsToken token tokens h) in
    tokens-append token (bare_of tokens) ∙ rw (one, rest) refl

space-good : IsBadByte 32 → ⊥
space-good (tab, inl low) = omega (arith, low)
space-good (tab, inr high) = omega (arith, high)

star-good : IsBadByte 42 → ⊥
star-good (tab, inl low) = omega (arith, low)
star-good (tab, inr high) = omega (arith, high)

bare-good : (tokens : List (List ℕ)) → All IsGood tokens → IsGood (bare_of tokens)
bare-good [] h = All-nil (λ c. IsBadByte c → ⊥)
bare-good (token ∷ tokens) h = All-append (λ c. IsBadByte c → ⊥) token (32 ∷ bare_of tokens)
    (All-head IsGood token tokens h)
    (All-cons (λ c. IsBadByte c → ⊥) 32 (bare_of tokens) space-good
    (bare-good tokens (All-tail IsGood token tokens h)))

-- ---- the tokens without weights

All-front : {X : Type 0} (P : X → Type 0) (xs ys : List X) → All P (xs ++ ys) → All P xs
All-front P [] ys h = All-nil P
All-front P (x ∷ xs) ys h = All-cons P x xs (All-head P x (xs ++ ys) h)
    (All-front P xs ys (All-tail P x (xs ++ ys) h))

All-behind : {X : Type 0} (P : X → Type 0) (xs ys : List X) → All P (xs ++ ys) → All P ys
All-behind P [] ys h = h
All-behind P (x ∷ xs) ys h = All-behind P xs ys (All-tail P x (xs ++ ys) h)

-- what holds of each token holds of each without weights, where it holds of what stands for an
-- element
module _ (P : List ℕ → Type 0)
    (kept : (token : List ℕ) (entry : List ℕ × Option (List ℕ)) → P token → IsWeighed token entry
    → P entry.0) where
  entries-each : (marked : List (List ℕ)) (entries : List (List ℕ × Option (List ℕ)))
      → AllZip IsEntryOf marked entries
      → All P marked → All P (map (λ entry. entry.0) entries)
  entries-each [] [] each h = All-nil P
  entries-each [] (entry ∷ entries) each h = absurd each
  entries-each (token ∷ marked) [] each h = absurd each
  entries-each (token ∷ marked) (entry ∷ entries) (is, each) h =
      All-cons P entry.0 (map (λ entry. entry.0) entries)
      (kept token entry (All-head P token marked h) is.0)
      (entries-each marked entries each (All-tail P token marked h))

  plain-each : (rest plain : List (List ℕ)) (entries : List (List ℕ × Option (List ℕ)))
      → IsUnweighed rest plain entries
      → All P rest → All P plain
  plain-each rest plain entries h all =
      let cut : All P (h.head ++ codes ":" ∷ (h.marked ++ h.behind)) = subst (All P) h.cut all in
      let from : All P (codes ":" ∷ (h.marked ++ h.behind)) = All-behind P h.head _ cut in
      let elements : All P (h.marked ++ h.behind) = All-tail P (codes ":") (h.marked ++ h.behind)
      from in
      let bare : All P (map (λ entry. entry.0) entries) = entries-each h.marked entries h.each
      (All-front P h.marked h.behind elements) in
      subst (All P) (sym h.plain_are) (All-append P h.head _ (All-front P h.head _ cut)
      (All-cons P (codes ":") _ (All-head P (codes ":") (h.marked ++ h.behind) from)
      (All-append P (map (λ entry. entry.0) entries) h.behind bare
      (All-behind P h.marked h.behind elements))))

-- what stands for an element has good bytes
entry-good : (token : List ℕ) (entry : List ℕ × Option (List ℕ)) → IsGood token
    → IsWeighed token entry → IsGood entry.0
entry-good token (x, None) good h = subst IsGood h.0 good
entry-good token (x, Some w) good ([], cut, is) =
    subst IsGood (sym is) (All-cons (λ c. IsBadByte c → ⊥) 42 [] star-good
    (All-nil (λ c. IsBadByte c → ⊥)))
entry-good token (x, Some w) good (c ∷ front, cut, is) =
    subst IsGood (sym (is ∙ not-empty (length (c ∷ front)) (codes "*") (c ∷ front) (omega arith)))
    (All-front (λ c. IsBadByte c → ⊥) (c ∷ front) (42 ∷ w) (subst IsGood cut.cut good))

-- so the line without weights is a line
pub bare-line : (line : List ℕ) (rest plain : List (List ℕ))
    (entries : List (List ℕ × Option (List ℕ)))
    → IsLineOf line (word_text RankWord ∷ rest) → IsUnweighed rest plain entries
    → (bare : List ℕ) × IsLineOf bare (word_text RankWord ∷ plain)
bare-line line rest plain entries is h =
    let clean : All IsToken (word_text RankWord ∷ rest) = subst (All IsToken) is.tokens_are
    (tokens-clean line) in
    let good : All IsGood (word_text RankWord ∷ rest) = subst (All IsGood) is.tokens_are
    (good-tokens line is.good_bytes) in
    let tokens = plain-each IsToken entry-token rest plain entries h
    (All-tail IsToken (word_text RankWord) rest clean) in
    let bytes = plain-each IsGood entry-good rest plain entries h
    (All-tail IsGood (word_text RankWord) rest good) in (
      bare_of (word_text RankWord ∷ plain),
      record {
        tokens_are = bare-tokens (word_text RankWord ∷ plain)
            (All-cons IsToken (word_text RankWord) plain
            (All-head IsToken (word_text RankWord) rest clean) tokens);
        good_bytes = none-any IsBadByte (bare_of (word_text RankWord ∷ plain))
            (bare-good (word_text RankWord ∷ plain)
            (All-cons IsGood (word_text RankWord) plain
            (All-head IsGood (word_text RankWord) rest good) bytes));
      },
    )

-- ---- bytes

bytes-append : (a b : List (List ℕ)) → bytes_in (a ++ b) ≡ bytes_in a + bytes_in b
bytes-append [] b = omega arith
bytes-append (text ∷ a) b = let rest = bytes-append a b in omega (arith, rest)

entry-bytes : (token : List ℕ) (entry : List ℕ × Option (List ℕ)) → IsWeighed token entry
    → length entry.0 ≤ length token
entry-bytes token (x, None) h = omega (arith, ap length h.0)
entry-bytes token (x, Some w) ([], cut, is) = omega (arith, ap length is, ap length cut.cut)
entry-bytes token (x, Some w) (c ∷ front, cut, is) =
    omega (
      arith,
      ap length (is ∙ not-empty (length (c ∷ front)) (codes "*") (c ∷ front)
          (omega arith)),
      ap length cut.cut,
      length-append (c ∷ front) (42 ∷ w),
    )

entries-bytes : (marked : List (List ℕ)) (entries : List (List ℕ × Option (List ℕ)))
    → AllZip IsEntryOf marked entries
    → bytes_in (map (λ entry. entry.0) entries) ≤ bytes_in marked
entries-bytes [] [] h = omega arith
entries-bytes [] (entry ∷ entries) h = absurd h
entries-bytes (token ∷ marked) [] h = absurd h
entries-bytes (token ∷ marked) (entry ∷ entries) (is, h) =
    let one = entry-bytes token entry is.0 in let more = entries-bytes marked entries
    h in omega (arith, one, more)

-- the tokens without weights have no more bytes than with them
pub plain-bytes : (rest plain : List (List ℕ)) (entries : List (List ℕ × Option (List ℕ)))
    → IsUnweighed rest plain entries
    → bytes_in plain ≤ bytes_in rest
plain-bytes rest plain entries h =
    let a = ap bytes_in h.cut in
    let b = bytes-append h.head (codes ":" ∷ (h.marked ++ h.behind)) in
    let c = bytes-append h.marked h.behind in
    let d = ap bytes_in h.plain_are in
    let e = bytes-append h.head (codes ":" ∷ (map (λ entry. entry.0) entries ++ h.behind)) in
    let f = bytes-append (map (λ entry. entry.0) entries) h.behind in
    let g = entries-bytes h.marked entries h.each in
    omega (arith, a, b, c, d, e, f, g)
