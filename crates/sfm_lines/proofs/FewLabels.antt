-- A line has fewer labels than bytes: each label ends at a byte of its own, and the name of its
-- element stands before the first.
use Rattle.std.proofs.Common.{◌≡◌, ◌==◌, ℕ, ◌+◌, ◌<◌, ◌≤◌, ◌^◌, Bool, true, false, not, cond, List, [], ◌∷◌, length, map, Bor, bytes_eq, inl, inr, ap, arith, length-append}
use Rattle.std.specs.List.{slice_split, onto_first, filter, AllZip}
use Rattle.std.proofs.lemmas.List.{length-map}
use Rattle.std.proofs.lemmas.List.Sums.{length-filter, count_by-le-length}
use Rattle.std.proofs.lemmas.List.Splits.{length-slice_split}
use Rattle.sfm_lines.specs.Lines.{has_bytes, tokens_of, texts_of}
use Rattle.sfm_lines.specs.Tokens.{is_blank}
use Rattle.sfm_lines.specs.Parts.{LineParts, IsLabelToken, IsLabelledLine}
use Rattle.sfm_lines.specs.Words.{word_text, HasParts}
use Rattle.sfm_lines.specs.LabelTerms.{distinct_of}
use Rattle.sfm_lines.specs.CutParts.{place_among}
use Rattle.sfm_lines.specs.ReadParts.{bytes_in, joined}
use Rattle.sfm_lines.specs.declared.word.RankKind.{RankKind}
use Rattle.sfm_lines.specs.declared.word.RankKind.TheVariants.{GraphicRank, TransversalRank}
use Rattle.sfm_lines.specs.declared.word.TermWord.{TermWord}
use Rattle.sfm_lines.specs.declared.word.TermWord.TheVariants.{WeightWord, CutWord, NeedWord, CoverWord, TableWord, ConcaveWord, RankWord}

-- ---- tokens

bytes-split : (p : ℕ → Bool) (xs : List ℕ) → bytes_in (slice_split p xs) ≤ length xs
bytes-split p [] = omega arith
bytes-split p (x ∷ xs) = at (p x) (slice_split p xs) (bytes-split p xs) where
  at : (b : Bool) (pieces : List (List ℕ)) → bytes_in pieces ≤ length xs
      → bytes_in (cond b ([] ∷ pieces) (onto_first x pieces)) ≤ length (x ∷ xs)
  at true pieces h = omega (arith, h)
  at false [] h = omega (arith, h)
  at false (piece ∷ pieces) h = omega (arith, h)

bytes-filter : (p : List ℕ → Bool) (texts : List (List ℕ))
    → bytes_in (filter p texts) ≤ bytes_in texts
bytes-filter p [] = omega arith
bytes-filter p (text ∷ texts) = at (p text) (bytes-filter p texts) where
  at : (b : Bool) → bytes_in (filter p texts) ≤ bytes_in texts
      → bytes_in (cond b (text ∷ filter p texts) (filter p texts)) ≤ bytes_in (text ∷ texts)
  at true h = omega (arith, h)
  at false h = omega (arith, h)

-- the tokens of a line have no more bytes than the line
pub bytes-tokens : (line : List ℕ) → bytes_in (tokens_of line) ≤ length line
bytes-tokens line = let f = bytes-filter has_bytes
    (slice_split is_blank line) in let s = bytes-split is_blank line in omega (arith, f, s)

-- those behind the word of a line have fewer
pub bytes-behind : (word : TermWord) (tokens rest : List (List ℕ)) → tokens ≡ word_text word ∷ rest
    → bytes_in tokens ≤ 2 ^ 24 + 1 → bytes_in rest < 2 ^ 24
bytes-behind word tokens rest is h =
    let e = ap bytes_in is in let l = long word in omega (arith, h, e, l) where
      long : (word : TermWord) → 3 ≤ length (word_text word)
      long WeightWord = omega arith
      long _ = omega arith

-- ---- labels

token-labels : (rank : RankKind) (token : List ℕ) (entry : List ℕ × List (List ℕ))
    → IsLabelToken rank token entry → length entry.1 ≤ length token
token-labels GraphicRank token entry h =
    let (tail, head, ends, is) = h.labels in
    let a = ap length h.named.cut in
    let b = length-append entry.0 (61 ∷ h.behind) in
    let c = ap length ends.cut in
    let d = length-append tail (45 ∷ head) in
    let n = ap length is in
    omega (arith, a, b, c, d, n)
token-labels TransversalRank token entry h =
    let a = ap length h.named.cut in
    let b = length-append entry.0 (61 ∷ h.behind) in
    let c = length-slice_split (λ c. c == 44) h.behind in
    let d = count_by-le-length (λ c. c == 44) h.behind in
    let n = ap length h.labels in
    omega (arith, a, b, c, d, n)
token-labels _ token entry h = absurd h.labels

labels-few : (rank : RankKind) (tokens : List (List ℕ)) (entries : List (List ℕ × List (List ℕ)))
    → AllZip (IsLabelToken rank) tokens entries
    → length (joined (map (λ entry. entry.1) entries)) ≤ bytes_in tokens
labels-few rank [] [] h = omega arith
labels-few rank [] (entry ∷ entries) h = absurd h
labels-few rank (token ∷ tokens) [] h = absurd h
labels-few rank (token ∷ tokens) (entry ∷ entries) (one, rest) =
    let a = token-labels rank token entry one in
    let r = labels-few rank tokens entries rest in
    let l = length-append entry.1 (joined (map (λ entry. entry.1) entries)) in
    omega (arith, a, r, l)

labelled-few : (rank : RankKind) (word : List ℕ) (tokens : List (List ℕ)) (parts : LineParts)
    → IsLabelledLine rank word tokens parts → length (joined parts.labels) ≤ bytes_in tokens
labelled-few rank word tokens parts h =
    let n = labels-few rank h.behind h.entries h.each in
    let p = ap (λ (q : LineParts). length (joined q.labels)) h.parts_are in
    let t = ap bytes_in h.head.tokens_are in
    omega (arith, n, p, t)

none-few : (tokens : List (List ℕ)) (parts : LineParts) → parts.labels ≡ []
    → length (joined parts.labels) ≤ bytes_in tokens
none-few tokens parts none = let n = ap (λ l. length (joined l)) none in omega (arith, n)

-- the parts of a line have no more labels than its tokens have bytes
pub parts-few : (word : TermWord) (tokens : List (List ℕ)) (parts : LineParts)
    → HasParts word tokens parts → length (joined parts.labels) ≤ bytes_in tokens
parts-few WeightWord tokens parts h =
    none-few tokens parts (ap (λ (q : LineParts). q.labels) h.parts_are)
parts-few CutWord tokens parts h =
    none-few tokens parts (ap (λ (q : LineParts). q.labels) h.1.parts_are)
parts-few NeedWord tokens parts h =
    none-few tokens parts (ap (λ (q : LineParts). q.labels) h.1.parts_are)
parts-few CoverWord tokens parts h =
    none-few tokens parts (ap (λ (q : LineParts). q.labels) h.1.parts_are)
parts-few TableWord tokens parts h = none-few tokens parts (ap (λ (q : LineParts). q.labels) h.4)
parts-few ConcaveWord tokens parts h = none-few tokens parts (ap (λ (q : LineParts). q.labels) h.4)
parts-few RankWord tokens parts (inl h) =
    none-few tokens parts (ap (λ (q : LineParts). q.labels) h.parts_are)
parts-few RankWord tokens parts (inr (inl h)) =
    none-few tokens parts (ap (λ (q : LineParts). q.labels) h.parts_are)
parts-few RankWord tokens parts (inr (inr (inl h))) = labelled-few GraphicRank _ tokens parts h
parts-few RankWord tokens parts (inr (inr (inr h))) = labelled-few TransversalRank _ tokens parts h

-- ---- different labels

-- there are no more different ones
pub distinct-few : (texts : List (List ℕ)) → length (distinct_of texts) ≤ length texts
distinct-few [] = omega arith
distinct-few (text ∷ texts) =
    let r = distinct-few texts in
    let f = length-filter (λ other. not (bytes_eq text other)) (distinct_of texts) in
    let c = count_by-le-length (λ other. not (bytes_eq text other)) (distinct_of texts) in
    omega (arith, r, f, c)

pub keys-few : (keys : List (Bor (List ℕ))) (texts : List (List ℕ))
    → texts_of keys ≡ distinct_of texts → length texts < 2 ^ 24 → length keys < 2 ^ 24
keys-few keys texts is few =
    let m = length-map keys (λ (k : Bor (List ℕ)). k.now) in
    let e = ap length is in
    let d = distinct-few texts in
    omega (arith, few, m, e, d)

place-within : (text : List ℕ) (texts : List (List ℕ)) → place_among texts text ≤ length texts
place-within text [] = omega arith
place-within text (other ∷ texts) = at (bytes_eq text other) (place-within text texts) where
  at : (b : Bool) → place_among texts text ≤ length texts
      → cond (not b) (1 + place_among texts text) 0 ≤ length (other ∷ texts)
  at true h = omega arith
  at false h = omega (arith, h)

-- so each number is small
pub place-small : (text : List ℕ) (keys : List (Bor (List ℕ))) (n : ℕ)
    → n ≡ place_among (texts_of keys) text → length keys < 2 ^ 24 → n < 2 ^ 24
place-small text keys n is few =
    let p = place-within text (texts_of keys) in
    let m = length-map keys (λ (k : Bor (List ℕ)). k.now) in
    omega (arith, is, p, m, few)
