-- A line has one word and one list of parts.
use Rattle.std.proofs.Common.{◌≡◌, ℕ, List, ◌∷◌, get_or, map, codes, nat_eq, if◌then◌else◌, refl, sym, ap, ◌∙◌, arith}
use Rattle.sfm_lines.specs.Parts.{LineParts, plain_parts, IsPairToken, IsWeightLine, IsSplitAt, IsColonLine}
use Rattle.sfm_lines.specs.CutParts.{AreCounts}
use Rattle.sfm_lines.specs.Words.{HasParts, word_text}
use Rattle.sfm_lines.specs.TermLines.{IsShaped}
use Rattle.sfm_lines.specs.Reading.{HasTermLine}
use Rattle.sfm_lines.specs.declared.word.TermWord.{TermWord}
use Rattle.sfm_lines.specs.declared.word.TermWord.TheVariants.{WeightWord, CutWord, NeedWord, CoverWord, TableWord, ConcaveWord, RankWord}
use Rattle.sfm_lines.proofs.Cutting.{front-same}
use Rattle.sfm_lines.proofs.Colons.{colon-same}
use Rattle.sfm_lines.proofs.Matches.{AllZip-same}
use Rattle.sfm_lines.proofs.Ranks.{rank-same}

-- the word whose third byte and first byte are those
abbrev by_bytes : ℕ → ℕ → TermWord
by_bytes c a = if nat_eq c 105 then WeightWord else
    (if nat_eq c 116 then CutWord else
    (if nat_eq c 101 then NeedWord else
    (if nat_eq c 118 then CoverWord else
    (if nat_eq c 98 then TableWord else (if nat_eq a 99 then ConcaveWord else RankWord)))))

bytes-of : (word : TermWord) → by_bytes (get_or (word_text word) 2 0)
    (get_or (word_text word) 0 0) ≡ word
bytes-of WeightWord = refl
bytes-of _ = refl

-- each word has its own text
pub word_text-same : (v w : TermWord) → word_text v ≡ word_text w → v ≡ w
word_text-same v w e = sym (bytes-of v)
    ∙ (ap (λ (text : List ℕ). by_bytes (get_or text 2 0) (get_or text 0 0)) e ∙ bytes-of w)

-- a token is cut into one pair
pub pair-same : (token : List ℕ) (p q : List ℕ × List ℕ) → IsPairToken token p → IsPairToken token q
    → p ≡ q
pair-same token (a, b) (c, d) h g =
    let same = front-same 58 a b c d (h.cut).none_before (g.cut).none_before
    (sym (h.cut).cut ∙ (g.cut).cut) in
    let first = same.0 in
    let second = same.1 in
    cc

weight-same : (tokens : List (List ℕ)) (p q : LineParts) → IsWeightLine tokens p
    → IsWeightLine tokens q → p ≡ q
weight-same tokens p q h g =
    let pairs : h.pairs ≡ g.pairs = AllZip-same IsPairToken pair-same tokens h.pairs g.pairs h.each
    g.each in
    h.parts_are ∙ (ap (λ (l : List (List ℕ × List ℕ)). plain_parts (map (λ pair. pair.1) l)
    (map (λ pair. pair.0) l)) pairs ∙ sym g.parts_are)

split-same : (count : ℕ) (tokens : List (List ℕ)) (p q : LineParts) → IsSplitAt count tokens p
    → IsSplitAt count tokens q → p ≡ q
split-same count tokens p q h g = h.parts_are ∙ sym g.parts_are

colon_line-same : (AreCounts : ℕ → ℕ → Type 0) (tokens : List (List ℕ)) (p q : LineParts)
    → IsColonLine AreCounts tokens p → IsColonLine AreCounts tokens q → p ≡ q
colon_line-same AreCounts tokens p q h g =
    let (numbers, elements) = colon-same tokens h.0 h.1 g.0 g.1 h.2 g.2 in
    h.4 ∙ (ap (λ (n : List (List ℕ)). plain_parts n h.1) numbers
    ∙ (ap (λ (e : List (List ℕ)). plain_parts g.0 e) elements ∙ sym g.4))

-- the tokens of a line have one list of parts
pub parts-same : (word : TermWord) (tokens : List (List ℕ)) (p q : LineParts)
    → HasParts word tokens p → HasParts word tokens q → p ≡ q
parts-same WeightWord tokens p q h g = weight-same tokens p q h g
parts-same CutWord tokens p q h g = split-same 1 tokens p q h.1 g.1
parts-same NeedWord tokens p q h g = split-same 0 tokens p q h.1 g.1
parts-same CoverWord tokens p q h g = split-same 1 tokens p q h.1 g.1
parts-same TableWord tokens p q h g = colon_line-same (AreCounts TableWord) tokens p q h g
parts-same ConcaveWord tokens p q h g = colon_line-same (AreCounts ConcaveWord) tokens p q h g
parts-same RankWord tokens p q h g = rank-same tokens p q h g

-- so what holds of the parts of a line holds of these
pub of-term-line : (word : TermWord) (tokens rest : List (List ℕ)) (parts : LineParts)
    (P : TermWord → List (List ℕ) → LineParts → Type 0) → tokens ≡ word_text word ∷ rest
    → HasParts word rest parts → HasTermLine tokens P → P word rest parts
of-term-line word tokens rest parts P e h (word', rest', parts', shaped, p) =
    let both : word_text word' ∷ rest' ≡ word_text word ∷ rest = sym shaped.0 ∙ e in
    let same_text : word_text word' ≡ word_text word = cc in
    let same_rest : rest' ≡ rest = cc in
    let same_word : word' ≡ word = word_text-same word' word same_text in
    let shape : HasParts word rest parts' = rw (same_word, same_rest) at shaped.1 in
    let same_parts : parts' ≡ parts = parts-same word rest parts' parts shape h in
    rw (same_word, same_rest, same_parts) at p

-- no word is that of the last line
pub not-end : (word : TermWord) → word_text word ≡ codes "end" → ⊥
not-end word e = apart word (ap (λ (text : List ℕ). get_or text 2 0) e)
  where
    apart : (word : TermWord) → get_or (word_text word) 2 0 ≡ 100 → ⊥
    apart WeightWord h = omega (arith, h)
    apart _ h = omega (arith, h)

-- the parts of a line are those of its word
pub shaped-here : (word : TermWord) (tokens rest : List (List ℕ)) (word' : TermWord)
    (rest' : List (List ℕ)) (parts : LineParts) → tokens ≡ word_text word ∷ rest
    → IsShaped tokens word' rest' parts → HasParts word rest parts
shaped-here word tokens rest word' rest' parts e shaped =
    let both : word_text word' ∷ rest' ≡ word_text word ∷ rest = sym shaped.0 ∙ e in
    let same_text : word_text word' ≡ word_text word = cc in
    let same_rest : rest' ≡ rest = cc in
    let same_word : word' ≡ word = word_text-same word' word same_text in
    rw (same_word, same_rest) at shaped.1
