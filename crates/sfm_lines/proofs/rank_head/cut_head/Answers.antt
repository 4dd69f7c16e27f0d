use Rattle.std.proofs.Common.{◌≡◌, ◌≤◌, ◌-◌, ℕ, List, [], ◌∷◌, length, get_or, take, drop, codes, Bor, refl, subst, arith}
use Rattle.std.proofs.lemmas.Bool.{false≢true}
use Rattle.std.proofs.lemmas.List.{take_rest}
use Rattle.sfm_lines.specs.Lines.{texts_of}
use Rattle.sfm_lines.specs.Parts.{IsSeparator, IsRankHead}
use Rattle.sfm_lines.proofs.rank_head.cut_head.Goals as goal

-- the first three tokens of a line that begins so
head-tokens : (word number : List ℕ) (behind : List (List ℕ)) (tokens : List (Bor (List ℕ)))
    (d e f : Bor (List ℕ)) → 3 ≤ length tokens → IsRankHead word (texts_of tokens) number behind
    → ((get_or tokens 0 d).now ≡ number) × ((get_or tokens 1 e).now ≡ word)
    × ((get_or tokens 2 f).now ≡ codes ":")
head-tokens word number behind [] d e f three h = absurd (omega (arith, three))
head-tokens word number behind (x ∷ []) d e f three h = absurd (omega (arith, three))
head-tokens word number behind (x ∷ y ∷ []) d e f three h = absurd (omega (arith, three))
head-tokens word number behind (x ∷ y ∷ z ∷ rest) d e f three h =
    let all : x.now ∷ y.now ∷ z.now ∷ texts_of rest ≡ number ∷ word ∷ codes
    ":" ∷ behind = h.tokens_are in
    let first : x.now ≡ number = cc in
    let second : y.now ≡ word = cc in
    let third : z.now ≡ codes ":" = cc in
    (first, second, third)

head-first : (word number : List ℕ) (behind : List (List ℕ)) (tokens : List (Bor (List ℕ)))
    (d : Bor (List ℕ)) → 3 ≤ length tokens → IsRankHead word (texts_of tokens) number behind
    → (get_or tokens 0 d).now ≡ number
head-first word number behind tokens d three h =
    (head-tokens word number behind tokens d d d three h).0

head-second : (word number : List ℕ) (behind : List (List ℕ)) (tokens : List (Bor (List ℕ)))
    (d : Bor (List ℕ)) → 3 ≤ length tokens → IsRankHead word (texts_of tokens) number behind
    → (get_or tokens 1 d).now ≡ word
head-second word number behind tokens d three h =
    (head-tokens word number behind tokens d d d three h).1

head-third : (word number : List ℕ) (behind : List (List ℕ)) (tokens : List (Bor (List ℕ)))
    (d : Bor (List ℕ)) → 3 ≤ length tokens → IsRankHead word (texts_of tokens) number behind
    → (get_or tokens 2 d).now ≡ codes ":"
head-third word number behind tokens d three h =
    (head-tokens word number behind tokens d d d three h).2

-- tokens of which the first three are these begin so
head-made : (word : List ℕ) (tokens : List (Bor (List ℕ))) (d e f : Bor (List ℕ))
    → 3 ≤ length tokens → (IsSeparator (get_or tokens 0 d).now → ⊥) → (get_or tokens 1 e).now ≡ word
    → (get_or tokens 2 f).now ≡ codes ":"
    → IsRankHead word (texts_of tokens) (get_or tokens 0 d).now
    (texts_of (take (length tokens - 3) (drop 3 tokens)))
head-made word [] d e f three plain second third = absurd (omega (arith, three))
head-made word (x ∷ []) d e f three plain second third = absurd (omega (arith, three))
head-made word (x ∷ y ∷ []) d e f three plain second third = absurd (omega (arith, three))
head-made word (x ∷ y ∷ z ∷ rest) d e f three plain second third =
    let behind : take (length (x ∷ y ∷ z ∷ rest) - 3) (drop 3 (x ∷ y ∷ z ∷ rest)) ≡ rest = take_rest
    (x ∷ y ∷ z ∷ rest) 3 in
    record { tokens_are = rw (behind, second, third) refl; no_separator = plain }

pub returns-then-is_separator : goal.returns-then-is_separator
returns-then-is_separator c = λ number behind h.
    h.no_separator (subst IsSeparator
    (head-first c.args.word.now number behind c.args.tokens.now _ c.in-len3-up.len_at_least h)
    (c.if-is_separator.ensures.0 refl))

pub returns-then-not-is_word : goal.returns-then-not-is_word
returns-then-not-is_word c = λ number behind h. c.if-not-is_word.ensures
    (head-second c.args.word.now number behind c.args.tokens.now _ c.in-len3-up.len_at_least h)

pub returns-then-not-is_word-2 : goal.returns-then-not-is_word-2
returns-then-not-is_word-2 c =
    λ number behind h. c.if-not-is_word-2.ensures
    (head-third c.args.word.now number behind c.args.tokens.now _ c.in-len3-up.len_at_least h)

pub returns : goal.returns
returns c = head-made c.args.word.now c.args.tokens.now _ _ _ c.in-len3-up.len_at_least
    (λ m. false≢true (c.if-is_separator.ensures.1 m)) c.if-not-is_word.ensures
    c.if-not-is_word-2.ensures
