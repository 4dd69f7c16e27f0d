-- How a text is cut into lines when more bytes come behind it: the pieces that have ended stay, and
-- the last one goes on.
use Rattle.std.proofs.Common.{◌≡◌, ℕ, ◌+◌, ◌<◌, List, [], ◌∷◌, ◌++◌, length, Bool, true, false, cond, refl, sym, ap, ◌∙◌, arith, append_assoc, length-append}
use Rattle.std.specs.Prelude.{◌==◌}
use Rattle.std.specs.List.{All, slice_split, onto_first}
use Rattle.std.specs.Str.Lines.{strip_carriage_return}
use Rattle.std.proofs.lemmas.List.{append-nil}
use Rattle.std.proofs.lemmas.List.Splits.{slice_split_none, length-slice_split}
use Rattle.sfm_lines.specs.Lines.{pieces_of, without_empty_last}
use Rattle.sfm_text.specs.Standing.{numbered}

-- the pieces with a front put before the first
abbrev pub behind_of : List ℕ → List (List ℕ) → List (List ℕ)
behind_of front [] = front ∷ []
behind_of front (piece ∷ pieces) = (front ++ piece) ∷ pieces

behind-nothing : (pieces : List (List ℕ)) → 0 < length pieces → behind_of [] pieces ≡ pieces
behind-nothing [] some = absurd (omega (arith, some))
behind-nothing (piece ∷ pieces) some = refl

onto-behind : (c : ℕ) (front : List ℕ) (pieces : List (List ℕ))
    → onto_first c (behind_of front pieces) ≡ behind_of (c ∷ front) pieces
onto-behind c front [] = refl
onto-behind c front (piece ∷ pieces) = refl

pub some-pieces : (p : ℕ → Bool) (text : List ℕ) → 0 < length (slice_split p text)
some-pieces p text = omega (arith, length-slice_split p text)

-- what is cut of one text goes on to what is cut of a longer one
abbrev GoesOn : (old new more : List (List ℕ)) → Type 0
GoesOn old new more = (ended : List (List ℕ)) (rest : List ℕ) → old ≡ ended ++ rest ∷ []
    → new ≡ ended ++ behind_of rest more

nothing-goes-on : (more : List (List ℕ)) → 0 < length more → GoesOn ([] ∷ []) more more
nothing-goes-on more some [] rest e =
    let none : rest ≡ [] = cc in
    rw none (sym (behind-nothing more some))
nothing-goes-on more some (first ∷ ended) rest e =
    absurd (omega (arith, length-append ended (rest ∷ []), ap length e))

end-goes-on : (old new more : List (List ℕ)) → 0 < length old → GoesOn old new more
    → GoesOn ([] ∷ old) ([] ∷ new) more
end-goes-on old new more some h [] rest e =
    let none : old ≡ [] = cc in
    absurd (omega (arith, some, ap length none))
end-goes-on old new more some h (first ∷ ended) rest e =
    let tail : old ≡ ended ++ rest ∷ [] = cc in
    let more' = h ended rest tail in
    cc

byte-goes-on : (c : ℕ) (old new more : List (List ℕ)) → 0 < length old → GoesOn old new more
    → GoesOn (onto_first c old) (onto_first c new) more
byte-goes-on c [] new more some h ended rest e = absurd (omega (arith, some))
byte-goes-on c (piece ∷ old) new more some h [] rest e =
    let last : rest ≡ c ∷ piece = cc in
    let one : piece ∷ old ≡ piece ∷ [] = cc in
    rw (h [] piece one, last) (onto-behind c piece more)
byte-goes-on c (piece ∷ old) new more some h (first ∷ ended) rest e =
    let front : c ∷ piece ≡ first = cc in
    let tail : piece ∷ old ≡ piece ∷ (ended ++ rest ∷ []) = cc in
    rw (h (piece ∷ ended) rest tail, ← front) refl

split-goes-on : (p : ℕ → Bool) (text more : List ℕ)
    → GoesOn (slice_split p text) (slice_split p (text ++ more)) (slice_split p more)
split-goes-on p [] more = nothing-goes-on (slice_split p more) (some-pieces p more)
split-goes-on p (c ∷ text) more =
    elim (p c) as
    (λ b. GoesOn (cond b ([] ∷ slice_split p text) (onto_first c (slice_split p text)))
    (cond b ([] ∷ slice_split p (text ++ more)) (onto_first c (slice_split p (text ++ more))))
    (slice_split p more)) [
      | true ↦ end-goes-on (slice_split p text) (slice_split p (text ++ more)) (slice_split p more)
          (some-pieces p text) (split-goes-on p text more)
      | false ↦ byte-goes-on c (slice_split p text) (slice_split p (text ++ more))
          (slice_split p more) (some-pieces p text) (split-goes-on p text more)
    ]

-- the pieces of a text with more bytes behind it: those that have ended stay, and the last one goes
-- on to the first of the further bytes
pub pieces-more : (text more : List ℕ) (ended : List (List ℕ)) (rest : List ℕ)
    → pieces_of 10 text ≡ ended ++ rest ∷ [] → pieces_of 10 (text ++ more) ≡ ended ++ behind_of rest
    (pieces_of 10 more)
pieces-more text more ended rest cut = split-goes-on (λ c. c == 10) text more ended rest cut

-- bytes without a line feed make the last piece longer
pub pieces-longer : (text more : List ℕ) (ended : List (List ℕ)) (rest : List ℕ)
    → All (λ c. (c == 10) ≡ false) more → pieces_of 10 text ≡ ended ++ rest ∷ []
    → pieces_of 10 (text ++ more) ≡ ended ++ (rest ++ more) ∷ []
pieces-longer text more ended rest plain cut =
    rw (pieces-more text more ended rest cut, slice_split_none (λ c. c == 10) more plain) refl

-- a line feed ends it
pub pieces-ended : (text : List ℕ) (ended : List (List ℕ)) (rest : List ℕ)
    → pieces_of 10 text ≡ ended ++ rest ∷ []
    → pieces_of 10 (text ++ 10 ∷ []) ≡ (ended ++ rest ∷ []) ++ [] ∷ []
pieces-ended text ended rest cut = pieces-more text (10 ∷ []) ended rest cut
    ∙ rw (append-nil rest) (sym (append_assoc ended (rest ∷ []) ([] ∷ [])))

-- the pieces but for an empty last one, where there are more behind those that have ended
pub without-last : (ended : List (List ℕ)) (piece : List ℕ) (pieces : List (List ℕ))
    → without_empty_last (ended ++ piece ∷ pieces) ≡ ended ++ without_empty_last (piece ∷ pieces)
without-last [] piece pieces = refl
without-last (first ∷ ended) piece pieces = keep first ended piece pieces
    ∙ ap (λ (l : List (List ℕ)). first ∷ l) (without-last ended piece pieces)
  where
    keep : (first : List ℕ) (ended : List (List ℕ)) (piece : List ℕ) (pieces : List (List ℕ))
        → without_empty_last (first ∷ (ended ++ piece ∷ pieces)) ≡ first ∷ without_empty_last
        (ended ++ piece ∷ pieces)
    keep [] [] piece pieces = refl
    keep (c ∷ first) [] piece pieces = refl
    keep [] (next ∷ ended) piece pieces = refl
    keep (c ∷ first) (next ∷ ended) piece pieces = refl

-- lines of appended pieces: those behind are numbered from the count of those before
pub numbered-append : (number : ℕ) (pieces more : List (List ℕ))
    → numbered number (pieces ++ more) ≡ numbered number pieces ++ numbered (number + length pieces)
    more
numbered-append number [] more = ap (λ (n : ℕ). numbered n more) (omega arith)
numbered-append number (piece ∷ pieces) more =
    let count : (number + 1) + length pieces ≡ number + length (piece ∷ pieces) = omega arith in
    ap (λ (l : List (ℕ × List ℕ)). (number, strip_carriage_return piece) ∷ l)
    (numbered-append (number + 1) pieces more
    ∙ ap (λ (n : ℕ). numbered (number + 1) pieces ++ numbered n more) count)
