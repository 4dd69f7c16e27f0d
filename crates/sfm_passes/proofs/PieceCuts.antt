-- The pieces of a line between semicolons alone, as tokens are passed one after another.
use Rattle.std.proofs.Common.{◌≡◌, ◌⊎◌, inl, inr, ℕ, ◌+◌, ◌-◌, ◌<◌, Bool, true, false, MatchBool, Option, Some, None, IfSome, Bor, List, [], ◌∷◌, ◌++◌, length, take, codes, refl, sym, ap, ◌∙◌, append_assoc, length-append, ⊎_elim, arith}
use Rattle.std.specs.List.{All}
use Rattle.std.proofs.lemmas.Bool.{false≢true}
use Rattle.std.proofs.lemmas.List.{append-nil}
use Rattle.std.proofs.lemmas.List.Elements.{All-push, All-nil}
use Rattle.std.proofs.lemmas.List.Splits.{slice_split_at, slice_split_none}
use Rattle.std.proofs.Math.Seq.{take-append_seam}
use Rattle.sfm_lines.specs.Lines.{tokens_of}
use Rattle.sfm_lines.specs.CutParts.{is_semicolon, cut_at_semicolons}
use Rattle.sfm_passes.specs.GroupPasses.{IsPieceCut, pieces_left}
use Rattle.sfm_lines.specs.Tokens.{IsClosed, IsFirstCut}

-- tokens of a line that have been passed, none of which is a semicolon alone, and what is left of
-- the line
pub record IsPassed (line left : List ℕ) : Type 0 where
  pub front : List ℕ
  pub cut : line ≡ front ++ left
  pub tokens : tokens_of line ≡ tokens_of front ++ tokens_of left
  pub ends : (left ≡ []) ⊎ IsClosed front
  pub none : All (λ token. is_semicolon token ≡ false) (tokens_of front)

pub nothing-passed : (line : List ℕ) → IsPassed line line
nothing-passed line = record {
  front = [];
  cut = refl;
  tokens = refl;
  ends = inr (λ rest. refl);
  none = All-nil (λ token. is_semicolon token ≡ false);
}

no-token : (line left token behind : List ℕ) → left ≡ [] → IsFirstCut left token behind → ⊥
no-token line left token behind none h = empty h.front h.one (sym h.cut ∙ none)
  where
    empty : (front : List ℕ) → tokens_of front ≡ token ∷ [] → front ++ behind ≡ [] → ⊥
    empty [] one e = omega (arith, ap length one)
    empty (c ∷ front) one e = omega (arith, ap length e)

pub one-passed : (line left token behind : List ℕ) → IsPassed line left
    → IsFirstCut left token behind → tokens_of left ≡ token ∷ tokens_of behind
    → is_semicolon token ≡ false → IsPassed line behind
one-passed line left token behind h first is other = at h.ends
  where
    at : (left ≡ []) ⊎ IsClosed h.front → IsPassed line behind
    at (inl none) = absurd (no-token line left token behind none first)
    at (inr closed) =
        let both : tokens_of (h.front ++ first.front) ≡ tokens_of h.front ++ token ∷ [] = closed
        first.front ∙ ap (λ (l : List (List ℕ)). tokens_of h.front ++ l) first.one in
        record {
          front = h.front ++ first.front;
          cut = h.cut ∙ (ap (λ (l : List ℕ). h.front ++ l) first.cut
              ∙ sym (append_assoc h.front first.front behind));
          tokens = h.tokens ∙ (ap (λ (l : List (List ℕ)). tokens_of h.front ++ l) is
              ∙ (sym (append_assoc (tokens_of h.front) (token ∷ []) (tokens_of behind))
              ∙ ap (λ (l : List (List ℕ)). l ++ tokens_of behind) (sym both)));
          ends = ⊎_elim
              (λ (none : behind ≡ []). inl none)
              (λ (closed' : IsClosed first.front). inr (λ rest.
              ap tokens_of (append_assoc h.front first.front rest)
              ∙ (closed (first.front ++ rest)
              ∙ (ap (λ (l : List (List ℕ)). tokens_of h.front ++ l) (closed' rest)
              ∙ (sym (append_assoc (tokens_of h.front) (tokens_of first.front) (tokens_of rest))
              ∙ ap (λ (l : List (List ℕ)). l ++ tokens_of rest) (sym (closed first.front)))))))
              first.ends;
          none = rw both (All-push (λ t. is_semicolon t ≡ false) (tokens_of h.front) token h.none
              other);
        }

-- a semicolon alone ends the piece
pub piece-ends : (line left token behind : List ℕ) → IsPassed line left
    → tokens_of left ≡ token ∷ tokens_of behind → token ≡ codes ";"
    → IsPieceCut (tokens_of line) (tokens_of (take (length line - length left) line))
    (tokens_of behind)
piece-ends line left token behind h is semicolon =
    let front : take (length line - length left)
    line ≡ h.front = ap (λ (l : List ℕ). take (length l - length left) l) h.cut
    ∙ front-of h.front left in
    rw front (record {
      none_before = h.none;
      cut = h.tokens ∙ ap (λ (l : List (List ℕ)). tokens_of h.front ++ l)
          (is ∙ ap (λ (t : List ℕ). t ∷ tokens_of behind) semicolon);
    })
  where
    front-of : (xs ys : List ℕ) → take (length (xs ++ ys) - length ys) (xs ++ ys) ≡ xs
    front-of xs ys = let n : length (xs ++ ys) - length ys ≡ length
        xs = omega (arith, length-append xs ys) in ap (λ (k : ℕ). take k (xs ++ ys)) n
        ∙ take-append_seam xs ys

-- and where no token is left, none of the line's is one
pub none-passed : (line left : List ℕ) → IsPassed line left → tokens_of left ≡ []
    → All (λ token. is_semicolon token ≡ false) (tokens_of line)
none-passed line left h none =
    let all : tokens_of line ≡ tokens_of h.front = h.tokens
    ∙ (ap (λ (l : List (List ℕ)). tokens_of h.front ++ l) none
    ∙ append-nil (tokens_of h.front)) in
    rw all h.none

-- ---- pieces

pub piece-first : (tokens piece rest : List (List ℕ)) → IsPieceCut tokens piece rest
    → cut_at_semicolons tokens ≡ piece ∷ cut_at_semicolons rest
piece-first tokens piece rest h = ap cut_at_semicolons h.cut
    ∙ slice_split_at is_semicolon piece (codes ";") rest h.none_before refl

pub piece-last : (tokens : List (List ℕ)) → All (λ token. is_semicolon token ≡ false) tokens
    → cut_at_semicolons tokens ≡ tokens ∷ []
piece-last tokens h = slice_split_none is_semicolon tokens h

-- ---- what is left of a line, if anything is

abbrev pub left_length : Option (Bor (List ℕ)) → ℕ
left_length None = 0
left_length (Some line) = 1 + length line.now

pub left-none : (left : Option (Bor (List ℕ))) → left ≡ None → pieces_left left ≡ []
left-none left e = ap pieces_left e

pub left-first : (left : Option (Bor (List ℕ))) (line piece : Bor (List ℕ))
    (rest : Option (Bor (List ℕ))) → left ≡ Some line
    → cut_at_semicolons (tokens_of line.now) ≡ tokens_of piece.now ∷ pieces_left rest
    → pieces_left left ≡ tokens_of piece.now ∷ pieces_left rest
left-first left line piece rest e is = ap pieces_left e ∙ is

pub left-smaller : (left rest : Option (Bor (List ℕ))) (line : Bor (List ℕ)) → left ≡ Some line
    → IfSome rest (λ r. length r.now < length line.now) → left_length rest < left_length left
left-smaller left rest line e smaller = rw e (at rest smaller)
  where
    at : (rest : Option (Bor (List ℕ))) → IfSome rest (λ r. length r.now < length line.now)
        → left_length rest < 1 + length line.now
    at None s = omega arith
    at (Some r) s = omega (arith, s)

-- what a test tells by a truth value
pub by-yes : (b : Bool) (P Q : Type 0) → b ≡ true → MatchBool b P Q → P
by-yes true P Q e h = h
by-yes false P Q e h = absurd (false≢true e)

pub by-no : (b : Bool) (P Q : Type 0) → b ≡ false → MatchBool b P Q → Q
by-no true P Q e h = absurd (false≢true (sym e))
by-no false P Q e h = h
