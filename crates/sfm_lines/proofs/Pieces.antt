-- Tokens that are cut at semicolons, and that a line is cut in one way.
use Rattle.std.proofs.Common.{◌≡◌, ℕ, suc, ◌≤◌, nat_eq, length, List, [], ◌∷◌, ◌++◌, Bool, true, false, cond, get_or, map, codes, Bor, Option, Some, None, MatchOption, refl, sym, ap, ◌∙◌, arith}
use Rattle.std.proofs.lemmas.Bool.{false≢true}
use Rattle.std.proofs.lemmas.Bool.Decides.{nat_tests}
use Rattle.std.specs.List.{slice_split, onto_first, IsFirstAndRest, AllZip}
use Rattle.std.proofs.lemmas.List.{length-map}
use Rattle.sfm_lines.specs.declared.word.RankKind.TheVariants.{UniformRank}
use Rattle.sfm_lines.specs.Parts.{LineParts, IsCutAtColon, IsUniformLine, IsRankHead, IsLaminarLine}
use Rattle.sfm_lines.specs.CutParts.{IsGroupCut, AreGroupsCut, is_semicolon, cut_at_semicolons, laminar_parts_of}
use Rattle.sfm_lines.proofs.Colons.{colon-same}
use Rattle.sfm_lines.proofs.GroupCuts.{group_tokens, groups-cut, groups-behind, groups-each}
use Rattle.sfm_lines.proofs.Repeats.{text-at}
use Rattle.sfm_lines.proofs.Matches.{AllZip-same}

-- cutting commutes with what the elements stand for
pub split-map : {X Y : Type 0} (f : X → Y) (p : Y → Bool) (xs : List X)
    → map (λ piece. map f piece) (slice_split (λ x. p (f x)) xs) ≡ slice_split p (map f xs)
split-map f p [] = refl
split-map f p (x ∷ xs) = at (p (f x)) (split-map f p xs)
  where
    onto : (pieces : List (List _)) → map (λ piece. map f piece) (onto_first x pieces) ≡ onto_first
        (f x) (map (λ piece. map f piece) pieces)
    onto [] = refl
    onto (piece ∷ pieces) = refl

    at : (b : Bool) → map (λ piece. map f piece) (slice_split (λ x. p (f x)) xs) ≡ slice_split p
        (map f xs)
        → map (λ piece. map f piece)
        (cond b ([] ∷ slice_split (λ x. p (f x)) xs)
        (onto_first x (slice_split (λ x. p (f x)) xs))) ≡ cond b ([] ∷ slice_split p (map f xs))
        (onto_first (f x) (slice_split p (map f xs)))
    at true e = ap (λ l. [] ∷ l) e
    at false e = onto (slice_split (λ x. p (f x)) xs) ∙ ap (λ l. onto_first (f x) l) e

-- lists of tokens, and what they point to
pub lists-cut : (tokens : List (Bor (List ℕ))) (pieces : List (Bor (List (Bor (List ℕ)))))
    → map (λ piece. piece.now) pieces ≡ slice_split (λ t. is_semicolon t.now) tokens
    → map (λ piece. map (λ t. t.now) piece.now) pieces ≡ cut_at_semicolons (map (λ t. t.now) tokens)
lists-cut tokens pieces h =
    let now : Bor (List ℕ) → List ℕ = λ t. t.now in
    twice pieces ∙ (ap (λ (l : List (List (Bor (List ℕ)))). map (λ piece. map now piece) l) h
    ∙ split-map now is_semicolon tokens)
  where
    twice : (pieces : List (Bor (List (Bor (List ℕ)))))
        → map (λ piece. map (λ t. t.now) piece.now) pieces ≡ map (λ piece. map (λ t. t.now) piece)
        (map (λ piece. piece.now) pieces)
    twice [] = refl
    twice (piece ∷ pieces) = ap (λ l. map (λ t. t.now) piece.now ∷ l) (twice pieces)

pub uniform-same : (tokens : List (List ℕ)) (p q : LineParts) → IsUniformLine tokens p
    → IsUniformLine tokens q → p ≡ q
uniform-same tokens p q h g =
    let (front, elements) = colon-same tokens (h.number ∷ codes "uniform" ∷ h.cap ∷ []) h.elements
    (g.number ∷ codes "uniform" ∷ g.cap ∷ []) g.elements h.cut g.cut in
    let number : h.number ≡ g.number = cc in
    let cap : h.cap ≡ g.cap = cc in
    h.parts_are ∙ (rw (number, cap, elements) refl ∙ sym g.parts_are)

group-same : (tokens : List (List ℕ)) (a b : List ℕ × List (List ℕ)) → IsGroupCut tokens a
    → IsGroupCut tokens b → a ≡ b
group-same tokens (c, names) (d, others) h g =
    let both : c ∷ names ≡ d ∷ others = sym h.cut ∙ g.cut in
    cc

-- pieces are those of one list of elements and one of groups
pub groups-same : (pieces : List (List (List ℕ))) (elements elements' : List (List ℕ))
    (groups groups' : List (List ℕ × List (List ℕ))) → AreGroupsCut pieces elements groups
    → AreGroupsCut pieces elements' groups' → (elements ≡ elements') × (groups ≡ groups')
groups-same pieces elements elements' groups groups' h g =
    let both : elements ∷ h.rest ≡ elements' ∷ g.rest = sym h.pieces_are ∙ g.pieces_are in
    let first : elements ≡ elements' = cc in
    let rest : h.rest ≡ g.rest = cc in
    let each : AllZip IsGroupCut g.rest groups = rw rest at h.each in
    (first, AllZip-same IsGroupCut group-same g.rest groups groups' each g.each)

pub laminar-same : (tokens : List (List ℕ)) (p q : LineParts) → IsLaminarLine tokens p
    → IsLaminarLine tokens q → p ≡ q
laminar-same tokens p q h g =
    let both : h.number ∷ codes "laminar" ∷ codes ":" ∷ (h.elements ++ group_tokens h.groups)
    ≡ g.number ∷ codes "laminar" ∷ codes ":" ∷ (g.elements ++ group_tokens g.groups) =
    sym h.head.tokens_are ∙ g.head.tokens_are in
    let number : h.number ≡ g.number = cc in
    let behind : h.elements ++ group_tokens h.groups ≡ g.elements ++ group_tokens g.groups = cc in
    let cut : AreGroupsCut (cut_at_semicolons (g.elements ++ group_tokens g.groups)) h.elements
    h.groups = rw behind at (groups-cut h.elements h.groups h.some h.unmarked h.each) in
    let (elements, groups) = groups-same (cut_at_semicolons (g.elements ++ group_tokens g.groups))
    h.elements g.elements h.groups g.groups cut
    (groups-cut g.elements g.groups g.some g.unmarked g.each) in
    h.parts_are ∙ (rw (number, elements, groups) refl ∙ sym g.parts_are)

pub some-texts : (texts : List (Bor (List ℕ))) → false ≡ nat_eq (length texts) 0
    → 1 ≤ length (map (λ t. t.now) texts)
some-texts [] h = absurd (false≢true h)
some-texts (t ∷ texts) h = omega arith

not-zero : (n : ℕ) → nat_eq (suc n) 0 ≡ false
not-zero n = grind (arith, nat_tests)

pub none-texts : (texts : List (Bor (List ℕ))) (others : List (List ℕ))
    → others ≡ map (λ t. t.now) texts → 1 ≤ length others → true ≡ nat_eq (length texts) 0 → ⊥
none-texts [] others e some h = omega (arith, some, ap length e)
none-texts (t ∷ texts) others e some h = false≢true (sym (not-zero (length texts)) ∙ sym h)

-- the word before the cap, and a line that has it
pub uniform-word : (before : List (Bor (List ℕ))) (number most : List ℕ) (d : Bor (List ℕ))
    → number ∷ codes "uniform" ∷ most ∷ [] ≡ map (λ t. t.now) before
    → (get_or before 1 d).now ≡ codes "uniform"
uniform-word before number most d e =
    sym (text-at before 1 d
    (omega (arith, ap length e, length-map before (λ (t : Bor (List ℕ)). t.now))))
    ∙ sym (ap (λ (l : List (List ℕ)). get_or l 1 []) e)

pub uniform-made : (tokens : List (List ℕ)) (before elements : List (Bor (List ℕ)))
    (a m b : Bor (List ℕ)) (numbers : List (Bor (List ℕ)))
    → IsCutAtColon tokens (map (λ t. t.now) before) (map (λ t. t.now) elements) → length before ≡ 3
    → (get_or before 1 m).now ≡ codes "uniform" → 1 ≤ length (map (λ t. t.now) elements)
    → numbers ≡ get_or before 0 a ∷ get_or before 2 b ∷ []
    → IsUniformLine tokens (record {
      numbers = map (λ t. t.now) numbers;
      elements = map (λ t. t.now) elements;
      rank = UniformRank;
      groups = [];
      labels = [];
    })
uniform-made tokens [] elements a m b numbers cut three word some is = absurd (omega (arith, three))
uniform-made tokens (x ∷ []) elements a m b numbers cut three word some is =
    absurd (omega (arith, three))
uniform-made tokens (x ∷ y ∷ []) elements a m b numbers cut three word some is =
    absurd (omega (arith, three))
uniform-made tokens (x ∷ y ∷ z ∷ []) elements a m b numbers cut three word some is = record {
  number = x.now;
  cap = z.now;
  elements = map (λ t. t.now) elements;
  cut = rw word at cut;
  some = some;
  parts_are = rw is refl;
}
uniform-made tokens (x ∷ y ∷ z ∷ w ∷ before) elements a m b numbers cut three word some is =
    absurd (omega (arith, three))

-- the first of lists of tokens, and the others
pub first-lists : (pieces : List (Bor (List (Bor (List ℕ))))) (first : Bor (List (Bor (List ℕ))))
    (rest : List (Bor (List (Bor (List ℕ))))) → IsFirstAndRest pieces first rest
    → map (λ piece. map (λ t. t.now) piece.now) pieces ≡ map (λ t. t.now) first.now ∷ map
    (λ piece. map (λ t. t.now) piece.now) rest
first-lists pieces first rest h =
    ap (λ (l : List (Bor (List (Bor (List ℕ))))). map (λ piece. map (λ t. t.now) piece.now) l) h.0

-- what stands behind the elements is cut into the groups
pub each-cut : (pieces : List (List (List ℕ))) (first : List (List ℕ)) (rest : List (List (List ℕ)))
    (elements : List (List ℕ)) (groups : List (List ℕ × List (List ℕ))) → pieces ≡ first ∷ rest
    → AreGroupsCut pieces elements groups → AllZip IsGroupCut rest groups
each-cut pieces first rest elements groups e h =
    let both : elements ∷ h.rest ≡ first ∷ rest = sym h.pieces_are ∙ e in
    let same : h.rest ≡ rest = cc in
    rw same at h.each

-- a line that begins so has the parts that its pieces have, or none
pub laminar-made : {P : Type 0} (f : P → LineParts) (tokens : List (List ℕ)) (number : List ℕ)
    (behind : List (List ℕ)) → IsRankHead (codes "laminar") tokens number behind → (r : Option P)
    → MatchOption r ((elements : List (List ℕ)) (groups : List (List ℕ × List (List ℕ)))
    → AreGroupsCut (cut_at_semicolons behind) elements groups → ⊥)
    (λ parts. (elements : List (List ℕ)) × (groups : List (List ℕ × List (List ℕ)))
    × AreGroupsCut (cut_at_semicolons behind) elements groups
    × (f parts ≡ laminar_parts_of number elements groups))
    → MatchOption r ((parts : LineParts) → IsLaminarLine tokens parts → ⊥)
    (λ parts. IsLaminarLine tokens (f parts))
laminar-made f tokens number behind head None none = λ parts line.
    let both : line.number ∷ codes "laminar" ∷ codes
    ":" ∷ (line.elements ++ group_tokens line.groups) ≡ number ∷ codes "laminar" ∷ codes
    ":" ∷ behind = sym line.head.tokens_are ∙ head.tokens_are in
    let same : line.elements ++ group_tokens line.groups ≡ behind = cc in
    none line.elements line.groups
    (rw same at (groups-cut line.elements line.groups line.some line.unmarked line.each))
laminar-made f tokens number behind head (Some parts) (elements, groups, cut, is) = record {
  number = number;
  elements = elements;
  groups = groups;
  head = rw (groups-behind behind elements groups cut) at head;
  some = cut.some;
  unmarked = cut.unmarked;
  each = groups-each (cut_at_semicolons behind) elements groups cut;
  parts_are = is;
}
