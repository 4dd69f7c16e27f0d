-- Lines of ranks: each is a line of one rank, which its third word tells, and has one list of
-- parts.
use Rattle.std.proofs.Common.{◌≡◌, ℕ, nat_eq, List, [], ◌∷◌, if◌then◌else◌, get_or, codes, Option, Some, None, MatchOption, refl, sym, ap, ◌∙◌, inl, inr, subst}
use Rattle.std.specs.List.{AllZip}
use Rattle.sfm_lines.specs.declared.word.RankKind.{RankKind}
use Rattle.sfm_lines.specs.declared.word.RankKind.TheVariants.{NoRank, UniformRank, LaminarRank, GraphicRank, TransversalRank}
use Rattle.sfm_lines.specs.Parts.{LineParts, IsCutAt, IsLabelToken, IsRankHead, IsLabelledLine, IsUniformLine, IsLaminarLine, IsRankLine, AreLabelsOf}
use Rattle.sfm_lines.specs.CutParts.{AreLabelled, labelled_parts_of}
use Rattle.sfm_lines.proofs.Cutting.{front-same}
use Rattle.sfm_lines.proofs.Pieces.{uniform-same, laminar-same}
use Rattle.sfm_lines.proofs.Matches.{AllZip-same}

-- a token is cut in one way
pub cut-same : (b : ℕ) (token x y x' y' : List ℕ) → IsCutAt b token x y → IsCutAt b token x' y'
    → (x ≡ x') × (y ≡ y')
cut-same b token x y x' y' h g =
    front-same b x y x' y' h.none_before g.none_before (sym h.cut ∙ g.cut)

labels-same : (rank : RankKind) (text : List ℕ) (a b : List (List ℕ)) → AreLabelsOf rank text a
    → AreLabelsOf rank text b → a ≡ b
labels-same GraphicRank text a b (tail, head, cut, is) (tail', head', cut', is') =
    let (first, second) = cut-same 45 text tail head tail' head' cut cut' in
    is ∙ (rw (first, second) (sym is'))
labels-same TransversalRank text a b h g = h ∙ sym g
labels-same _ text a b h g = absurd h

pub token-same : (rank : RankKind) (token : List ℕ) (a b : List ℕ × List (List ℕ))
    → IsLabelToken rank token a → IsLabelToken rank token b → a ≡ b
token-same rank token (x, texts) (y, others) h g =
    let (name, behind) = cut-same 61 token x h.behind y g.behind h.named g.named in
    let labels : texts ≡ others = labels-same rank g.behind texts others (rw behind at h.labels)
    g.labels in
    cc

labelled-same : (rank : RankKind) (word : List ℕ) (tokens : List (List ℕ)) (p q : LineParts)
    → IsLabelledLine rank word tokens p → IsLabelledLine rank word tokens q → p ≡ q
labelled-same rank word tokens p q h g =
    let both : h.number ∷ word ∷ codes ":" ∷ h.behind ≡ g.number ∷ word ∷ codes ":" ∷ g.behind = sym
    h.head.tokens_are ∙ g.head.tokens_are in
    let number : h.number ≡ g.number = cc in
    let behind : h.behind ≡ g.behind = cc in
    let each : AllZip (IsLabelToken rank) g.behind h.entries = rw behind at h.each in
    let entries : h.entries ≡ g.entries = AllZip-same (IsLabelToken rank) (token-same rank) g.behind
    h.entries g.entries each g.each in
    h.parts_are ∙ (rw (number, entries) refl ∙ sym g.parts_are)

-- a line that begins so has the parts that its tokens have, or none
pub labelled-made : {P : Type 0} (f : P → LineParts) (rank : RankKind) (word : List ℕ)
    (tokens : List (List ℕ)) (number : List ℕ) (behind : List (List ℕ))
    → IsRankHead word tokens number behind → (r : Option P)
    → MatchOption r ((entries : List (List ℕ × List (List ℕ))) → AreLabelled rank behind entries
    → ⊥) (λ parts. (entries : List (List ℕ × List (List ℕ))) × AreLabelled rank behind entries
    × (f parts ≡ labelled_parts_of rank number entries))
    → MatchOption r ((parts : LineParts) → IsLabelledLine rank word tokens parts → ⊥)
    (λ parts. IsLabelledLine rank word tokens (f parts))
labelled-made f rank word tokens number behind head None none = λ parts line.
    let both : line.number ∷ word ∷ codes ":" ∷ line.behind ≡ number ∷ word ∷ codes
    ":" ∷ behind = sym line.head.tokens_are ∙ head.tokens_are in
    let same : line.behind ≡ behind = cc in
    let labelled : AreLabelled rank line.behind
    line.entries = record { some = line.some; each = line.each } in
    none line.entries (rw same at labelled)
labelled-made f rank word tokens number behind head (Some parts) (entries, labelled, is) =
    record {
      number = number;
      behind = behind;
      entries = entries;
      head = head;
      some = labelled.some;
      each = labelled.each;
      parts_are = is;
    }

-- a line with that rank is one of it
abbrev pub IsLineOfRank : RankKind → List (List ℕ) → LineParts → Type 0
IsLineOfRank NoRank tokens parts = ⊥
IsLineOfRank UniformRank tokens parts = IsUniformLine tokens parts
IsLineOfRank LaminarRank tokens parts = IsLaminarLine tokens parts
IsLineOfRank GraphicRank tokens parts = IsLabelledLine GraphicRank (codes "graphic") tokens parts
IsLineOfRank TransversalRank tokens parts =
    IsLabelledLine TransversalRank (codes "transversal") tokens parts

rank-of-uniform : (tokens : List (List ℕ)) (parts : LineParts) → IsUniformLine tokens parts
    → parts.rank ≡ UniformRank
rank-of-uniform tokens parts h = ap (λ (p : LineParts). p.rank) h.parts_are

rank-of-laminar : (tokens : List (List ℕ)) (parts : LineParts) → IsLaminarLine tokens parts
    → parts.rank ≡ LaminarRank
rank-of-laminar tokens parts h = ap (λ (p : LineParts). p.rank) h.parts_are

rank-of-labelled : (rank : RankKind) (word : List ℕ) (tokens : List (List ℕ)) (parts : LineParts)
    → IsLabelledLine rank word tokens parts → parts.rank ≡ rank
rank-of-labelled rank word tokens parts h = ap (λ (p : LineParts). p.rank) h.parts_are

pub line-of-rank : (tokens : List (List ℕ)) (parts : LineParts) → IsRankLine tokens parts
    → IsLineOfRank parts.rank tokens parts
line-of-rank tokens parts (inl h) =
    subst (λ (r : RankKind). IsLineOfRank r tokens parts) (sym (rank-of-uniform tokens parts h)) h
line-of-rank tokens parts (inr (inl h)) =
    subst (λ (r : RankKind). IsLineOfRank r tokens parts) (sym (rank-of-laminar tokens parts h)) h
line-of-rank tokens parts (inr (inr (inl h))) =
    subst (λ (r : RankKind). IsLineOfRank r tokens parts)
    (sym (rank-of-labelled GraphicRank (codes "graphic") tokens parts h)) h
line-of-rank tokens parts (inr (inr (inr h))) =
    subst (λ (r : RankKind). IsLineOfRank r tokens parts)
    (sym (rank-of-labelled TransversalRank (codes "transversal") tokens parts h)) h

-- the first byte of the second token tells the rank
abbrev second-of : List (List ℕ) → ℕ
second-of tokens = get_or (get_or tokens 1 []) 0 0

abbrev by_byte : ℕ → RankKind
by_byte c = if nat_eq c 117 then UniformRank else
    (if nat_eq c 108 then LaminarRank else (if nat_eq c 103 then GraphicRank else TransversalRank))

told-rank : (tokens : List (List ℕ)) (parts : LineParts) → IsRankLine tokens parts
    → by_byte (second-of tokens) ≡ parts.rank
told-rank tokens parts (inl h) = ap (λ (t : List (List ℕ)). by_byte (second-of t)) h.cut.cut
    ∙ sym (rank-of-uniform tokens parts h)
told-rank tokens parts (inr (inl h)) =
    ap (λ (t : List (List ℕ)). by_byte (second-of t)) h.head.tokens_are
    ∙ sym (rank-of-laminar tokens parts h)
told-rank tokens parts (inr (inr (inl h))) =
    ap (λ (t : List (List ℕ)). by_byte (second-of t)) h.head.tokens_are
    ∙ sym (rank-of-labelled GraphicRank (codes "graphic") tokens parts h)
told-rank tokens parts (inr (inr (inr h))) =
    ap (λ (t : List (List ℕ)). by_byte (second-of t)) h.head.tokens_are
    ∙ sym (rank-of-labelled TransversalRank (codes "transversal") tokens parts h)

one-rank : (tokens : List (List ℕ)) (p q : LineParts) (rank : RankKind) → IsRankLine tokens p
    → IsRankLine tokens q → p.rank ≡ rank → IsLineOfRank rank tokens q
one-rank tokens p q rank h g is =
    let same : q.rank ≡ rank = sym (told-rank tokens q g) ∙ (told-rank tokens p h ∙ is) in
    subst (λ (r : RankKind). IsLineOfRank r tokens q) same (line-of-rank tokens q g)

-- the tokens of a rank line have one list of parts
pub rank-same : (tokens : List (List ℕ)) (p q : LineParts) → IsRankLine tokens p
    → IsRankLine tokens q → p ≡ q
rank-same tokens p q (inl h) g =
    uniform-same tokens p q h (one-rank tokens p q UniformRank (inl h) g
    (rank-of-uniform tokens p h))
rank-same tokens p q (inr (inl h)) g =
    laminar-same tokens p q h (one-rank tokens p q LaminarRank (inr (inl h)) g
    (rank-of-laminar tokens p h))
rank-same tokens p q (inr (inr (inl h))) g =
    labelled-same GraphicRank (codes "graphic") tokens p q h
    (one-rank tokens p q GraphicRank (inr (inr (inl h))) g
    (rank-of-labelled GraphicRank (codes "graphic") tokens p h))
rank-same tokens p q (inr (inr (inr h))) g =
    labelled-same TransversalRank (codes "transversal") tokens p q h
    (one-rank tokens p q TransversalRank (inr (inr (inr h))) g
    (rank-of-labelled TransversalRank (codes "transversal") tokens p h))

-- a line that is of none of the ranks but perhaps a graphic one
pub rank-made : {P : Type 0} (f : P → LineParts) (tokens : List (List ℕ))
    → ((parts : LineParts) → IsUniformLine tokens parts → ⊥)
    → ((parts : LineParts) → IsLaminarLine tokens parts → ⊥)
    → ((parts : LineParts) → IsLabelledLine TransversalRank (codes "transversal") tokens parts → ⊥)
    → (r : Option P)
    → MatchOption r ((parts : LineParts) → IsLabelledLine GraphicRank (codes "graphic") tokens parts
    → ⊥) (λ parts. IsLabelledLine GraphicRank (codes "graphic") tokens (f parts))
    → MatchOption r ((parts : LineParts) → IsRankLine tokens parts → ⊥)
    (λ parts. IsRankLine tokens (f parts))
rank-made f tokens uniform laminar entries None h = none-of
  where
    none-of : (parts : LineParts) → IsRankLine tokens parts → ⊥
    none-of parts (inl u) = uniform parts u
    none-of parts (inr (inl l)) = laminar parts l
    none-of parts (inr (inr (inl g))) = h parts g
    none-of parts (inr (inr (inr t))) = entries parts t
rank-made f tokens uniform laminar entries (Some parts) h = inr (inr (inl h))
