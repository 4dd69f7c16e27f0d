-- The first reason of a long line of a rank, from what passes over its tokens tell.
use Rattle.std.proofs.Common.{◌≡◌, inl, inr, ◌<◌, ℕ, List, [], ◌∷◌, ◌++◌, length, get_or, codes, refl, ap, arith}
use Rattle.std.specs.List.{Any}
use Rattle.std.proofs.lemmas.List.Elements.{All-cons, All-nil}
use Rattle.sfm_kind.specs.Instance.{InstanceData}
use Rattle.sfm_lines.specs.declared.reason.Reason.TheVariants.{Shape, Number}
use Rattle.sfm_lines.specs.declared.word.RankKind.TheVariants.{NoRank, UniformRank}
use Rattle.sfm_lines.specs.declared.word.TermWord.TheVariants.{RankWord}
use Rattle.sfm_lines.specs.Parts.{LineParts, IsSeparator, HaveNoSeparator, IsCutAtColon, IsUniformLine, IsRankLine}
use Rattle.sfm_passes.specs.Passes.{IsReasonOf, HasTooMany, IsRankNamed}
use Rattle.sfm_lines.specs.ReadParts.{IsNumberOf}
use Rattle.sfm_lines.proofs.GroupCuts.{group_tokens}
use Rattle.sfm_lines.proofs.Colons.{none-any}
use Rattle.sfm_passes.proofs.LongReasons.{long-shape, long-number}
use Rattle.sfm_passes.proofs.Passed.{any-here, any-behind}

-- the second token of a line of a rank is the word of one
pub second : (number kind n k : List ℕ) (more rest : List (List ℕ))
    → number ∷ kind ∷ more ≡ n ∷ k ∷ rest → kind ≡ k
second number kind n k more rest e = cc

-- no line of a rank has another word there
pub no-rank : (number kind : List ℕ) (more : List (List ℕ)) → IsRankNamed NoRank kind
    → (parts : LineParts) → IsRankLine (number ∷ kind ∷ more) parts → ⊥
no-rank number kind more (u, l, g, t) parts (inl h) =
    u (second number kind h.number (codes "uniform") more (h.cap ∷ codes ":" ∷ h.elements)
    h.cut.cut)
no-rank number kind more (u, l, g, t) parts (inr (inl h)) =
    l (second number kind h.number (codes "laminar") more
    (codes ":" ∷ (h.elements ++ group_tokens h.groups)) h.head.tokens_are)
no-rank number kind more (u, l, g, t) parts (inr (inr (inl h))) =
    g (second number kind h.number (codes "graphic") more (codes ":" ∷ h.behind) h.head.tokens_are)
no-rank number kind more (u, l, g, t) parts (inr (inr (inr h))) =
    t (second number kind h.number (codes "transversal") more (codes ":" ∷ h.behind)
    h.head.tokens_are)

-- the word of a line of another rank begins otherwise
pub other-word : (word number n k : List ℕ) (more rest : List (List ℕ))
    → number ∷ word ∷ more ≡ n ∷ k ∷ rest → (get_or word 0 0 ≡ get_or k 0 0 → ⊥) → ⊥
other-word word number n k more rest e apart =
    apart (ap (λ (t : List ℕ). get_or t 0 0) (second number word n k more rest e))

-- a line of a rank with the word `uniform` is one of that rank
uniform-here : (number : List ℕ) (more : List (List ℕ)) (parts : LineParts)
    → IsRankLine (number ∷ codes "uniform" ∷ more) parts
    → IsUniformLine (number ∷ codes "uniform" ∷ more) parts
uniform-here number more parts (inl h) = h
uniform-here number more parts (inr (inl h)) =
    absurd (other-word (codes "uniform") number h.number (codes "laminar") more
    (codes ":" ∷ (h.elements ++ group_tokens h.groups)) h.head.tokens_are (λ e. omega (arith, e)))
uniform-here number more parts (inr (inr (inl h))) =
    absurd (other-word (codes "uniform") number h.number (codes "graphic") more
    (codes ":" ∷ h.behind) h.head.tokens_are (λ e. omega (arith, e)))
uniform-here number more parts (inr (inr (inr h))) =
    absurd (other-word (codes "uniform") number h.number (codes "transversal") more
    (codes ":" ∷ h.behind) h.head.tokens_are (λ e. omega (arith, e)))

-- ---- a uniform rank

module _ (number cap colon : List ℕ) (elements : List (List ℕ)) where
  module _ (parts : LineParts) (h : IsUniformLine
      (number ∷ codes "uniform" ∷ cap ∷ colon ∷ elements) parts) where
    same : number ∷ codes "uniform" ∷ cap ∷ colon ∷ elements ≡ h.number ∷ codes
        "uniform" ∷ h.cap ∷ codes ":" ∷ h.elements
    same = h.cut.cut

    pub uniform-number : IsSeparator number → ⊥
    uniform-number m = let e : number ≡ h.number = cc same in h.cut.unmarked_before 0 []
        (omega arith) (rw e at m)

    pub uniform-cap : IsSeparator cap → ⊥
    uniform-cap m = let e : cap ≡ h.cap = cc same in h.cut.unmarked_before 2 [] (omega arith)
        (rw e at m)

    pub uniform-colon : colon ≡ codes ":"
    uniform-colon = cc same

    pub uniform-elements : Any IsSeparator elements → ⊥
    uniform-elements any = let e : elements ≡ h.elements = cc same in none-any IsSeparator
        h.elements h.cut.unmarked_behind (rw e at any)

  module _ (is_colon : colon ≡ codes ":") (number_good : IsSeparator number → ⊥)
      (cap_good : IsSeparator cap → ⊥) (behind : HaveNoSeparator elements) where
    pub uniform-cut : IsCutAtColon (number ∷ codes "uniform" ∷ cap ∷ colon ∷ elements)
        (number ∷ codes "uniform" ∷ cap ∷ []) elements
    uniform-cut = record {
      cut = ap (λ (t : List ℕ). number ∷ codes "uniform" ∷ cap ∷ t ∷ elements) is_colon;
      unmarked_before = All-cons (λ token. IsSeparator token → ⊥) number
          (codes "uniform" ∷ cap ∷ []) number_good
          (All-cons (λ token. IsSeparator token → ⊥) (codes "uniform") (cap ∷ []) no-mark
          (All-cons (λ token. IsSeparator token → ⊥) cap [] cap_good
          (All-nil (λ token. IsSeparator token → ⊥))));
      unmarked_behind = behind;
    }
      where
        no-mark : IsSeparator (codes "uniform") → ⊥
        no-mark (inl e) = absurd (omega (arith, ap length e))
        no-mark (inr e) = absurd (omega (arith, ap length e))

module _ (i : InstanceData) (number cap colon : List ℕ) (elements more : List (List ℕ))
    (is : more ≡ cap ∷ colon ∷ elements) (long : 1000 < length more) where
  pub uniform-shape : ((parts : LineParts)
      → IsUniformLine (number ∷ codes "uniform" ∷ cap ∷ colon ∷ elements) parts → ⊥)
      → IsReasonOf i RankWord (number ∷ codes "uniform" ∷ more) Shape
  uniform-shape none = long-shape i RankWord (number ∷ codes "uniform" ∷ more)
      (λ parts h. none parts (rw is at (uniform-here number more parts h)))

  module _ (cut : IsCutAtColon (number ∷ codes "uniform" ∷ cap ∷ colon ∷ elements)
      (number ∷ codes "uniform" ∷ cap ∷ []) elements) where
    abbrev uniform-parts : LineParts
    uniform-parts = record {
      numbers = number ∷ cap ∷ [];
      elements = elements;
      rank = UniformRank;
      groups = [];
      labels = [];
    }

    uniform-line : IsRankLine (number ∷ codes "uniform" ∷ more) uniform-parts
    uniform-line = inl (record {
      number = number;
      cap = cap;
      elements = elements;
      cut = rw is cut;
      some = omega (arith, long, ap length is);
      parts_are = refl;
    })

    pub uniform-first : (IsNumberOf i.version RankWord number → ⊥)
        → IsReasonOf i RankWord (number ∷ codes "uniform" ∷ more) Number
    uniform-first none = long-number i RankWord (number ∷ codes "uniform" ∷ more) uniform-parts
        uniform-line (any-here (λ text. IsNumberOf i.version RankWord text → ⊥) number (cap ∷ []) _
        refl none)

    pub uniform-second : (IsNumberOf i.version RankWord cap → ⊥)
        → IsReasonOf i RankWord (number ∷ codes "uniform" ∷ more) Number
    uniform-second none = long-number i RankWord (number ∷ codes "uniform" ∷ more) uniform-parts
        uniform-line (any-behind (λ text. IsNumberOf i.version RankWord text → ⊥) number (cap ∷ [])
        _ refl (any-here (λ text. IsNumberOf i.version RankWord text → ⊥) cap [] _ refl none))

    pub uniform-many : IsNumberOf i.version RankWord number → IsNumberOf i.version RankWord cap
        → HasTooMany i.version RankWord (number ∷ codes "uniform" ∷ more) elements
    uniform-many good fits = record {
      parts = uniform-parts;
      shape = uniform-line;
      numbers = good.0 ∷ fits.0 ∷ [];
      are_numbers = (good.1, (fits.1, tt));
      elements_are = refl;
      no_groups = refl;
      no_labels = refl;
      many = omega (arith, long, ap length is);
    }
