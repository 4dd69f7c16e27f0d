-- The first reason of a line of a laminar rank, from what passes over its pieces tell.
use Rattle.std.proofs.Common.{◌≡◌, inl, inr, ◌<◌, ◌≤◌, ℕ, List, [], ◌∷◌, ◌++◌, length, map, codes, Contains, ℤ, Bool, true, false, MatchBool, refl, sym, ap, ◌∙◌, arith}
use Rattle.std.specs.List.{All, Any, AllZip}
use Rattle.std.proofs.lemmas.List.Elements.{All-nil}
use Rattle.sfm_kind.specs.Names.{AreElementNames}
use Rattle.sfm_kind.specs.Instance.{InstanceData}
use Rattle.sfm_lines.specs.declared.reason.Reason.TheVariants.{Shape, Number, Name, Twice}
use Rattle.sfm_passes.specs.declared.token_test.TokenTest.TheVariants.{Element}
use Rattle.sfm_passes.specs.declared.group_test.GroupTest.TheVariants.{Whole, Cap, Once}
use Rattle.sfm_lines.specs.declared.word.TermWord.TheVariants.{RankWord}
use Rattle.sfm_lines.specs.Parts.{LineParts, IsSeparator, HaveNoSeparator, IsLaminarLine, IsRankLine}
use Rattle.sfm_lines.specs.CutParts.{IsGroupCut, AreGroupsCut, cut_at_semicolons, laminar_parts_of}
use Rattle.sfm_lines.specs.TermLines.{IsNumberFor, IsElement, StandsTwice}
use Rattle.sfm_lines.specs.Reading.{HasStranger}
use Rattle.sfm_passes.specs.Passes.{Holds, IsReasonOf}
use Rattle.sfm_lines.specs.ReadParts.{IsNumberOf}
use Rattle.sfm_passes.specs.GroupPasses.{IsWhole, HasCap, AreShapedGroups, GroupFails, HasMembers, LacksMember, laminar_tokens}
use Rattle.sfm_lines.proofs.Colons.{none-any}
use Rattle.sfm_lines.proofs.GroupCuts.{group_tokens, groups-cut, groups-behind, groups-each}
use Rattle.sfm_passes.proofs.LongRanks.{other-word}
use Rattle.sfm_passes.proofs.LongReasons.{AreNumbers, long-shape, long-number, long-name, long-stranger, long-element, long-member}
use Rattle.sfm_lines.proofs.Matches.{AllZip-at}
use Rattle.sfm_passes.proofs.Passed.{any-here, any-behind, all-matched, matched-each, matched-one, matched-all}

-- a line of a rank with the word `laminar` is one of that rank
laminar-here : (number : List ℕ) (behind : List (List ℕ)) (parts : LineParts)
    → IsRankLine (laminar_tokens number behind) parts
    → IsLaminarLine (laminar_tokens number behind) parts
laminar-here number behind parts (inl h) =
    absurd (other-word (codes "laminar") number h.number (codes "uniform") (codes ":" ∷ behind)
    (h.cap ∷ codes ":" ∷ h.elements) h.cut.cut (λ e. omega (arith, e)))
laminar-here number behind parts (inr (inl h)) = h
laminar-here number behind parts (inr (inr (inl h))) =
    absurd (other-word (codes "laminar") number h.number (codes "graphic") (codes ":" ∷ behind)
    (codes ":" ∷ h.behind) h.head.tokens_are (λ e. omega (arith, e)))
laminar-here number behind parts (inr (inr (inr h))) =
    absurd (other-word (codes "laminar") number h.number (codes "transversal") (codes ":" ∷ behind)
    (codes ":" ∷ h.behind) h.head.tokens_are (λ e. omega (arith, e)))

-- without a colon behind the word there is no such line
pub laminar-colon : (i : InstanceData) (number colon : List ℕ) (behind : List (List ℕ))
    → (colon ≡ codes ":" → ⊥) → IsReasonOf i RankWord (number ∷ codes "laminar" ∷ colon ∷ behind)
    Shape
laminar-colon i number colon behind other =
    long-shape i RankWord (number ∷ codes "laminar" ∷ colon ∷ behind) none
  where
    none : (parts : LineParts) → IsRankLine (number ∷ codes "laminar" ∷ colon ∷ behind) parts → ⊥
    none parts (inl h) = other-word (codes "laminar") number h.number (codes "uniform")
        (colon ∷ behind) (h.cap ∷ codes ":" ∷ h.elements) h.cut.cut (λ e. omega (arith, e))
    none parts (inr (inl h)) =
        let both : number ∷ codes "laminar" ∷ colon ∷ behind ≡ h.number ∷ codes "laminar" ∷ codes
        ":" ∷ (h.elements ++ group_tokens h.groups) = h.head.tokens_are in
        let same : colon ≡ codes ":" = cc in
        other same
    none parts (inr (inr (inl h))) = other-word (codes "laminar") number h.number (codes "graphic")
        (colon ∷ behind) (codes ":" ∷ h.behind) h.head.tokens_are (λ e. omega (arith, e))
    none parts (inr (inr (inr h))) =
        other-word (codes "laminar") number h.number (codes "transversal") (colon ∷ behind)
        (codes ":" ∷ h.behind) h.head.tokens_are (λ e. omega (arith, e))

pub laminar-short : (i : InstanceData) (number : List ℕ)
    → IsReasonOf i RankWord (number ∷ codes "laminar" ∷ []) Shape
laminar-short i number = long-shape i RankWord (number ∷ codes "laminar" ∷ []) none
  where
    none : (parts : LineParts) → IsRankLine (number ∷ codes "laminar" ∷ []) parts → ⊥
    none parts (inl h) = omega (arith, ap length h.cut.cut)
    none parts (inr (inl h)) = omega (arith, ap length h.head.tokens_are)
    none parts (inr (inr (inl h))) = omega (arith, ap length h.head.tokens_are)
    none parts (inr (inr (inr h))) = omega (arith, ap length h.head.tokens_are)

-- some piece is none of a group
piece-none : (pieces : List (List (List ℕ))) (groups : List (List ℕ × List (List ℕ)))
    → AllZip IsGroupCut pieces groups → Any (λ piece. IsWhole piece → ⊥) pieces → ⊥
piece-none pieces groups each (k, piece, lt, e, none) =
    let (group, p) = AllZip-at IsGroupCut pieces groups k piece each lt in
    none (group, rw e at p)

module _ (i : InstanceData) (number : List ℕ) (elements behind : List (List ℕ))
    (pieces : List (List (List ℕ))) (is : cut_at_semicolons behind ≡ elements ∷ pieces) where
  laminar-same : (parts : LineParts) → IsRankLine (laminar_tokens number behind) parts
      → (h : IsLaminarLine (laminar_tokens number behind) parts) × (number ≡ h.number)
      × (elements ≡ h.elements) × AllZip IsGroupCut pieces h.groups
  laminar-same parts line =
      let h = laminar-here number behind parts line in
      let both : number ∷ codes "laminar" ∷ codes ":" ∷ behind ≡ h.number ∷ codes "laminar" ∷ codes
      ":" ∷ (h.elements ++ group_tokens h.groups) = h.head.tokens_are in
      let first : number ≡ h.number = cc in
      let tokens : behind ≡ h.elements ++ group_tokens h.groups = cc in
      let cut = groups-cut h.elements h.groups h.some h.unmarked h.each in
      let both' : elements ∷ pieces ≡ h.elements ∷ cut.rest = sym is
      ∙ (ap cut_at_semicolons tokens ∙ cut.pieces_are) in
      let same : elements ≡ h.elements = cc in
      let rest : pieces ≡ cut.rest = cc in
      let each : AllZip IsGroupCut pieces h.groups = rw rest cut.each in
      (h, first, same, each)

  pub laminar-mark : IsSeparator number → IsReasonOf i RankWord (laminar_tokens number behind) Shape
  laminar-mark m = long-shape i RankWord (laminar_tokens number behind)
      (λ parts line. let (h, first, same, each) = laminar-same parts line in h.head.no_separator
      (rw first at m))

  pub laminar-empty : length elements ≤ 0
      → IsReasonOf i RankWord (laminar_tokens number behind) Shape
  laminar-empty few = long-shape i RankWord (laminar_tokens number behind)
      (λ parts line. let (h, first, same, each) = laminar-same parts
      line in omega (arith, few, h.some, ap length same))

  pub laminar-marked : Any IsSeparator elements
      → IsReasonOf i RankWord (laminar_tokens number behind) Shape
  laminar-marked any = long-shape i RankWord (laminar_tokens number behind)
      (λ parts line. let (h, first, same, each) = laminar-same parts line in none-any IsSeparator
      h.elements h.unmarked (rw same at any))

  pub laminar-piece : Any (GroupFails i.version Whole) pieces
      → IsReasonOf i RankWord (laminar_tokens number behind) Shape
  laminar-piece any = long-shape i RankWord (laminar_tokens number behind)
      (λ parts line. let (h, first, same, each) = laminar-same parts line in piece-none pieces
      h.groups each any)

  module _ (no_separator : IsSeparator number → ⊥) (some : 0 < length elements)
      (unmarked : HaveNoSeparator elements) (groups : List (List ℕ × List (List ℕ)))
      (each : AllZip IsGroupCut pieces groups) where
    abbrev pub laminar-parts : LineParts
    laminar-parts = laminar_parts_of number elements groups

    groups-are : AreGroupsCut (cut_at_semicolons behind) elements groups
    groups-are = record {
      rest = pieces;
      pieces_are = is;
      some = omega (arith, some);
      unmarked = unmarked;
      each = each;
    }

    pub laminar-line : IsRankLine (laminar_tokens number behind) laminar-parts
    laminar-line = inr (inl (record {
      number = number;
      elements = elements;
      groups = groups;
      head = record {
        tokens_are = ap (laminar_tokens number)
            (groups-behind behind elements groups groups-are);
        no_separator = no_separator;
      };
      some = omega (arith, some);
      unmarked = unmarked;
      each = groups-each (cut_at_semicolons behind) elements groups groups-are;
      parts_are = refl;
    }))

    pub laminar-number : (IsNumberOf i.version RankWord number → ⊥)
        → IsReasonOf i RankWord (laminar_tokens number behind) Number
    laminar-number none = long-number i RankWord (laminar_tokens number behind) laminar-parts
        laminar-line (any-here (λ text. IsNumberOf i.version RankWord text → ⊥) number
        (map (λ group. group.0) groups) _ refl none)

    wrong-cap : Any (GroupFails i.version Cap) pieces
        → Any (λ text. IsNumberOf i.version RankWord text → ⊥) (map (λ group. group.0) groups)
    wrong-cap any = matched-one IsGroupCut (GroupFails i.version Cap)
        (λ (group : List ℕ × List (List ℕ)). group.0)
        (λ text. IsNumberOf i.version RankWord text → ⊥)
        (λ piece group p (cap, names, e, none).
        let both : cap ∷ names ≡ group.0 ∷ group.1 = sym e ∙ p.cut in
        let same : group.0 ≡ cap = cc in
        rw same none) pieces groups each any

    pub laminar-cap : Any (GroupFails i.version Cap) pieces
        → IsReasonOf i RankWord (laminar_tokens number behind) Number
    laminar-cap any = long-number i RankWord (laminar_tokens number behind) laminar-parts
        laminar-line (any-behind (λ text. IsNumberOf i.version RankWord text → ⊥) number
        (map (λ group. group.0) groups) _ refl (wrong-cap any))

    module _ (good : IsNumberOf i.version RankWord number)
        (caps : All (HasCap i.version) pieces) where
      laminar-caps : (values : List ℤ)
          × AllZip (IsNumberFor i.version RankWord) (map (λ group. group.0) groups) values
      laminar-caps = matched-each IsGroupCut (HasCap i.version)
          (λ (group : List ℕ × List (List ℕ)). group.0) (IsNumberFor i.version RankWord)
          (λ piece group p h. h group.0 group.1 p.cut) pieces groups each caps

      laminar-values : AreNumbers i.version RankWord (number ∷ map (λ group. group.0) groups)
      laminar-values = (good.0 ∷ laminar-caps.0, (good.1, laminar-caps.1))

      pub laminar-name : Any (λ token. Holds i Element token → ⊥) elements
          → IsReasonOf i RankWord (laminar_tokens number behind) Name
      laminar-name any = long-name i RankWord (laminar_tokens number behind) laminar-parts
          laminar-line laminar-values any

      strange : Any (LacksMember elements) pieces → HasStranger laminar-parts
      strange any = matched-one IsGroupCut (LacksMember elements)
          (λ (group : List ℕ × List (List ℕ)). group.1)
          (λ names. Any (λ text. Contains elements text → ⊥) names)
          (λ piece group p (cap, names, e, lacks).
          let both : cap ∷ names ≡ group.0 ∷ group.1 = sym e ∙ p.cut in
          let same : group.1 ≡ names = cc in
          rw same lacks) pieces groups each any

      pub laminar-stranger : Any (LacksMember elements) pieces
          → IsReasonOf i RankWord (laminar_tokens number behind) Name
      laminar-stranger any = long-stranger i RankWord (laminar_tokens number behind) laminar-parts
          laminar-line laminar-values (strange any)

      module _ (named : AreElementNames i.names) (known : All (Holds i Element) elements)
          (members : All (HasMembers elements) pieces) where
        pub members-named : All (λ names. All (Contains elements) names)
            (map (λ group. group.1) groups)
        members-named = matched-all IsGroupCut (HasMembers elements)
            (λ (group : List ℕ × List (List ℕ)). group.1) (λ names. All (Contains elements) names)
            (λ piece group p h. h group.0 group.1 p.cut) pieces groups each members

        pub laminar-twice : StandsTwice elements
            → IsReasonOf i RankWord (laminar_tokens number behind) Twice
        laminar-twice twice = long-element i RankWord (laminar_tokens number behind) laminar-parts
            laminar-line laminar-values named (all-matched (IsElement i.names) elements known)
            members-named (All-nil _) twice

        again : Any (GroupFails i.version Once) pieces
            → Any (λ names. StandsTwice names) (map (λ group. group.1) groups)
        again any = matched-one IsGroupCut (GroupFails i.version Once)
            (λ (group : List ℕ × List (List ℕ)). group.1) (λ names. StandsTwice names)
            (λ piece group p (cap, names, e, twice).
            let both : cap ∷ names ≡ group.0 ∷ group.1 = sym e ∙ p.cut in
            let same : group.1 ≡ names = cc in
            rw same twice) pieces groups each any

        pub laminar-again : Any (GroupFails i.version Once) pieces
            → IsReasonOf i RankWord (laminar_tokens number behind) Twice
        laminar-again any = long-member i RankWord (laminar_tokens number behind) laminar-parts
            laminar-line laminar-values named (all-matched (IsElement i.names) elements known)
            members-named (All-nil _) (again any)

-- what the pieces are tried for last tells whether the line has its shape
pub shaped-by : (i : InstanceData) (number : List ℕ) (elements : List (List ℕ))
    (pieces : List (List (List ℕ))) → (IsSeparator number → ⊥) → 0 < length elements
    → HaveNoSeparator elements → (r : Bool)
    → MatchBool r (All IsWhole pieces) (Any (λ piece. IsWhole piece → ⊥) pieces)
    → MatchBool r (AreShapedGroups number elements pieces)
    ((behind : List (List ℕ)) → cut_at_semicolons behind ≡ elements ∷ pieces
    → IsReasonOf i RankWord (laminar_tokens number behind) Shape)
shaped-by i number elements pieces no_separator some unmarked true whole =
    record { no_separator = no_separator; some = some; unmarked = unmarked; whole = whole }
shaped-by i number elements pieces no_separator some unmarked false any =
    λ behind is. laminar-piece i number elements behind pieces is any
