-- Breakpoints behind others, with their bases.
use Rattle.std.proofs.Common.{◌≡◌, ℕ, ◌+◌, ◌<◌, ◌≤◌, List, [], ◌∷◌, ◌++◌, length, map, take, drop, get_or, ℤ, sym, ap, ◌∙◌, append_assoc}
use Rattle.std.specs.List.{All}
use Rattle.std.proofs.lemmas.List.{append-nil, map-append, take-append-drop, take_all, take_more}
use Rattle.std.proofs.lemmas.List.Elements.{All-append, All-nil, All-cons}
use Rattle.sfm_law.specs.declared.term.Term.{Ghosts}
use Rattle.sfm_law.specs.declared.breaks.Break.{Break}
use Rattle.sfm_slope.specs.declared.turn.Breakpoint.{Breakpoint}
use Rattle.sfm_slope.specs.Marks.{mark_of}
use Rattle.sfm_slope.specs.Points.{found_mark}
use Rattle.sfm_slope.specs.Behind.{AreBehind, HasSection, IsSectionOf}

-- what a list is mapped to behind others, with one element more
mapped_behind : {X Y : Type 0} (f : X → Y) (xs : List X) (i : ℕ) (d : X) (front done : List Y)
    (y : Y) → i < length xs → done ≡ front ++ map f (take i xs) → y ≡ f (get_or xs i d)
    → done ++ y ∷ [] ≡ front ++ map f (take (i + 1) xs)
mapped_behind f xs i d front done y l before is =
    rw (take_more xs i d l, map-append f (take i xs) (get_or xs i d ∷ []), before, is)
    (append_assoc front (map f (take i xs)) (f (get_or xs i d) ∷ []))

-- both parts of a list, one behind the other
mapped_parts : {X Y : Type 0} (f : X → Y) (xs : List X) (i : ℕ) (front mid last : List Y)
    → mid ≡ front ++ map f (take i xs) → last ≡ mid ++ map f (drop i xs) → last ≡ front ++ map f xs
mapped_parts f xs i front mid last one two =
    two ∙ (ap (λ z. z ++ map f (drop i xs)) one
    ∙ (append_assoc front (map f (take i xs)) (map f (drop i xs))
    ∙ (ap (λ z. front ++ z) (sym (map-append f (take i xs) (drop i xs)))
    ∙ ap (λ z. front ++ map f z) (take-append-drop i xs))))

module _ {X N : Type 0} {T : Ghosts X N} {terms : List X} {sizes : List ℤ}
    {before : List Break} where
  -- none at first
  pub behind_none : All (HasSection T terms sizes) before → AreBehind T terms sizes [] before before
  behind_none h = record { marks = sym (append-nil (map mark_of before)); bases = h }

  module _ (found : List Breakpoint) where
    -- one more
    pub behind_more : (i : ℕ) (point : Breakpoint) (b : Break) (after : List Break)
        → i < length found → point ≡ get_or found i point
        → AreBehind T terms sizes (take i found) before after → IsSectionOf T terms sizes point b
        → AreBehind T terms sizes (take (i + 1) found) before (after ++ b ∷ [])
    behind_more i point b after l is h here =
        let P = HasSection T terms sizes in
        record {
          marks = rw (map-append mark_of after (b ∷ []))
              (mapped_behind found_mark found i point (map mark_of before) (map mark_of after)
              (mark_of b) l h.marks (here.mark ∙ ap found_mark is));
          bases = All-append P after (b ∷ []) h.bases (All-cons P b [] here.bases (All-nil P));
        }

    -- all
    pub behind_all : (i : ℕ) (after : List Break) → length found ≤ i
        → AreBehind T terms sizes (take i found) before after
        → AreBehind T terms sizes found before after
    behind_all i after le h = rw (take_all i found le) at h

    -- both parts
    pub behind_parts : (i : ℕ) (mid after : List Break)
        → AreBehind T terms sizes (take i found) before mid
        → AreBehind T terms sizes (drop i found) mid after
        → AreBehind T terms sizes found before after
    behind_parts i mid after one two =
        record {
          marks = mapped_parts found_mark found i (map mark_of before) (map mark_of mid)
              (map mark_of after) one.marks two.marks;
          bases = two.bases;
        }
