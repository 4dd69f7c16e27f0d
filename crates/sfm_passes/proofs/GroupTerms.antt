-- The groups that the pieces of a line tell, those that are kept as they are read one after
-- another, and the term of the line.
use Rattle.std.proofs.Common.{◌≡◌, ◌<◌, ◌+◌, ℕ, suc, List, [], ◌∷◌, ◌++◌, length, get_or, map, ℤ, pos, Option, Some, None, MatchOption, refl, sym, ap, ◌∙◌, length-append, add-one, arith}
use Rattle.std.specs.List.{All, AllZip}
use Rattle.std.proofs.lemmas.Int.{ints}
use Rattle.std.proofs.lemmas.List.{same_lists, length-map, get_or-map, get_or_append_left}
use Rattle.std.proofs.lemmas.List.Elements.{All-nil}
use Rattle.std.proofs.lemmas.List.FromFn.{length-map-range_with_len, get_or-map-range_with_len}
use Rattle.sfm_spec.specs.Kinds.{Group}
use Rattle.sfm_spec.specs.Bounds.{AreElements}
use Rattle.sfm_kind.specs.Names.{AreElementNames}
use Rattle.sfm_kind.specs.Instance.{InstanceData}
use Rattle.sfm_kind.specs.declared.kind.Kind.TheVariants.{Laminar}
use Rattle.sfm_kind.specs.declared.version.Version.{Version}
use Rattle.sfm_laminar.specs.Crossing.{IsCrossing, group_at, no_group}
use Rattle.sfm_laminar.specs.Groups.{IsGroup, IsBelow}
use Rattle.sfm_laminar.specs.declared.laminar.Laminar as laminars
use Rattle.sfm_lines.specs.declared.reason.Reason.TheVariants.{Law}
use Rattle.sfm_lines.specs.declared.word.TermWord.TheVariants.{RankWord}
use Rattle.sfm_lines.specs.Parts.{LineParts}
use Rattle.sfm_lines.specs.CutParts.{IsGroupCut, cut_at_semicolons, laminar_parts_of}
use Rattle.sfm_lines.specs.RankLines.{members_of, group_of, groups_of}
use Rattle.sfm_lines.specs.LeastGroups.{with_group, least_groups}
use Rattle.sfm_lines.specs.TermLines.{IsNumberFor, IsElement, StandsTwice}
use Rattle.sfm_lines.specs.ReadParts.{IsTermRead}
use Rattle.sfm_passes.specs.Passes.{IsReasonOf}
use Rattle.sfm_passes.specs.GroupPasses.{IsWhole, HasCap, IsOnce, AreGoodGroups, IsGroupOf, laminar_tokens}
use Rattle.sfm_lines.proofs.LeastGroups.{with-more, least-each, crossing-from, crossing-for, least-caps}
use Rattle.sfm_passes.proofs.LongLaminar.{laminar-line, members-named}
use Rattle.sfm_lines.proofs.Matches.{AllZip-push, AllZip-both, All-AllZip, length-AllZip}
use Rattle.sfm_lines.proofs.Numbers.{given-number}
use Rattle.sfm_lines.proofs.Members.{members-ascend, members-below}
use Rattle.sfm_passes.proofs.Passed.{all-matched, matched-all, passed-more, passed-all}
use Rattle.sfm_lines.proofs.TermReasons.{twice-places, elements-placed, at-law, none-total}

module _ (version : Version) where
  -- ---- one piece

  group-there : (elements piece : List (List ℕ)) → IsWhole piece → HasCap version piece
      → (g : Group) × IsGroupOf version elements piece g
  group-there elements piece (cut, whole) caps =
      let (value, number) = caps cut.0 cut.1 whole.cut in (
        record { cap = value; members = members_of elements cut.1 },
        record { cut = cut; whole = whole; is_cap = number; are_members = refl },
      )

  pub group-made : (elements piece : List (List ℕ)) (cap : List ℕ) (names : List (List ℕ))
      (g : Group) → IsWhole piece → piece ≡ cap ∷ names → IsNumberFor version RankWord cap g.cap
      → g.members ≡ members_of elements names → IsGroupOf version elements piece g
  group-made elements piece cap names g (cut, whole) is number members =
      let both : cut.0 ∷ cut.1 ≡ cap ∷ names = sym whole.cut ∙ is in
      let first : cut.0 ≡ cap = cc in
      let rest : cut.1 ≡ names = cc in
      record { cut = cut; whole = whole; is_cap = rw first number; are_members = rw rest members }

  group-sound : (elements piece : List (List ℕ)) (g : Group) → IsGroupOf version elements piece g
      → IsGroup g
  group-sound elements piece g h =
      record {
        low = h.is_cap.1;
        given = given-number version RankWord h.cut.0 g.cap h.is_cap;
        ascending = rw (h.are_members) (members-ascend elements h.cut.1);
      }

  group-below : (elements piece : List (List ℕ)) (g : Group) → IsGroupOf version elements piece g
      → IsBelow (length elements) g
  group-below elements piece g h = rw (h.are_members) (members-below elements h.cut.1)

  -- ---- pieces that have been read

  pub record KeptOf (elements : List (List ℕ)) (pieces left : List (List (List ℕ)))
      (kept : List Group) : Type 0 where
    pub done : List Group
    pub before : List (List (List ℕ))
    pub cut : pieces ≡ before ++ left
    pub each : AllZip (IsGroupOf version elements) before done
    pub kept_is : kept ≡ least_groups done

  zip-front : {A B : Type 0} (P : A → B → Type 0) (xs us : List A) (ys : List B) → xs ≡ us
      → AllZip P us ys → AllZip P xs ys
  zip-front P xs us ys e h = rw e h

  module _ (elements : List (List ℕ)) (pieces left : List (List (List ℕ))) (kept : List Group) where
    pub kept-sound : KeptOf elements pieces left kept → All IsGroup kept
    kept-sound h = rw (h.kept_is)
        (least-each IsGroup h.done (All-AllZip (IsGroupOf version elements) IsGroup
        (group-sound elements) h.before h.done h.each))

    pub kept-below : KeptOf elements pieces left kept → (k : ℕ) → k ≡ length elements
        → All (IsBelow k) kept
    kept-below h k is = rw (is, h.kept_is)
        (least-each (IsBelow (length elements)) h.done
        (All-AllZip (IsGroupOf version elements) (IsBelow (length elements)) (group-below elements)
        h.before h.done h.each))

    pub kept-more : KeptOf elements pieces left kept
        → (piece : List (List ℕ)) (rest : List (List (List ℕ))) (g : Group) (more : List Group)
        → left ≡ piece ∷ rest → IsGroupOf version elements piece g → more ≡ with_group kept g
        → KeptOf elements pieces rest more
    kept-more h piece rest g more is one new = record {
      done = h.done ++ g ∷ [];
      before = h.before ++ piece ∷ [];
      cut = passed-more h.before piece rest left pieces h.cut is;
      each = AllZip-push (IsGroupOf version elements) h.before h.done piece g h.each one;
      kept_is = new ∙ (ap (λ (l : List Group). with_group l g) h.kept_is
          ∙ sym (with-more [] h.done g));
    }

    pub kept-all : KeptOf elements pieces left kept → left ≡ [] → (all : List Group)
        × AllZip (IsGroupOf version elements) pieces all × (kept ≡ least_groups all)
    kept-all h none = (
      h.done,
      zip-front (IsGroupOf version elements) pieces h.before h.done
          (passed-all h.before left pieces h.cut none) h.each,
      h.kept_is,
    )

  pub nothing-kept : (elements : List (List ℕ)) (pieces : List (List (List ℕ)))
      → KeptOf elements pieces pieces []
  nothing-kept elements pieces =
      record { done = []; before = []; cut = refl; each = tt; kept_is = refl }

  all-behind : {X : Type 0} (P : X → Type 0) (before left : List X) → All P (before ++ left)
      → All P left
  all-behind P [] left h = h
  all-behind P (x ∷ before) left h =
      all-behind P before left (λ k d lt. h (suc k) d (omega (arith, lt)))

  pub left-holds : (P : List (List ℕ) → Type 0) (elements : List (List ℕ))
      (pieces left : List (List (List ℕ))) (kept : List Group) → KeptOf elements pieces left kept
      → (piece : List (List ℕ)) (rest : List (List (List ℕ))) → left ≡ piece ∷ rest → All P pieces
      → P piece
  left-holds P elements pieces left kept h piece rest is all =
      let behind : All P (piece ∷ rest) = rw is at
      (all-behind P h.before left (rw (h.cut) at all)) in
      behind 0 piece (omega arith)

  both-zip : {A B : Type 0} (P : A → B → Type 0) (xs us : List A) (ys vs : List B) → AllZip P xs ys
      → AllZip P us vs → AllZip P (xs ++ us) (ys ++ vs)
  both-zip P [] us [] vs h g = g
  both-zip P [] us (y ∷ ys) vs h g = absurd h
  both-zip P (x ∷ xs) us [] vs h g = absurd h
  both-zip P (x ∷ xs) us (y ∷ ys) vs h g = (h.0, both-zip P xs us ys vs h.1 g)

  crossing-more : (done more : List Group) → ((i : ℕ) × (j : ℕ) × IsCrossing done i j) → (i : ℕ)
      × (j : ℕ) × IsCrossing (done ++ more) i j
  crossing-more done more (i, j, h) =
      let lt : i < length done = omega (arith, h.order, h.in_range) in
      let first : group_at (done ++ more) i ≡ group_at done i = get_or_append_left done more
      no_group i lt in
      let second : group_at (done ++ more) j ≡ group_at done j = get_or_append_left done more
      no_group j h.in_range in (
        i,
        j,
        record {
          order = h.order;
          in_range = omega (arith, h.in_range, length-append done more);
          cross = rw (first, second) h.cross;
        },
      )

  -- kept groups that cross are told of all groups, those too that have not been read
  pub kept-cross : (elements : List (List ℕ)) (pieces left : List (List (List ℕ)))
      (kept : List Group) → KeptOf elements pieces left kept → All IsWhole pieces
      → All (HasCap version) pieces → ((i : ℕ) × (j : ℕ) × IsCrossing kept i j)
      → (all : List Group) × AllZip (IsGroupOf version elements) pieces all
      × ((i : ℕ) × (j : ℕ) × IsCrossing all i j)
  kept-cross elements pieces left kept h whole caps cross =
      let whole' = all-behind IsWhole h.before left (rw (h.cut) at whole) in
      let caps' = all-behind (HasCap version) h.before left (rw (h.cut) at caps) in
      let (more, each) = all-matched (IsGroupOf version elements) left
      (λ k d lt. group-there elements (get_or left k d) (whole' k d lt) (caps' k d lt)) in (
        h.done ++ more,
        zip-front (IsGroupOf version elements) pieces (h.before ++ left)
            (h.done ++ more) h.cut (both-zip (IsGroupOf version elements) h.before left h.done more
            h.each each),
        crossing-more h.done more (crossing-from h.done (rw (h.kept_is) at cross)),
      )

  -- ---- all pieces

  group-same : (cap : ℤ) (members : List ℕ) (g : Group) → cap ≡ g.cap → members ≡ g.members
      → record { cap = cap; members = members } ≡ g
  group-same cap members g e f = rw (e, f) refl

  caps-zip : (elements : List (List ℕ)) (pieces : List (List (List ℕ)))
      (groups : List (List ℕ × List (List ℕ))) (all : List Group) → AllZip IsGroupCut pieces groups
      → AllZip (IsGroupOf version elements) pieces all
      → AllZip (IsNumberFor version RankWord) (map (λ group. group.0) groups) (map (λ g. g.cap) all)
  caps-zip elements [] [] [] h k = tt
  caps-zip elements [] [] (g ∷ all) h k = absurd k
  caps-zip elements [] (group ∷ groups) all h k = absurd h
  caps-zip elements (piece ∷ pieces) [] all h k = absurd h
  caps-zip elements (piece ∷ pieces) (group ∷ groups) [] h k = absurd k
  caps-zip elements (piece ∷ pieces) (group ∷ groups) (g ∷ all) h k =
      let both : group.0 ∷ group.1 ≡ k.0.cut.0 ∷ k.0.cut.1 = sym h.0.cut ∙ k.0.whole.cut in
      let same : group.0 ≡ k.0.cut.0 = cc in
      (rw same k.0.is_cap, caps-zip elements pieces groups all h.1 k.1)

  groups-told : (number : List ℕ) (elements : List (List ℕ)) (pieces : List (List (List ℕ)))
      (groups : List (List ℕ × List (List ℕ))) (all : List Group) (w : ℤ)
      → AllZip IsGroupCut pieces groups → AllZip (IsGroupOf version elements) pieces all
      → groups_of (w ∷ map (λ g. g.cap) all) (laminar_parts_of number elements groups) ≡ all
  groups-told number elements pieces groups all w each told = same_lists _ all len at
    where
      values : List ℤ
      values = w ∷ map (λ g. g.cap) all

      len : length (groups_of (w ∷ map (λ g. g.cap) all) (laminar_parts_of number elements groups))
          ≡ length all
      len = omega (
        arith,
        length-map-range_with_len
            (λ i. group_of (w ∷ map (λ g. g.cap) all) (laminar_parts_of number elements groups) i) 0
            (length (map (λ group. group.1) groups)),
        length-map groups (λ (group : List ℕ × List (List ℕ)). group.1),
        length-AllZip IsGroupCut pieces groups each,
        length-AllZip (IsGroupOf version elements) pieces all told,
      )

      at : (k : ℕ) (d : Group) → k < length
          (groups_of (w ∷ map (λ g. g.cap) all) (laminar_parts_of number elements groups))
          → get_or (groups_of (w ∷ map (λ g. g.cap) all) (laminar_parts_of number elements groups))
          k d ≡ get_or all k d
      at k d lt =
          let n : length all ≡ length pieces = length-AllZip (IsGroupOf version elements) pieces all
          told in
          let m : length groups ≡ length pieces = length-AllZip IsGroupCut pieces groups each in
          let within : k < length all = omega (arith, lt, len) in
          let within' : k < length groups = omega (arith, within, n, m) in
          let here = get_or-map-range_with_len
          (λ i. group_of (w ∷ map (λ g. g.cap) all) (laminar_parts_of number elements groups) i)
          0 (length (map (λ group. group.1) groups)) k k d
          (omega (
            arith,
            within',
            length-map groups
                (λ (group : List ℕ × List (List ℕ)). group.1),
          )) (omega arith) in
          let cap : get_or (w ∷ map (λ g. g.cap) all) (k + 1)
          (pos 0) ≡ (get_or all k d).cap =
          ap (λ (j : ℕ). get_or (w ∷ map (λ g. g.cap) all) j (pos 0)) (add-one k)
          ∙ get_or-map (λ (g : Group). g.cap) all k d (pos 0) within in
          let p = AllZip-both IsGroupCut pieces groups k [] ([], []) each
          (omega (arith, within, n)) in
          let q = AllZip-both (IsGroupOf version elements) pieces all k [] d told
          (omega (arith, within, n)) in
          let both : (get_or groups k ([], [])).0 ∷ (get_or groups k ([], [])).1 ≡ q.cut.0
          ∷ q.cut.1 = sym p.cut ∙ q.whole.cut in
          let names : (get_or groups k ([], [])).1 ≡ q.cut.1 = cc in
          let there : get_or (map (λ group. group.1) groups) k [] ≡ q.cut.1 = get_or-map
          (λ (group : List ℕ × List (List ℕ)). group.1) groups k ([], []) [] within' ∙ names in
          here ∙ group-same _ _ (get_or all k d) cap
          (ap (λ (l : List (List ℕ)). members_of elements l) there ∙ sym q.are_members)

  pub told-sound : (elements : List (List ℕ)) (pieces : List (List (List ℕ)))
      (all kept : List Group) → AllZip (IsGroupOf version elements) pieces all
      → kept ≡ least_groups all → All IsGroup kept
  told-sound elements pieces all kept told is =
      rw is (least-each IsGroup all
      (All-AllZip (IsGroupOf version elements) IsGroup (group-sound elements) pieces all told))

  pub told-below : (elements : List (List ℕ)) (pieces : List (List (List ℕ)))
      (all kept : List Group) → AllZip (IsGroupOf version elements) pieces all
      → kept ≡ least_groups all → (k : ℕ) → k ≡ length elements → All (IsBelow k) kept
  told-below elements pieces all kept told is k same =
      rw (same, is) (least-each (IsBelow (length elements)) all
      (All-AllZip (IsGroupOf version elements) (IsBelow (length elements)) (group-below elements)
      pieces all told))

  -- what the kept groups of all pieces tell is told of all groups
  pub pieces-told : (elements : List (List ℕ)) (pieces : List (List (List ℕ)))
      (all kept : List Group) (places : List ℕ) (given w : ℤ)
      → AllZip (IsGroupOf version elements) pieces all → kept ≡ least_groups all → given ≡ w
      → (r : Option laminars.Laminar)
      → MatchOption r ((i : ℕ) × (j : ℕ) × IsCrossing kept i j)
      (λ term. (term.places ≡ places) × (term.w ≡ given) × (term.groups ≡ kept)
      × ((i j : ℕ) → IsCrossing kept i j → ⊥))
      → MatchOption r ((every : List Group) × AllZip (IsGroupOf version elements) pieces every
      × ((i : ℕ) × (j : ℕ) × IsCrossing every i j))
      (λ term. (every : List Group) × AllZip (IsGroupOf version elements) pieces every
      × (term.places ≡ places) × (term.w ≡ w) × (term.groups ≡ least_groups every)
      × ((i j : ℕ) → IsCrossing (least_groups every) i j → ⊥))
  pieces-told elements pieces all kept places given w told is fits None cross =
      (all, told, crossing-from all (rw is at cross))
  pieces-told elements pieces all kept places given w told is fits (Some term)
      (same_places, same_w, same_groups, none) =
      (all, told, same_places, same_w ∙ fits, same_groups ∙ is, λ i j h. none i j (rw is h))

-- ---- the elements

pub elements-fit : (i : InstanceData) (number : List ℕ) (elements : List (List ℕ))
    (pieces : List (List (List ℕ))) → AreGoodGroups i number elements pieces
    → AreElementNames i.names → (places : List ℕ) → AllZip (IsElement i.names) elements places
    → AreElements places
elements-fit i number elements pieces good named places known = record {
  some = omega (arith, good.some, length-AllZip (IsElement i.names) elements places known);
  placed = elements-placed i.names elements places named.few known
      (λ t. good.once (twice-places i.names elements places known t));
}

-- ---- the term

module _ (i : InstanceData) (number : List ℕ) (elements behind : List (List ℕ))
    (pieces : List (List (List ℕ))) (is : cut_at_semicolons behind ≡ elements ∷ pieces)
    (good : AreGoodGroups i number elements pieces) (named : AreElementNames i.names)
    (w : ℤ) (w_is : IsNumberFor i.version RankWord number w) (places : List ℕ)
    (known : AllZip (IsElement i.names) elements places) (all : List Group)
    (told : AllZip (IsGroupOf i.version elements) pieces all) where
  cuts : (groups : List (List ℕ × List (List ℕ))) × AllZip IsGroupCut pieces groups
  cuts = all-matched IsGroupCut pieces good.whole

  abbrev parts : LineParts
  parts = laminar_parts_of number elements cuts.0

  abbrev values : List ℤ
  values = w ∷ map (λ g. g.cap) all

  numbers : AllZip (IsNumberFor i.version RankWord) parts.numbers values
  numbers = (w_is, caps-zip i.version elements pieces cuts.0 all cuts.1 told)

  members-once : All (λ names. StandsTwice names → ⊥) (map (λ group. group.1) cuts.0)
  members-once = matched-all IsGroupCut IsOnce (λ (group : List ℕ × List (List ℕ)). group.1)
      (λ names. StandsTwice names → ⊥) (λ piece group p h. h group.0 group.1 p.cut) pieces cuts.0
      cuts.1 good.each_once

  pub term-law : ((a : ℕ) × (b : ℕ) × IsCrossing all a b)
      → IsReasonOf i RankWord (laminar_tokens number behind) Law
  term-law cross = λ line of. at-law i RankWord (laminar_tokens number behind) line of parts
      (laminar-line i number elements behind pieces is good.no_separator (omega (arith, good.some))
      good.unmarked cuts.0 cuts.1) values numbers places named known
      (members-named i number elements behind pieces is good.no_separator (omega (arith, good.some))
      good.unmarked cuts.0 cuts.1 good.is_number good.caps named good.known good.members)
      (All-nil _)
      (λ t. good.once (twice-places i.names elements places known t)) members-once (λ h. h)
      (rw (groups-told i.version number elements pieces cuts.0 all w cuts.1 told) cross)

  pub term-read : (l : laminars.Laminar) → l.places ≡ places → l.w ≡ w → l.groups ≡ least_groups all
      → ((a b : ℕ) → IsCrossing (least_groups all) a b → ⊥)
      → IsTermRead i RankWord (laminar_tokens number behind) (Laminar l)
  term-read l same_places same_w same_groups none = record {
    stands = record {
      word = RankWord;
      rest = laminar_tokens number behind;
      parts = parts;
      values = values;
      places = places;
      shaped = (
        refl,
        laminar-line i number elements behind pieces is good.no_separator
            (omega (arith, good.some)) good.unmarked cuts.0 cuts.1,
      );
      numbers = numbers;
      elements = known;
      same_places = same_places;
      made = (
        same_w,
        λ t. rw (same_groups
            ∙ ap least_groups
            (sym (groups-told i.version number elements pieces cuts.0 all w cuts.1 told)))
            (least-caps (groups_of values parts) t),
      );
    };
    good = λ line reason of. none-total i RankWord (laminar_tokens number behind) line of parts
        (laminar-line i number elements behind pieces is good.no_separator
        (omega (arith, good.some)) good.unmarked cuts.0 cuts.1) values numbers places named known
        (members-named i number elements behind pieces is good.no_separator
        (omega (arith, good.some)) good.unmarked cuts.0 cuts.1 good.is_number good.caps named
        good.known good.members) (All-nil _)
        (λ t. good.once (twice-places i.names elements places known t)) members-once (λ h. h)
        no-crossing reason;
  }
    where
      no-crossing : ((a : ℕ) × (b : ℕ) × IsCrossing (groups_of values parts) a b) → ⊥
      no-crossing cross =
          let (a, b, h) = crossing-for all
          (rw (groups-told i.version number elements pieces cuts.0 all w cuts.1 told) at
          cross) in
          none a b h
