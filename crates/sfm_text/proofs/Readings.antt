-- Two readings of one text, in any language of lines: where a relation of states is kept by the
-- lines and told apart by no reason and no end, they end in related states. So a text is good or
-- has a first fault, and one alone.
use Rattle.std.proofs.Common.{◌≡◌, ℕ, List, [], ◌∷◌, ◌++◌, refl, sym, ap, subst, ◌∙◌, arith}
use Rattle.std.specs.List.{FoldsTo}
use Rattle.std.proofs.lemmas.Fn.{FoldsTo-push}
use Rattle.std.proofs.lemmas.List.{map-append}
use Rattle.sfm_lines.specs.declared.reason.Reason.{Reason}
use Rattle.sfm_lines.specs.Lines.{content_of}
use Rattle.sfm_text.specs.Standing.{bytes_of}
use Rattle.sfm_text.specs.Language.{Language, IsReadAs, HasFaultyLineIn, IsFaultIn, is_long, is_faulty, is_short}

-- lines that lead from one state to another do so by the state behind each of them
pub folds-parts : {S X : Type 0} (Takes : S → X → S → Type 0) (before after : List X) (s t : S)
    → FoldsTo Takes s (before ++ after) t
    → (u : S) × FoldsTo Takes s before u × FoldsTo Takes u after t
folds-parts Takes [] after s t h = (s, refl, h)
folds-parts Takes (x ∷ before) after s t (r, takes, h) =
    let (u, front, back) = folds-parts Takes before after r t h in
    (u, (r, takes, front), back)

bytes-parts : (before after : List (ℕ × List ℕ)) (line : ℕ × List ℕ)
    → bytes_of (before ++ line ∷ after) ≡ bytes_of before ++ line.1 ∷ bytes_of after
bytes-parts before after line = map-append (λ (l : ℕ × List ℕ). l.1) before (line ∷ after)

-- one more line that is taken
pub lines-push : {S : Type 0} (Takes : S → List ℕ → S → Type 0) (s : S) (done : List (ℕ × List ℕ))
    (t : S)
    (line : ℕ × List ℕ) (u : S)
    → FoldsTo Takes s (bytes_of done) t → Takes t line.1 u
    → FoldsTo Takes s (bytes_of (done ++ line ∷ [])) u
lines-push Takes s done t line u h takes =
    rw (map-append (λ (l : ℕ × List ℕ). l.1) done (line ∷ []))
    (FoldsTo-push Takes s (bytes_of done) t line.1 u h takes)

-- two cuts of one list at a place: at the same place, or one inside the front of the other
data Cuts (a b : ℕ × List ℕ) (xs ys zs ws : List (ℕ × List ℕ)) : Type 0 where
  same_place : xs ≡ zs → a ≡ b → Cuts a b xs ys zs ws
  inside : (more : List (ℕ × List ℕ)) → zs ≡ xs ++ a ∷ more → Cuts a b xs ys zs ws
  outside : (more : List (ℕ × List ℕ)) → xs ≡ zs ++ b ∷ more → Cuts a b xs ys zs ws

two-cuts : (a b : ℕ × List ℕ) (xs ys zs ws : List (ℕ × List ℕ)) → xs ++ a ∷ ys ≡ zs ++ b ∷ ws
    → Cuts a b xs ys zs ws
two-cuts a b [] ys [] ws e = same_place refl (cc)
two-cuts a b [] ys (z ∷ zs) ws e =
    let first : a ≡ z = cc in inside zs (ap (λ (l : ℕ × List ℕ). l ∷ zs) (sym first))
two-cuts a b (x ∷ xs) ys [] ws e =
    let first : x ≡ b = cc in outside xs (ap (λ (l : ℕ × List ℕ). l ∷ xs) first)
two-cuts a b (x ∷ xs) ys (z ∷ zs) ws e =
    let first : x ≡ z = cc in
    let rest : xs ++ a ∷ ys ≡ zs ++ b ∷ ws = cc in
    more first (two-cuts a b xs ys zs ws rest)
  where
    more : x ≡ z → Cuts a b xs ys zs ws → Cuts a b (x ∷ xs) ys (z ∷ zs) ws
    more first (same_place front line) = let both : x ∷ xs ≡ z ∷ zs = cc in same_place both line
    more first (inside behind is) = inside behind (rw (first, is) refl)
    more first (outside behind is) = outside behind (rw (first, is) refl)

-- the relation holds at the start, each line keeps it, and two states of it are told apart by no
-- reason and no end
pub record IsKept {S : Type 0} (L : Language S) (R : S → S → Type 0) : Type 0 where
  pub start : R L.start L.start
  pub takes : (s t : S) (line : List ℕ) (u v : S) → R s t → L.Takes s line u → L.Takes t line v
      → R u v
  pub ends : (s t : S) → R s t → L.IsEnd s → L.IsEnd t
  pub refuses : (s t : S) (line : List ℕ) (reason : Reason) (u : S)
      → R s t → L.IsFirst s line reason → L.Takes t line u → ⊥
  pub once : (s t : S) (line : List ℕ) (a b : Reason)
      → R s t → R t s → L.IsFirst s line a → L.IsFirst t line b → a ≡ b

-- where a line leads to one state alone, and has one first reason or none, equality is such a
-- relation
pub equality-kept : {S : Type 0} (L : Language S)
    → ((s : S) (line : List ℕ) (u v : S) → L.Takes s line u → L.Takes s line v → u ≡ v)
    → ((s : S) (line : List ℕ) (reason : Reason) (u : S) → L.IsFirst s line reason
    → L.Takes s line u → ⊥)
    → ((s : S) (line : List ℕ) (a b : Reason) → L.IsFirst s line a → L.IsFirst s line b → a ≡ b)
    → IsKept L (λ s t. s ≡ t)
equality-kept {S} L takes refuses once = record {
  start = refl;
  takes = λ s t line u v same h g.
      takes s line u v h (subst (λ (x : S). L.Takes x line v) (sym same) g);
  ends = λ s t same h. subst L.IsEnd same h;
  refuses = λ s t line reason u same first h. refuses s line reason u first
      (subst (λ (x : S). L.Takes x line u) (sym same) h);
  once = λ s t line a b same back h g.
      once s line a b h (subst (λ (x : S). L.IsFirst x line b) (sym same) g);
}

module _ {S : Type 0} (L : Language S) (R : S → S → Type 0) (kept : IsKept L R) where
  folds-alike : (lines : List (List ℕ)) (s t u v : S) → R s t → FoldsTo L.Takes s lines u
      → FoldsTo L.Takes t lines v → R u v
  folds-alike [] s t u v same h g = subst (λ (x : S). R x v) h (subst (λ (x : S). R s x) g same)
  folds-alike (line ∷ lines) s t u v same (s', h, hs) (t', g, gs) =
      folds-alike lines s' t' u v (kept.takes s t line s' t' same h g) hs gs

  -- the same lines lead to related states
  pub lines-alike : (lines : List (List ℕ)) (s t : S) → FoldsTo L.Takes L.start lines s
      → FoldsTo L.Takes L.start lines t → R s t
  lines-alike lines s t h g = folds-alike lines L.start L.start s t kept.start h g

  -- and so does a text, however it is read
  pub readings-alike : (text : List ℕ) (s t : S) → IsReadAs L text s → IsReadAs L text t → R s t
  readings-alike text s t h g = lines-alike (bytes_of (content_of text)) s t h.lines g.lines

  -- a line with a reason is not good behind the same lines
  not-good : (before all more : List (ℕ × List ℕ)) (line : ℕ × List ℕ) (s t : S) (reason : Reason)
      → all ≡ before ++ line ∷ more → FoldsTo L.Takes L.start (bytes_of before) s
      → L.IsFirst s line.1 reason → FoldsTo L.Takes L.start (bytes_of all) t → ⊥
  not-good before all more line s t reason is h fault good =
      let parts : bytes_of all ≡ bytes_of before ++ line.1 ∷ bytes_of more = ap bytes_of is
      ∙ bytes-parts before more line in
      let cut = subst (λ (lines : List (List ℕ)). FoldsTo L.Takes L.start lines t) parts good in
      let (u, front, (v, takes, back)) = folds-parts L.Takes (bytes_of before)
      (line.1 ∷ bytes_of more) L.start t cut in
      kept.refuses s u line.1 reason v (lines-alike (bytes_of before) s u h front) fault takes

  -- a text with a faulty line is not good to its end
  faulty-or-good : (text : List ℕ) (number : ℕ) (reason : Reason) (t : S)
      → HasFaultyLineIn L text number reason
      → FoldsTo L.Takes L.start (bytes_of (content_of text)) t → ⊥
  faulty-or-good text number reason t h good =
      not-good h.before (content_of text) h.after (number, h.line) h.state t reason h.content h.good
      h.fault good

  -- a good text has no fault
  pub good-or-faulty : (text : List ℕ) (s : S) (number : ℕ) (reason : Reason) → IsReadAs L text s
      → L.IsEnd s → IsFaultIn L text number reason → ⊥
  good-or-faulty text s number reason good end (is_long at is long) =
      omega (arith, good.short, long)
  good-or-faulty text s number reason good end (is_faulty short faulty) =
      faulty-or-good text number reason s faulty good.lines
  good-or-faulty text s number reason good end (is_short at is short early) =
      early.2 (kept.ends s early.0 (lines-alike (bytes_of (content_of text)) s early.0 good.lines
      early.1) end)

  -- two faulty lines of one text are one, with one reason
  faulty-once : (text : List ℕ) (number number' : ℕ) (reason reason' : Reason)
      → HasFaultyLineIn L text number reason → HasFaultyLineIn L text number' reason'
      → (number ≡ number') × (reason ≡ reason')
  faulty-once text number number' reason reason' h g =
      at (two-cuts (number, h.line) (number', g.line) h.before h.after g.before g.after
      (sym h.content ∙ g.content))
    where
      at : Cuts (number, h.line) (number', g.line) h.before h.after g.before g.after
          → (number ≡ number') × (reason ≡ reason')
      at (same_place front line) =
          let good : FoldsTo L.Takes L.start (bytes_of h.before) g.state = rw front g.good in
          let fault : L.IsFirst g.state h.line reason' = rw (ap (λ (l : ℕ × List ℕ). l.1) line)
          g.fault in (
            ap (λ (l : ℕ × List ℕ). l.0) line,
            kept.once h.state g.state h.line reason reason'
                (lines-alike (bytes_of h.before) h.state g.state h.good good)
                (lines-alike (bytes_of h.before) g.state h.state good h.good) h.fault fault,
          )
      at (inside more is) = absurd (not-good h.before g.before more (number, h.line) h.state g.state
          reason is h.good h.fault g.good)
      at (outside more is) = absurd (not-good g.before h.before more (number', g.line) g.state
          h.state reason' is g.good g.fault h.good)

  -- and a text has one first fault
  pub faults-once : (text : List ℕ) (line line' : ℕ) (reason reason' : Reason)
      → IsFaultIn L text line reason → IsFaultIn L text line' reason'
      → (line ≡ line') × (reason ≡ reason')
  faults-once text line line' reason reason' (is_long at is long) (is_long at' is' long') =
      (at ∙ sym at', is ∙ sym is')
  faults-once text line line' reason reason' (is_long at is long) (is_faulty short faulty) =
      absurd (omega (arith, long, short))
  faults-once text line line' reason reason' (is_long at is long) (is_short at' is' short early) =
      absurd (omega (arith, long, short))
  faults-once text line line' reason reason' (is_faulty short faulty) (is_long at is long) =
      absurd (omega (arith, long, short))
  faults-once text line line' reason reason' (is_faulty short faulty) (is_faulty short' faulty') =
      faulty-once text line line' reason reason' faulty faulty'
  faults-once text line line' reason reason' (is_faulty short faulty)
      (is_short at is short' early) =
      absurd (faulty-or-good text line reason early.0 faulty early.1)
  faults-once text line line' reason reason' (is_short at is short early) (is_long at' is' long) =
      absurd (omega (arith, long, short))
  faults-once text line line' reason reason' (is_short at is short early)
      (is_faulty short' faulty) = absurd (faulty-or-good text line' reason' early.0 faulty early.1)
  faults-once text line line' reason reason' (is_short at is short early)
      (is_short at' is' short' early') = (at ∙ sym at', is ∙ sym is')
