-- The blocks are made one after another, and their members are marked place by place.
use Rattle.std.proofs.Common.{◌≡◌, ◌↔◌, ◌⊎◌, inl, inr, ⊎_elim, ℕ, ◌+◌, ◌<◌, ◌≤◌, Bool, List, [], ◌∷◌, ◌++◌, length, get_or, set, true, false, refl, sym, ap, ◌∙◌, arith, length-set, get_or-set_same, get_or-set_other}
use Rattle.std.proofs.lemmas.Bool.{cases_eq, cases_lt}
use Rattle.std.proofs.lemmas.List.{length_push, get_or_push, get_or_append_left}
use Rattle.sfm_spec.specs.Sets.{Has}
use Rattle.sfm_spec.specs.Blocks.{Block, block_at, no_block}
use Rattle.sfm_extreme.specs.Pulls.{AreGrouped, IsMembers, needs_upto}

-- of the first m of n places those are marked of which P holds
pub record IsMarked (n m : ℕ) (P : ℕ → Type 0) (s : List Bool) : Type 0 where
  pub places : length s ≡ n
  pub exact : (e : ℕ) → e < m → Has s e ↔ P e
  pub later : (e : ℕ) → m ≤ e → Has s e → ⊥

-- one place more, of which P holds
pub marked_put : (n m : ℕ) (P : ℕ → Type 0) (s t : List Bool) → IsMarked n m P s → m < n → P m
    → t ≡ set s m true → IsMarked n (m + 1) P t
marked_put n m P s t h lt here is =
    let k = h.places in
    let put : Has (set s m true) m = get_or-set_same s m true false (omega (arith, k, lt)) in
    rw is (record {
      places = length-set s m true ∙ k;
      exact = λ e l. ⊎_elim
          (λ (same : e ≡ m). rw same ((λ _. here), (λ _. put)))
          (λ ne. let old = h.exact e
          (omega (arith, l, ne)) in (
            (λ has.
                old.0 (sym (get_or-set_other s m e true false ne) ∙ has)),
            (λ p. get_or-set_other s m e true false ne ∙ old.1 p),
          ))
          (cases_eq e m);
      later = λ e l has. h.later e (omega (arith, l))
          (sym (get_or-set_other s m e true false (λ same. omega (arith, l, same))) ∙ has);
    })

-- and one of which it does not
pub marked_skip : (n m : ℕ) (P : ℕ → Type 0) (s : List Bool) → IsMarked n m P s → (P m → ⊥)
    → IsMarked n (m + 1) P s
marked_skip n m P s h none = record {
  places = h.places;
  exact = λ e l. ⊎_elim
      (λ (same : e ≡ m). rw same (
        (λ has. absurd (h.later m (omega arith) has)),
        (λ p. absurd (none p)),
      ))
      (λ ne. h.exact e (omega (arith, l, ne)))
      (cases_eq e m);
  later = λ e l. h.later e (omega (arith, l));
}

-- the blocks of the first i first places
pub record AreGroupedTo (rows : List (List Bool)) (firsts : List ℕ) (i : ℕ)
    (blocks : List Block) : Type 0 where
  pub count : length blocks ≡ i
  pub members : (k : ℕ) → k < length blocks
      → IsMembers rows (get_or firsts k 0) (block_at blocks k).members
  pub needs : (k : ℕ) → k < length blocks
      → (block_at blocks k).needs ≡ needs_upto rows firsts k (length firsts)

pub grouped_none : (rows : List (List Bool)) (firsts : List ℕ) → AreGroupedTo rows firsts 0 []
grouped_none rows firsts = record {
  count = refl;
  members = λ k l. absurd (omega arith);
  needs = λ k l. absurd (omega arith);
}

pub grouped_push : (rows : List (List Bool)) (firsts : List ℕ) (i : ℕ) (blocks : List Block)
    (block : Block) → AreGroupedTo rows firsts i blocks
    → IsMembers rows (get_or firsts i 0) block.members
    → block.needs ≡ needs_upto rows firsts i (length firsts)
    → AreGroupedTo rows firsts (i + 1) (blocks ++ block ∷ [])
grouped_push rows firsts i blocks block h members needs = record {
  count = let c = h.count in omega (arith, more, c);
  members = λ k l. ⊎_elim
      (λ old. rw (at_old k old) (h.members k old))
      (λ new. rw (at_new k new, new ∙ h.count) members)
      (which k l);
  needs = λ k l. ⊎_elim
      (λ old. ap (λ (b : Block). b.needs) (at_old k old) ∙ h.needs k old)
      (λ new. ap (λ (b : Block). b.needs) (at_new k new)
      ∙ (needs ∙ ap (λ j. needs_upto rows firsts j (length firsts)) (sym (new ∙ h.count))))
      (which k l);
} where
  more : length (blocks ++ block ∷ []) ≡ length blocks + 1
  more = length_push blocks block

  at_old : (k : ℕ) → k < length blocks → block_at (blocks ++ block ∷ []) k ≡ block_at blocks k
  at_old k l = get_or_append_left blocks (block ∷ []) no_block k l

  at_new : (k : ℕ) → k ≡ length blocks → block_at (blocks ++ block ∷ []) k ≡ block
  at_new k is = ap (λ j. block_at (blocks ++ block ∷ []) j) is
      ∙ get_or_push blocks block no_block (length blocks) refl

  which : (k : ℕ) → k < length (blocks ++ block ∷ []) → (k < length blocks) ⊎ (k ≡ length blocks)
  which k l = ⊎_elim (λ lt. inl lt) (λ ge. inr (omega (arith, more))) (cases_lt k (length blocks))

pub grouped_all : (rows : List (List Bool)) (firsts : List ℕ) (blocks : List Block)
    → AreGroupedTo rows firsts (length firsts) blocks → AreGrouped rows firsts blocks
grouped_all rows firsts blocks h = record { count = h.count; members = h.members; needs = h.needs }
