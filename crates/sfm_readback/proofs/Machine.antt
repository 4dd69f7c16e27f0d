-- The lines of an answer, one after another: each leads on in one way, the lines of an answer lead
-- to the end, and what leads anywhere is the beginning of an answer.
use Rattle.std.proofs.Common.{◌≡◌, ℕ, suc, ◌+◌, ◌<◌, ◌⊎◌, Bool, List, [], ◌∷◌, ◌++◌, length, get_or, map, ℤ, pos, inl, inr, refl, sym, ap, subst, ◌∙◌, arith, append_assoc}
use Rattle.std.specs.Prelude.{codes}
use Rattle.std.specs.List.{All}
use Rattle.std.proofs.lemmas.List.{append-nil}
use Rattle.std.proofs.lemmas.List.Elements.{All-head, All-tail}
use Rattle.sfm_spec.specs.Bounds.{IsEntry}
use Rattle.sfm_spec.specs.Blocks.{Block, block_at}
use Rattle.sfm_cert.specs.Answer.{Answer, Break, Form, listed, slope_text, slope_line, at_line, section_lines, answer_lines}
use Rattle.sfm_cert.specs.LineLists.{block_lines, slope_lines, base_lines, break_lines}
use Rattle.sfm_cert.specs.Form.{IsFormed, IsFormedBlock, IsFormedBreak, AreFormedRows}
use Rattle.sfm_readback.specs.Lines.{IsBlockLine, Ratio, ratio_of, IsSlopeLine}
use Rattle.sfm_readback.specs.Reading.{State, header, minimum, least, greatest, listing, bases, ended, Leads, LeadsOn}
use Rattle.sfm_readback.proofs.Tokens.{slope_text-same, slope_text-plain, factor_entry}
use Rattle.sfm_readback.proofs.Rules.{leads-append}
use Rattle.sfm_readback.proofs.LineForms.{slope_parts_of_line, slope_line_cut, list_stop}

pub regroup : (b s : List (List ℕ)) (x : List ℕ) (r k e : List (List ℕ))
    → b ++ s ++ x ∷ r ++ k ++ e ≡ b ++ (s ++ x ∷ (r ++ (k ++ e)))
regroup b s x r k e = simp append_assoc

-- ---- a line leads on in one way

module _ (form : Form) where
  begins_block : (k : ℕ) (line : List ℕ) (block : Block) → IsBlockLine form.names k line block
      → get_or line 0 0 ≡ 98
  begins_block k line block h = ap (λ x. get_or x 0 0) h.1

  begins_slope : (line : List ℕ) (r : Ratio) (s : List Bool) → IsSlopeLine form.names line r s
      → get_or line 0 0 ≡ 115
  begins_slope line r s h = ap (λ x. get_or x 0 0) h.written

  begins_at : (line : List ℕ) (p q : ℤ) → line ≡ at_line p q → get_or line 0 0 ≡ 97
  begins_at line p q h = ap (λ x. get_or x 0 0) h

  same_ratio : {r r' : Ratio} → r.num ≡ r'.num → r.den ≡ r'.den → r ≡ r'
  same_ratio {r} {r'} p q = ap (λ (x : ℤ). let u : Ratio = record { num = x; den = r.den } in u) p
      ∙ ap (λ (x : ℤ). let u : Ratio = record { num = r'.num; den = x } in u) q

  one_ratio : (line : List ℕ) (r r' : Ratio) (s s' : List Bool) → IsSlopeLine form.names line r s
      → IsSlopeLine form.names line r' s' → r ≡ r'
  one_ratio line r r' s s' h h' =
      let t = (slope_parts_of_line form.names line (slope_text r.num r.den ++ listed form.names s)
      (slope_text r.num r.den) (listed form.names s) r' s'
      (h.written ∙ slope_line_cut form.names r.num r.den s) refl
      (slope_text-plain r.num r.den h.entry (factor_entry r.den h.factor))
      (list_stop form.names s) h').0 in
      let (p, q) = slope_text-same r.num r.den r'.num r'.den h.entry (factor_entry r.den h.factor)
      h'.entry (factor_entry r'.den h'.factor) t in
      same_ratio p q

  IsListing : ℕ → List Ratio → List ℕ → State → Type 0
  IsListing k slopes line next =
      ((block : Block) × IsBlockLine form.names k line block × (slopes ≡ [])
      × (next ≡ listing (k + 1) []))
      ⊎ ((r : Ratio) × (s : List Bool) × IsSlopeLine form.names line r s
      × (next ≡ listing k (slopes ++ r ∷ [])))
      ⊎ ((line ≡ at_line (pos 0) (pos 1)) × (next ≡ bases 1 form.widths slopes))

  pub one_next : (s : State) (line : List ℕ) (t u : State) → Leads form s line t
      → Leads form s line u → t ≡ u
  one_next header line t u h h' = h.1 ∙ sym h'.1
  one_next minimum line t u h h' = h.2 ∙ sym h'.2
  one_next least line t u h h' = h.2 ∙ sym h'.2
  one_next greatest line t u h h' = h.2 ∙ sym h'.2
  one_next (listing k slopes) line t u (inl b) (inl b') = b.3 ∙ sym b'.3
  one_next (listing k slopes) line t u (inl b) (inr (inl s)) =
      absurd (omega (arith, begins_block k line b.0 b.1, begins_slope line s.0 s.1 s.2))
  one_next (listing k slopes) line t u (inl b) (inr (inr a)) =
      absurd (omega (arith, begins_block k line b.0 b.1, begins_at line (pos 0) (pos 1) a.0))
  one_next (listing k slopes) line t u (inr (inl s)) (inl b) =
      absurd (omega (arith, begins_block k line b.0 b.1, begins_slope line s.0 s.1 s.2))
  one_next (listing k slopes) line t u (inr (inl s)) (inr (inl s')) =
      s.3 ∙ ap (λ r. listing k (slopes ++ r ∷ [])) (one_ratio line s.0 s'.0 s.1 s'.1 s.2 s'.2)
      ∙ sym s'.3
  one_next (listing k slopes) line t u (inr (inl s)) (inr (inr a)) =
      absurd (omega (arith, begins_slope line s.0 s.1 s.2, begins_at line (pos 0) (pos 1) a.0))
  one_next (listing k slopes) line t u (inr (inr a)) (inl b) =
      absurd (omega (arith, begins_block k line b.0 b.1, begins_at line (pos 0) (pos 1) a.0))
  one_next (listing k slopes) line t u (inr (inr a)) (inr (inl s)) =
      absurd (omega (arith, begins_slope line s.0 s.1 s.2, begins_at line (pos 0) (pos 1) a.0))
  one_next (listing k slopes) line t u (inr (inr a)) (inr (inr a')) = a.1 ∙ sym a'.1
  one_next (bases i (width ∷ widths) due) line t u h h' = h.2 ∙ sym h'.2
  one_next (bases i [] (r ∷ due)) line t u h h' = h.1 ∙ sym h'.1
  one_next (bases i [] []) line t u h h' = h.1 ∙ sym h'.1
  one_next ended line t u h h' = absurd h

  -- ---- the lines of an answer lead to the end

  leads_blocks : (k : ℕ) (blocks : List Block)
      → ((i : ℕ) → i < length blocks
      → IsFormedBlock (length form.names) (k + i) (block_at blocks i))
      → LeadsOn form (listing k []) (block_lines form.names (k + 1) blocks)
      (listing (k + length blocks) [])
  leads_blocks k [] h = ap (λ (n : ℕ). listing n []) (omega arith)
  leads_blocks k (block ∷ blocks) h = (
    listing (k + 1) [],
    inl (
      block,
      (
        subst (λ (n : ℕ). IsFormedBlock (length form.names) n block) (omega arith)
            (h 0 (omega arith)),
        refl,
      ),
      refl,
      refl,
    ),
    subst (λ (n : ℕ). LeadsOn form (listing (k + 1) []) (block_lines form.names (k + 1 + 1) blocks)
        (listing n [])) (omega arith)
        (leads_blocks (k + 1) blocks
        (λ i lt. subst (λ (n : ℕ). IsFormedBlock (length form.names) n (block_at blocks i))
        (omega arith) (h (suc i) (omega (arith, lt))))),
  )

  slope_is_line : (b : Break) → IsFormedBreak (length form.names) form.widths b
      → IsSlopeLine form.names (slope_line form.names b) (ratio_of b) b.members
  slope_is_line b h = record {
    lowest = h.lowest;
    entry = h.entry;
    factor = h.factor;
    members = h.members;
    written = refl;
  }

  leads_slopes : (k : ℕ) (slopes : List Ratio) (breaks : List Break)
      → All (IsFormedBreak (length form.names) form.widths) breaks
      → LeadsOn form (listing k slopes) (slope_lines form.names breaks)
      (listing k (slopes ++ map ratio_of breaks))
  leads_slopes k slopes [] h = ap (λ (x : List Ratio). listing k x) (sym (append-nil slopes))
  leads_slopes k slopes (b ∷ breaks) h = (
    listing k (slopes ++ ratio_of b ∷ []),
    inr (inl (
      ratio_of b,
      b.members,
      slope_is_line b (All-head (IsFormedBreak (length form.names) form.widths) b breaks h),
      refl,
    )),
    subst (λ (x : List Ratio). LeadsOn form (listing k (slopes ++ ratio_of b ∷ []))
        (slope_lines form.names breaks) (listing k x))
        (append_assoc slopes (ratio_of b ∷ []) (map ratio_of breaks))
        (leads_slopes k (slopes ++ ratio_of b ∷ []) breaks
        (All-tail (IsFormedBreak (length form.names) form.widths) b breaks h)),
  )

  pub leads_bases : (i : ℕ) (rows : List (List ℤ)) (due : List Ratio)
      → All (λ x. All IsEntry x) rows
      → LeadsOn form (bases i (map length rows) due) (base_lines form.lines i rows)
      (bases (i + length rows) [] due)
  leads_bases i [] due h = ap (λ (n : ℕ). bases n [] due) (omega arith)
  leads_bases i (x ∷ rows) due h = (
    bases (i + 1) (map length rows) due,
    (x, (refl, All-head (λ (y : List ℤ). All IsEntry y) x rows h, refl), refl),
    subst (λ (n : ℕ). LeadsOn form (bases (i + 1) (map length rows) due)
        (base_lines form.lines (i + 1) rows) (bases n [] due)) (omega arith)
        (leads_bases (i + 1) rows due (All-tail (λ (y : List ℤ). All IsEntry y) x rows h)),
  )

  leads_widths : (i : ℕ) (rows : List (List ℤ)) (due : List Ratio) → AreFormedRows form.widths rows
      → LeadsOn form (bases i form.widths due) (base_lines form.lines i rows)
      (bases (i + length rows) [] due)
  leads_widths i rows due h = subst (λ (w : List ℕ). LeadsOn form (bases i w due)
      (base_lines form.lines i rows) (bases (i + length rows) [] due)) h.widths_are
      (leads_bases i rows due h.small)

  leads_breaks : (i : ℕ) (breaks : List Break)
      → All (IsFormedBreak (length form.names) form.widths) breaks
      → LeadsOn form (bases i [] (map ratio_of breaks))
      (break_lines form.lines breaks ++ codes "end" ∷ []) ended
  leads_breaks i [] h = (ended, (refl, refl), refl)
  leads_breaks i (b ∷ breaks) h = (
    bases 1 form.widths (map ratio_of breaks),
    (refl, refl),
    subst (λ (x : List (List ℕ)). LeadsOn form (bases 1 form.widths (map ratio_of breaks)) x ended)
        (sym (append_assoc (base_lines form.lines 1 b.bases) (break_lines form.lines breaks)
        (codes "end" ∷ [])))
        (leads-append (Leads form) (bases 1 form.widths (map ratio_of breaks))
        (base_lines form.lines 1 b.bases) (bases (1 + length b.bases) [] (map ratio_of breaks))
        (break_lines form.lines breaks ++ codes "end" ∷ []) ended
        (leads_widths 1 b.bases (map ratio_of breaks)
        (All-head (IsFormedBreak (length form.names) form.widths) b breaks h).bases)
        (leads_breaks (1 + length b.bases) breaks
        (All-tail (IsFormedBreak (length form.names) form.widths) b breaks h))),
  )

  pub leads_answer : (a : Answer) → IsFormed form a
      → LeadsOn form header (answer_lines form a) ended
  leads_answer a h = (
    minimum,
    (refl, refl),
    (
      least,
      (a.value, (h.value, refl), refl),
      (
        greatest,
        (a.least, (h.least, refl), refl),
        (listing 0 [], (a.greatest, (h.greatest, refl), refl), tail),
      ),
    ),
  ) where
    tail : LeadsOn form (listing 0 [])
        (block_lines form.names 1 a.blocks ++ slope_lines form.names a.breaks ++ section_lines
        form.lines (pos 0) (pos 1) a.bases ++ break_lines form.lines a.breaks ++ codes "end" ∷ [])
        ended
    tail = subst (λ (x : List (List ℕ)). LeadsOn form (listing 0 []) x ended)
        (sym (regroup (block_lines form.names 1 a.blocks) (slope_lines form.names a.breaks)
        (at_line (pos 0) (pos 1)) (base_lines form.lines 1 a.bases)
        (break_lines form.lines a.breaks) (codes "end" ∷ [])))
        (leads-append (Leads form) (listing 0 []) (block_lines form.names 1 a.blocks)
        (listing (0 + length a.blocks) []) _ ended
        (leads_blocks 0 a.blocks (λ i lt.
        subst (λ (n : ℕ). IsFormedBlock (length form.names) n (block_at a.blocks i))
        (omega arith) (h.blocks i lt)))
        (leads-append (Leads form) (listing (0 + length a.blocks) [])
        (slope_lines form.names a.breaks)
        (listing (0 + length a.blocks) (map ratio_of a.breaks)) _ ended
        (leads_slopes (0 + length a.blocks) [] a.breaks h.breaks) (
          bases 1 form.widths (map ratio_of a.breaks),
          inr (inr (refl, refl)),
          leads-append (Leads form) (bases 1 form.widths (map ratio_of a.breaks))
              (base_lines form.lines 1 a.bases)
              (bases (1 + length a.bases) [] (map ratio_of a.breaks))
              (break_lines form.lines a.breaks ++ codes "end" ∷ []) ended
              (leads_widths 1 a.bases (map ratio_of a.breaks) h.bases)
              (leads_breaks (1 + length a.bases) a.breaks h.breaks),
        )))
