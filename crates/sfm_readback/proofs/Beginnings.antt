-- Lines that lead anywhere are the beginning of an answer: each place can be gone on from to the
-- end, and lines that lead to the end are the lines of an answer.
use Rattle.std.proofs.Common.{◌≡◌, ℕ, zero, suc, ◌+◌, ◌<◌, Bool, false, List, [], ◌∷◌, ◌++◌, length, map, replicate, ℤ, pos, inl, inr, refl, sym, ap, subst, ◌∙◌, arith, append_assoc}
use Rattle.std.specs.Prelude.{codes}
use Rattle.std.specs.List.{All}
use Rattle.std.specs.Fmt.{signed_decimal}
use Rattle.std.proofs.lemmas.List.{append-nil, length-replicate}
use Rattle.std.proofs.lemmas.List.Elements.{All-nil, All-cons, All-head, All-tail, All-replicate}
use Rattle.sfm_spec.specs.Bounds.{IsEntry}
use Rattle.sfm_spec.specs.Blocks.{Block, block_at}
use Rattle.sfm_cert.specs.Answer.{Answer, Break, Form, listed, block_line, slope_line, at_line, section_lines, answer_lines}
use Rattle.sfm_cert.specs.LineLists.{block_lines, slope_lines, base_lines, break_lines, base_line}
use Rattle.sfm_cert.specs.Form.{IsFormed, IsFormedBlock, IsFormedBreak, AreFormedRows}
use Rattle.sfm_cert.specs.Grammar.{BeginsOne}
use Rattle.sfm_readback.specs.Lines.{Ratio, ratio_of, IsSlopeLine}
use Rattle.sfm_readback.specs.Reading.{State, header, minimum, least, greatest, listing, bases, ended, Leads, LeadsOn}
use Rattle.sfm_readback.proofs.Tokens.{count_entry}
use Rattle.sfm_readback.proofs.Machine.{regroup}
use Rattle.sfm_readback.proofs.Rules.{leads-append}

-- ---- every place goes on to the end

abbrev zeros : ℕ → List ℤ
zeros n = replicate n (pos 0)

zero_entry : IsEntry (pos 0)
zero_entry = count_entry 0 (omega arith)

-- ---- steps between numbers and between lists

no_place : (i : ℕ) → i < 0 → ⊥
no_place i lt = omega (arith, lt)

zero_more : (k : ℕ) → k ≡ k + 0
zero_more k = omega arith

one_more : (k i : ℕ) → k + 1 + i ≡ k + suc i
one_more k i = omega arith

from_zero : (i : ℕ) → 0 + i ≡ i
from_zero i = omega arith

one_less : (i n : ℕ) → suc i < suc n → i < n
one_less i n lt = omega (arith, lt)

push_some : (slopes : List Ratio) (r : Ratio) → slopes ++ r ∷ [] ≡ [] → ⊥
push_some [] r e = cc
push_some (x ∷ slopes) r e = cc

same_four : {a a' b b' c c' d d' : List ℕ} → a ≡ a' → b ≡ b' → c ≡ c' → d ≡ d'
    → (lines : List (List ℕ)) → a ∷ b ∷ c ∷ d ∷ lines ≡ a' ∷ b' ∷ c' ∷ d' ∷ lines
same_four e f g h lines = cc

-- what holds for a block and for those behind it holds for each
each_block : (n k : ℕ) (block : Block) (blocks : List Block) → IsFormedBlock n k block
    → ((i : ℕ) → i < length blocks → IsFormedBlock n (k + 1 + i) (block_at blocks i))
    → (i : ℕ) → i < length (block ∷ blocks) → IsFormedBlock n (k + i) (block_at (block ∷ blocks) i)
each_block n k block blocks f g zero lt = subst (λ (m : ℕ). IsFormedBlock n m block) (zero_more k) f
each_block n k block blocks f g (suc i) lt =
    subst (λ (m : ℕ). IsFormedBlock n m (block_at blocks i)) (one_more k i)
    (g i (one_less i (length blocks) lt))

-- ---- none of these places is the end

not_header : header ≡ ended → ⊥
not_header e = cc

not_minimum : minimum ≡ ended → ⊥
not_minimum e = cc

not_least : least ≡ ended → ⊥
not_least e = cc

not_greatest : greatest ≡ ended → ⊥
not_greatest e = cc

not_listing : (k : ℕ) (slopes : List Ratio) → listing k slopes ≡ ended → ⊥
not_listing k slopes e = cc

not_bases : (i : ℕ) (widths : List ℕ) (due : List Ratio) → bases i widths due ≡ ended → ⊥
not_bases i widths due e = cc

module _ (form : Form) where
  abbrev Goes : State → Type 0
  Goes s = (lines : List (List ℕ)) × LeadsOn form s lines ended

  goes_bases : (i : ℕ) (widths : List ℕ) (due : List Ratio) → ((k : ℕ) → Goes (bases k [] due))
      → Goes (bases i widths due)
  goes_bases i [] due more = more i
  goes_bases i (width ∷ widths) due more =
      let g = goes_bases (i + 1) widths due more in (
        base_line form.lines i (zeros width) ∷ g.0,
        (
          bases (i + 1) widths due,
          (
            zeros width,
            (length-replicate width (pos 0), All-replicate IsEntry width (pos 0) zero_entry, refl),
            refl,
          ),
          g.1,
        ),
      )

  goes_due : (due : List Ratio) (i : ℕ) → Goes (bases i [] due)
  goes_due [] i = (codes "end" ∷ [], (ended, (refl, refl), refl))
  goes_due (r ∷ due) i =
      let g = goes_bases 1 form.widths due (goes_due due) in
      (at_line r.num r.den ∷ g.0, (bases 1 form.widths due, (refl, refl), g.1))

  goes_listing : (k : ℕ) (slopes : List Ratio) → Goes (listing k slopes)
  goes_listing k slopes =
      let g = goes_bases 1 form.widths slopes (goes_due slopes) in
      (at_line (pos 0) (pos 1) ∷ g.0, (bases 1 form.widths slopes, inr (inr (refl, refl)), g.1))

  abbrev no_places : List Bool
  no_places = replicate (length form.names) false

  goes_greatest : Goes greatest
  goes_greatest =
      let g = goes_listing 0 [] in (
        (codes "greatest" ++ listed form.names no_places) ∷ g.0,
        (
          listing 0 [],
          (no_places, (length-replicate (length form.names) false, refl), refl),
          g.1,
        ),
      )

  goes_least : Goes least
  goes_least =
      let g = goes_greatest in (
        (codes "least" ++ listed form.names no_places) ∷ g.0,
        (greatest, (no_places, (length-replicate (length form.names) false, refl), refl), g.1),
      )

  goes_minimum : Goes minimum
  goes_minimum =
      let g = goes_least in (
        (codes "minimum " ++ signed_decimal (pos 0)) ∷ g.0,
        (least, (pos 0, (zero_entry, refl), refl), g.1),
      )

  goes_on : (s : State) → Goes s
  goes_on header = let g = goes_minimum in (form.header ∷ g.0, (minimum, (refl, refl), g.1))
  goes_on minimum = goes_minimum
  goes_on least = goes_least
  goes_on greatest = goes_greatest
  goes_on (listing k slopes) = goes_listing k slopes
  goes_on (bases i widths due) = goes_bases i widths due (goes_due due)
  goes_on ended = ([], refl)

  -- ---- lines that lead to the end are those of an answer

  nothing : (lines : List (List ℕ)) → LeadsOn form ended lines ended → lines ≡ []
  nothing [] h = refl
  nothing (line ∷ lines) h = absurd h.1

  -- the sections that are due, and the end
  abbrev HoldsDue : List Ratio → List (List ℕ) → Type 0
  HoldsDue [] lines = lines ≡ codes "end" ∷ []
  HoldsDue (r ∷ due) lines = (rows : List (List ℤ)) × (more : List (List ℕ))
      × AreFormedRows form.widths rows × (lines ≡ section_lines form.lines r.num r.den rows ++ more)
      × HoldsDue due more

  record HoldsBases (i : ℕ) (widths : List ℕ) (due : List Ratio) (lines : List (List ℕ)) : Type
      0 where
    rows : List (List ℤ)
    more : List (List ℕ)
    formed : AreFormedRows widths rows
    cut : lines ≡ base_lines form.lines i rows ++ more
    holds : HoldsDue due more

  holds_bases : (lines : List (List ℕ)) (i : ℕ) (widths : List ℕ) (due : List Ratio)
      → LeadsOn form (bases i widths due) lines ended → HoldsBases i widths due lines
  holds_bases [] i widths due e = absurd (not_bases i widths due e)
  holds_bases (line ∷ lines) i (width ∷ widths) due (next, step, more) =
      let h = holds_bases lines (i + 1) widths due
      (subst (λ (s : State). LeadsOn form s lines ended) step.2 more) in
      record {
        rows = step.0 ∷ h.rows;
        more = h.more;
        formed = record {
          widths_are = ap (λ (n : ℕ). n ∷ map length h.rows) step.1.0
              ∙ ap (λ (w : List ℕ). width ∷ w) h.formed.widths_are;
          small = All-cons (λ (x : List ℤ). All IsEntry x) step.0 h.rows step.1.1 h.formed.small;
        };
        cut = ap (λ (l : List ℕ). l ∷ lines) step.1.2
            ∙ ap (λ (l : List (List ℕ)). base_line form.lines i step.0 ∷ l) h.cut;
        holds = h.holds;
      }
  holds_bases (line ∷ lines) i [] (r ∷ due) (next, step, more) =
      let h = holds_bases lines 1 form.widths due
      (subst (λ (s : State). LeadsOn form s lines ended) step.1 more) in
      record {
        rows = [];
        more = line ∷ lines;
        formed = record { widths_are = refl; small = All-nil (λ (x : List ℤ). All IsEntry x) };
        cut = refl;
        holds = (
          h.rows,
          h.more,
          h.formed,
          ap (λ (l : List ℕ). l ∷ lines) step.0
              ∙ ap (λ (l : List (List ℕ)). at_line r.num r.den ∷ l) h.cut,
          h.holds,
        );
      }
  holds_bases (line ∷ lines) i [] [] (next, step, more) = record {
    rows = [];
    more = line ∷ lines;
    formed = record { widths_are = refl; small = All-nil (λ (x : List ℤ). All IsEntry x) };
    cut = refl;
    holds = ap (λ (l : List ℕ). l ∷ lines) step.0 ∙ ap (λ (l : List (List ℕ)). codes "end" ∷ l)
        (nothing lines (subst (λ (s : State). LeadsOn form s lines ended) step.1 more));
  }

  -- the blocks and the slopes that are still to come, and the bases
  record HoldsListing (k : ℕ) (slopes : List Ratio) (lines : List (List ℕ)) : Type 0 where
    blocks : List Block
    heads : List Break
    rows : List (List ℤ)
    more : List (List ℕ)
    are_blocks : (i : ℕ) → i < length blocks
        → IsFormedBlock (length form.names) (k + i) (block_at blocks i)
    are_heads : All (λ b. IsSlopeLine form.names (slope_line form.names b) (ratio_of b) b.members)
        heads
    are_rows : AreFormedRows form.widths rows
    cut : lines ≡ block_lines form.names (k + 1)
        blocks ++ (slope_lines form.names heads ++ at_line (pos 0)
        (pos 1) ∷ (base_lines form.lines 1 rows ++ more))
    holds : HoldsDue (slopes ++ map ratio_of heads) more
    in_order : (slopes ≡ [] → ⊥) → blocks ≡ []

  abbrev IsSlope : Break → Type 0
  IsSlope b = IsSlopeLine form.names (slope_line form.names b) (ratio_of b) b.members

  holds_listing : (lines : List (List ℕ)) (k : ℕ) (slopes : List Ratio)
      → LeadsOn form (listing k slopes) lines ended → HoldsListing k slopes lines
  holds_listing [] k slopes e = absurd (not_listing k slopes e)
  holds_listing (line ∷ lines) k slopes (next, inl (block, is, none, goes), more) =
      let h = holds_listing lines (k + 1) []
      (subst (λ (s : State). LeadsOn form s lines ended) goes more) in
      record {
        blocks = block ∷ h.blocks;
        heads = h.heads;
        rows = h.rows;
        more = h.more;
        are_blocks = each_block (length form.names) k block h.blocks is.0 h.are_blocks;
        are_heads = h.are_heads;
        are_rows = h.are_rows;
        cut = ap (λ (l : List ℕ). l ∷ lines) is.1
            ∙ ap (λ (l : List (List ℕ)). block_line form.names (k + 1) block ∷ l) h.cut;
        holds = subst (λ (x : List Ratio). HoldsDue (x ++ map ratio_of h.heads) h.more) (sym none)
            h.holds;
        in_order = λ some. absurd (some none);
      }
  holds_listing (line ∷ lines) k slopes (next, inr (inl (r, s, is, goes)), more) =
      let h = holds_listing lines k (slopes ++ r ∷ [])
      (subst (λ (t : State). LeadsOn form t lines ended) goes more) in
      let b : Break = record { num = r.num; den = r.den; members = s; bases = [] } in
      let none : h.blocks ≡ [] = h.in_order (push_some slopes r) in
      record {
        blocks = [];
        heads = b ∷ h.heads;
        rows = h.rows;
        more = h.more;
        are_blocks = λ i lt. absurd (no_place i lt);
        are_heads = All-cons IsSlope b h.heads
            (record {
              lowest = is.lowest;
              entry = is.entry;
              factor = is.factor;
              members = is.members;
              written = refl;
            }) h.are_heads;
        are_rows = h.are_rows;
        cut = ap (λ (l : List ℕ). l ∷ lines) is.written
            ∙ ap (λ (l : List (List ℕ)). slope_line form.names b ∷ l)
            (h.cut ∙ ap (λ (x : List Block). block_lines form.names (k + 1)
            x ++ (slope_lines form.names h.heads ++ at_line (pos 0)
            (pos 1) ∷ (base_lines form.lines 1 h.rows ++ h.more))) none);
        holds = subst (λ (x : List Ratio). HoldsDue x h.more)
            (append_assoc slopes (r ∷ []) (map ratio_of h.heads)) h.holds;
        in_order = λ some. refl;
      }
  holds_listing (line ∷ lines) k slopes (next, inr (inr (is, goes)), more) =
      let h = holds_bases lines 1 form.widths slopes
      (subst (λ (t : State). LeadsOn form t lines ended) goes more) in
      record {
        blocks = [];
        heads = [];
        rows = h.rows;
        more = h.more;
        are_blocks = λ i lt. absurd (no_place i lt);
        are_heads = All-nil IsSlope;
        are_rows = h.formed;
        cut = ap (λ (l : List ℕ). l ∷ lines) is
            ∙ ap (λ (l : List (List ℕ)). at_line (pos 0) (pos 1) ∷ l) h.cut;
        holds = subst (λ (x : List Ratio). HoldsDue x h.more) (sym (append-nil slopes)) h.holds;
        in_order = λ some. refl;
      }

  -- slope lines with the bases that are due for them
  record HoldsBreaks (heads : List Break) (lines : List (List ℕ)) : Type 0 where
    breaks : List Break
    are : All (IsFormedBreak (length form.names) form.widths) breaks
    same : slope_lines form.names breaks ≡ slope_lines form.names heads
    cut : lines ≡ break_lines form.lines breaks ++ codes "end" ∷ []

  with_bases : (heads : List Break) (lines : List (List ℕ)) → All IsSlope heads
      → HoldsDue (map ratio_of heads) lines → HoldsBreaks heads lines
  with_bases [] lines h e = record {
    breaks = [];
    are = All-nil (IsFormedBreak (length form.names) form.widths);
    same = refl;
    cut = e;
  }
  with_bases (b ∷ heads) lines h (rows, more, formed, cut, due) =
      let t = with_bases heads more (All-tail IsSlope b heads h) due in
      let is = All-head IsSlope b heads h in
      let c : Break = record { num = b.num; den = b.den; members = b.members; bases = rows } in
      record {
        breaks = c ∷ t.breaks;
        are = All-cons (IsFormedBreak (length form.names) form.widths) c t.breaks
            (record {
              lowest = is.lowest;
              entry = is.entry;
              factor = is.factor;
              members = is.members;
              bases = formed;
            }) t.are;
        same = ap (λ (l : List (List ℕ)). slope_line form.names b ∷ l) t.same;
        cut = cut ∙ ap (λ (l : List (List ℕ)). section_lines form.lines b.num b.den rows ++ l) t.cut
            ∙ sym (append_assoc (section_lines form.lines b.num b.den rows)
            (break_lines form.lines t.breaks) (codes "end" ∷ []));
      }

  pub record Whole (lines : List (List ℕ)) : Type 0 where
    pub answer : Answer
    pub formed : IsFormed form answer
    pub cut : answer_lines form answer ≡ lines

  whole_from : (value : ℤ) (low high : List Bool) (lines : List (List ℕ)) → IsEntry value
      → length low ≡ length form.names → length high ≡ length form.names → HoldsListing 0 [] lines
      → Whole (form.header ∷ (codes "minimum " ++ signed_decimal value)
      ∷ (codes "least" ++ listed form.names low) ∷ (codes "greatest" ++ listed form.names high)
      ∷ lines)
  whole_from value low high lines hv hl hh h =
      let t = with_bases h.heads h.more h.are_heads h.holds in
      record {
        answer = record {
          value = value;
          least = low;
          greatest = high;
          blocks = h.blocks;
          bases = h.rows;
          breaks = t.breaks;
        };
        formed = record {
          value = hv;
          least = hl;
          greatest = hh;
          blocks = λ i lt. subst (λ (n : ℕ). IsFormedBlock (length form.names) n
              (block_at h.blocks i)) (from_zero i) (h.are_blocks i lt);
          bases = h.are_rows;
          breaks = t.are;
        };
        cut = ap (λ (l : List (List ℕ)). form.header ∷ (codes "minimum " ++ signed_decimal value)
            ∷ (codes "least" ++ listed form.names low)
            ∷ (codes "greatest" ++ listed form.names high) ∷ l)
            (regroup (block_lines form.names 1 h.blocks) (slope_lines form.names t.breaks)
            (at_line (pos 0) (pos 1)) (base_lines form.lines 1 h.rows)
            (break_lines form.lines t.breaks) (codes "end" ∷ [])
            ∙ ap (λ (l : List (List ℕ)). block_lines form.names 1
            h.blocks ++ (l ++ at_line (pos 0)
            (pos 1) ∷ (base_lines form.lines 1
            h.rows ++ (break_lines form.lines t.breaks ++ codes "end" ∷ [])))) t.same
            ∙ ap (λ (l : List (List ℕ)). block_lines form.names 1
            h.blocks ++ (slope_lines form.names h.heads ++ at_line (pos 0)
            (pos 1) ∷ (base_lines form.lines 1 h.rows ++ l))) (sym t.cut)
            ∙ sym h.cut);
      }

  whole : (lines : List (List ℕ)) → LeadsOn form header lines ended → Whole lines
  whole [] e = absurd (not_header e)
  whole (l0 ∷ []) (s1, h1, e) = absurd (not_minimum (sym h1.1 ∙ e))
  whole (l0 ∷ l1 ∷ []) (s1, h1, (s2, h2, e)) =
      let k2 = subst (λ (s : State). Leads form s l1 s2) h1.1 h2 in
      absurd (not_least (sym k2.2 ∙ e))
  whole (l0 ∷ l1 ∷ l2 ∷ []) (s1, h1, (s2, h2, (s3, h3, e))) =
      let k2 = subst (λ (s : State). Leads form s l1 s2) h1.1 h2 in
      let k3 = subst (λ (s : State). Leads form s l2 s3) k2.2 h3 in
      absurd (not_greatest (sym k3.2 ∙ e))
  whole (l0 ∷ l1 ∷ l2 ∷ l3 ∷ lines) (s1, h1, (s2, h2, (s3, h3, (s4, h4, more)))) =
      let k2 = subst (λ (s : State). Leads form s l1 s2) h1.1 h2 in
      let k3 = subst (λ (s : State). Leads form s l2 s3) k2.2 h3 in
      let k4 = subst (λ (s : State). Leads form s l3 s4) k3.2 h4 in
      let w = whole_from k2.0 k3.0 k4.0 lines k2.1.0 k3.1.0 k4.1.0
      (holds_listing lines 0 [] (subst (λ (s : State). LeadsOn form s lines ended) k4.2
      more)) in
      record {
        answer = w.answer;
        formed = w.formed;
        cut = w.cut ∙ same_four (sym h1.0) (sym k2.1.1) (sym k3.1.1) (sym k4.1.1) lines;
      }

  -- lines that lead anywhere are the first ones of an answer
  pub begins_from : (lines : List (List ℕ)) (s : State) → LeadsOn form header lines s
      → BeginsOne (IsFormed form) (answer_lines form) lines
  begins_from lines s h =
      let g = goes_on s in
      let w = whole (lines ++ g.0) (leads-append (Leads form) header lines s g.0 ended h g.1) in
      (w.answer, g.0, w.formed, w.cut)
