-- The lines of a part of an answer text, read one by one.
use Rattle.std.proofs.Common.{◌≡◌, ℕ, ◌+◌, ◌<◌, ◌≤◌, Result, List, [], ◌∷◌, ◌++◌, length, take, drop, get_or, map, ℤ, inl, inr, Bool, refl, sym, ap, subst, ◌∙◌, arith}
use Rattle.std.specs.Prelude.{IfErr, IsErrAnd, codes}
use Rattle.std.specs.List.{All}
use Rattle.std.proofs.lemmas.List.{length_push, get_or_push, get_or_append_left, drop_more, take_more, map_push, drop_all, take_all}
use Rattle.std.proofs.lemmas.List.Elements.{All-nil, All-push}
use Rattle.std.proofs.Math.Nat.{eq-or-lt_of_le}
use mathlib.Core.Logic.{⊎_elim}
use Rattle.sfm_spec.specs.Bounds.{IsEntry}
use Rattle.sfm_spec.specs.Blocks.{Block, block_at, no_block}
use Rattle.sfm_cert.specs.Answer.{Break, Form, block_line}
use Rattle.sfm_cert.specs.LineLists.{block_lines, slope_lines, base_lines, base_line}
use Rattle.sfm_cert.specs.Form.{IsFormedBlock}
use Rattle.sfm_cert.specs.Labels.{label_in}
use Rattle.sfm_cert.specs.declared.solved.AnswerEnd.{AnswerEnd}
use Rattle.sfm_cert.proofs.AnswerLines.{block_lines-push, slope_lines-push, row_lines-push}
use Rattle.sfm_readback.specs.Lines.{IsBlockLine, IsSlopeLine, IsBaseLine, Ratio, ratio_of}
use Rattle.sfm_readback.specs.Parts.{ReadsBlocks, ReadsHeads, ReadsRows}
use Rattle.sfm_readback.specs.Reading.{State, listing, bases, Leads, Reads, EndsAt, EndsStuck, TakesSome, IsNextLine, ended}
use Rattle.sfm_readback.specs.declared.cursor.Cursor.{Cursor}
use Rattle.sfm_readback.proofs.Ends.{passed_on, reads_begin, reads_more, stops_stuck, first_byte}

module _ (form : Form) (text : List ℕ) where
  -- ---- blocks

  pub blocks_begin : (from : Cursor) → from.at ≤ length text → ReadsBlocks form text from from []
  blocks_begin from h = record {
    reads = reads_begin (Leads form) text from (listing 0 []) h;
    formed = λ i lt. absurd (omega (arith, lt));
  }

  formed_push : (blocks : List Block) (b : Block)
      → ((i : ℕ) → i < length blocks → IsFormedBlock (length form.names) i (block_at blocks i))
      → IsFormedBlock (length form.names) (length blocks) b
      → (i : ℕ) → i < length (blocks ++ b ∷ [])
      → IsFormedBlock (length form.names) i (block_at (blocks ++ b ∷ []) i)
  formed_push blocks b h k i lt =
      ⊎_elim
      (λ e. subst (λ (c : Block). IsFormedBlock (length form.names) i c)
      (sym (get_or_push blocks b no_block i (sym e)))
      (subst (λ (n : ℕ). IsFormedBlock (length form.names) n b) (sym e) k))
      (λ l. subst (λ (c : Block). IsFormedBlock (length form.names) i c)
      (sym (get_or_append_left blocks (b ∷ []) no_block i l)) (h i l))
      (eq-or-lt_of_le {n = i} {m = length blocks} (omega (arith, lt, length_push blocks b)))

  pub blocks_more : (from to to' : Cursor) (blocks : List Block) (b : Block)
      → ReadsBlocks form text from to blocks
      → TakesSome text to to' (λ line. IsBlockLine form.names (length blocks) line b)
      → ReadsBlocks form text from to' (blocks ++ b ∷ [])
  blocks_more from to to' blocks b r t = record {
    reads =
        let line_is : block_line form.names (1 + length blocks)
        b ≡ t.line = ap (λ n. block_line form.names n b) (omega arith) ∙ sym t.good.1 in
        let lines_are : block_lines form.names 1 blocks ++ t.line ∷ [] ≡ block_lines form.names 1
        (blocks ++ b ∷ []) = ap (λ l. block_lines form.names 1 blocks ++ l ∷ []) (sym line_is)
        ∙ sym (block_lines-push form.names 1 blocks b) in
        let n : length blocks + 1 ≡ length (blocks ++ b ∷ []) = sym (length_push blocks b) in
        subst (λ (l : List (List ℕ)). Reads form text from to' (listing 0 [])
        (listing (length (blocks ++ b ∷ [])) []) l) lines_are
        (reads_more (Leads form) text from to to' (listing 0 []) (listing (length blocks) [])
        (listing (length (blocks ++ b ∷ [])) []) (block_lines form.names 1 blocks) t.line
        r.reads t.takes t.within
        (inl (b, t.good, refl, ap (λ m. listing m []) (sym n))));
    formed = formed_push blocks b r.formed t.good.0;
  }

  -- a line that begins with `b` leads on as a block line alone
  only_block : (at k : ℕ) (slopes : List Ratio) (line : List ℕ) (next : State)
      → get_or text at 0 ≡ 98 → IsNextLine text at line → Leads form (listing k slopes) line next
      → (b : Block) × IsBlockLine form.names k line b
  only_block at k slopes line next e n (inl b) = (b.0, b.1)
  only_block at k slopes line next e n (inr (inl s)) =
      absurd (omega (
        arith,
        e,
        first_byte text at 115 line n (ap (λ x. get_or x 0 0) s.2.written)
            (omega arith),
      ))
  only_block at k slopes line next e n (inr (inr a)) =
      absurd (omega (
        arith,
        e,
        first_byte text at 97 line n (ap (λ x. get_or x 0 0) a.0)
            (omega arith),
      ))

  pub blocks_stop : {A : Type 0} (result : Result A AnswerEnd) (from to : Cursor)
      (blocks : List Block) (end : AnswerEnd) → IsErrAnd result (λ e. e ≡ end)
      → ReadsBlocks form text from to blocks → get_or text to.at 0 ≡ 98
      → EndsStuck text to (λ line. (b : Block) × IsBlockLine form.names (length blocks) line b) end
      → IfErr result (EndsAt form text from (listing 0 []))
  blocks_stop result from to blocks end is r e s =
      passed_on result end (EndsAt form text from (listing 0 [])) is
      (stops_stuck (Leads form) text ended from to (listing 0 []) (listing (length blocks) [])
      (block_lines form.names 1 blocks)
      (λ line. (b : Block) × IsBlockLine form.names (length blocks) line b) end r.reads s
      (λ line next n l. only_block to.at (length blocks) [] line next e n l) (λ f. cc))

  -- ---- slopes

  pub heads_begin : (from : Cursor) → from.at ≤ length text → ReadsHeads form text from from []
  heads_begin from h = record {
    within = h;
    reads = λ k. reads_begin (Leads form) text from (listing k []) h;
    formed = All-nil (λ b. (line : List ℕ) × IsSlopeLine form.names line (ratio_of b) b.members);
    stay = λ e. refl;
  }

  pub heads_more : (from to to' : Cursor) (heads : List Break) (b : Break)
      → ReadsHeads form text from to heads
      → TakesSome text to to' (λ line. IsSlopeLine form.names line (ratio_of b) b.members)
      → ReadsHeads form text from to' (heads ++ b ∷ [])
  heads_more from to to' heads b r t = record {
    within = t.within;
    reads = λ k.
        let lines_are : slope_lines form.names heads ++ t.line ∷ [] ≡ slope_lines form.names
        (heads ++ b ∷ []) = ap (λ l. slope_lines form.names heads ++ l ∷ []) t.good.written
        ∙ sym (slope_lines-push form.names heads b) in
        subst (λ (l : List (List ℕ)). Reads form text from to' (listing k [])
        (listing k (map ratio_of (heads ++ b ∷ []))) l) lines_are
        (reads_more (Leads form) text from to to' (listing k []) (listing k (map ratio_of heads))
        (listing k (map ratio_of (heads ++ b ∷ []))) (slope_lines form.names heads) t.line
        (r.reads k) t.takes t.within
        (inr (inl (
          ratio_of b,
          b.members,
          t.good,
          ap (λ m. listing k m) (map_push ratio_of heads b),
        ))));
    formed = All-push (λ c. (line : List ℕ) × IsSlopeLine form.names line (ratio_of c) c.members)
        heads b r.formed (t.line, t.good);
    stay = λ e. absurd (some heads b e);
  } where
    some : (heads : List Break) (b : Break) → heads ++ b ∷ [] ≡ [] → ⊥
    some [] b e = cc
    some (h ∷ heads) b e = cc

  only_slope : (at k : ℕ) (slopes : List Ratio) (line : List ℕ) (next : State)
      → get_or text at 0 ≡ 115 → IsNextLine text at line → Leads form (listing k slopes) line next
      → (r : Ratio) × (s : List Bool) × IsSlopeLine form.names line r s
  only_slope at k slopes line next e n (inl b) =
      absurd (omega (
        arith,
        e,
        first_byte text at 98 line n (ap (λ x. get_or x 0 0) b.1.1)
            (omega arith),
      ))
  only_slope at k slopes line next e n (inr (inl s)) = (s.0, s.1, s.2)
  only_slope at k slopes line next e n (inr (inr a)) =
      absurd (omega (
        arith,
        e,
        first_byte text at 97 line n (ap (λ x. get_or x 0 0) a.0)
            (omega arith),
      ))

  pub heads_stop : {A : Type 0} (result : Result A AnswerEnd) (from to : Cursor)
      (heads : List Break) (end : AnswerEnd) → IsErrAnd result (λ e. e ≡ end)
      → ReadsHeads form text from to heads → get_or text to.at 0 ≡ 115
      → EndsStuck text to (λ line. (r : Ratio) × (s : List Bool) × IsSlopeLine form.names line r s)
      end → IfErr result (λ end. (k : ℕ) → EndsAt form text from (listing k []) end)
  heads_stop result from to heads end is r e s =
      passed_on result end (λ end. (k : ℕ) → EndsAt form text from (listing k []) end) is (λ k.
      stops_stuck (Leads form) text ended from to (listing k []) (listing k (map ratio_of heads))
      (slope_lines form.names heads)
      (λ line. (r : Ratio) × (s : List Bool) × IsSlopeLine form.names line r s) end (r.reads k)
      s
      (λ line next n l. only_slope to.at k (map ratio_of heads) line next e n l) (λ f. cc))

  -- ---- bases

  pub record RowsSoFar (from to : Cursor) (i : ℕ) (rows : List (List ℤ)) : Type 0 where
    pub within : to.at ≤ length text
    pub count : length rows ≡ i
    pub reads : (due : List Ratio)
        → Reads form text from to (bases 1 form.widths due) (bases (i + 1) (drop i form.widths) due)
        (base_lines form.lines 1 rows)
    pub widths_are : map length rows ≡ take i form.widths
    pub small : All (λ x. All IsEntry x) rows

  -- the row of a place is due, of so many numbers
  pub record IsDue (i width : ℕ) : Type 0 where
    pub below : i < length form.widths
    pub is : get_or form.widths i 0 ≡ width

  widths_due : (i width : ℕ) → IsDue i width → drop i form.widths ≡ width ∷ drop (i + 1) form.widths
  widths_due i width d = drop_more form.widths i 0 d.below
      ∙ ap (λ n. n ∷ drop (i + 1) form.widths) d.is

  pub rows_begin : (from : Cursor) → from.at ≤ length text → RowsSoFar from from 0 []
  rows_begin from h = record {
    within = h;
    count = refl;
    reads = λ due. reads_begin (Leads form) text from (bases 1 form.widths due) h;
    widths_are =
        refl;
    small = All-nil (λ (x : List ℤ). All IsEntry x);
  }

  pub rows_more : (from to to' : Cursor) (i width : ℕ) (rows : List (List ℤ)) (x : List ℤ)
      → IsDue i width → RowsSoFar from to i rows
      → TakesSome text to to' (λ line. IsBaseLine (label_in form.lines (i + 1)) width line x)
      → RowsSoFar from to' (i + 1) (rows ++ x ∷ [])
  rows_more from to to' i width rows x d r t = record {
    within = t.within;
    count = omega (arith, length_push rows x, r.count);
    reads = λ due.
        let lines_are : base_lines form.lines 1 rows ++ t.line ∷ [] ≡ base_lines form.lines 1
        (rows ++ x ∷ []) = ap (λ l. base_lines form.lines 1 rows ++ l ∷ [])
        (t.good.2 ∙ ap (λ n. base_line form.lines n x) (omega (arith, r.count)))
        ∙ sym (row_lines-push (codes "base ") form.lines 1 rows x) in
        let ws = widths_due i width d in
        let before = subst (λ (l : List ℕ). Reads form text from to (bases 1 form.widths due)
        (bases (i + 1) l due) (base_lines form.lines 1 rows)) ws (r.reads due) in
        subst (λ (l : List (List ℕ)). Reads form text from to' (bases 1 form.widths due)
        (bases (i + 1 + 1) (drop (i + 1) form.widths) due) l) lines_are
        (reads_more (Leads form) text from to to' (bases 1 form.widths due)
        (bases (i + 1) (width ∷ drop (i + 1) form.widths) due)
        (bases (i + 1 + 1) (drop (i + 1) form.widths) due) (base_lines form.lines 1 rows) t.line
        before t.takes t.within
        (x, t.good, refl));
    widths_are = map_push length rows x ∙ ap (λ l. l ++ length x ∷ []) r.widths_are
        ∙ ap (λ n. take i form.widths ++ n ∷ []) (t.good.0 ∙ sym d.is)
        ∙ sym (take_more form.widths i 0 d.below);
    small = All-push (λ (y : List ℤ). All IsEntry y) rows x r.small t.good.1;
  }

  pub rows_stop : {A : Type 0} (result : Result A AnswerEnd) (from to : Cursor) (i width : ℕ)
      (rows : List (List ℤ)) (end : AnswerEnd) → IsErrAnd result (λ e. e ≡ end) → IsDue i width
      → RowsSoFar from to i rows
      → EndsStuck text to (λ line. (x : List ℤ)
      × IsBaseLine (label_in form.lines (i + 1)) width line x) end
      → IfErr result (λ end. (due : List Ratio)
      → EndsAt form text from (bases 1 form.widths due) end)
  rows_stop result from to i width rows end is d r s =
      passed_on result end (λ end. (due : List Ratio)
      → EndsAt form text from (bases 1 form.widths due) end) is (λ due.
      let ws = widths_due i width d in
      let before = subst (λ (l : List ℕ). Reads form text from to (bases 1 form.widths due)
      (bases (i + 1) l due) (base_lines form.lines 1 rows)) ws (r.reads due) in
      stops_stuck (Leads form) text ended from to (bases 1 form.widths due)
      (bases (i + 1) (width ∷ drop (i + 1) form.widths) due) (base_lines form.lines 1 rows)
      (λ line. (x : List ℤ) × IsBaseLine (label_in form.lines (i + 1)) width line x) end before
      s
      (λ line next n l. (l.0, l.1)) (λ f. cc))

  pub rows_end : (from to : Cursor) (i : ℕ) (rows : List (List ℤ)) → length form.widths ≤ i
      → i ≤ length form.widths → RowsSoFar from to i rows → ReadsRows form text from to rows
  rows_end from to i rows h k r = record {
    within = r.within;
    reads = λ due. subst (λ (l : List ℕ). Reads form text from to (bases 1 form.widths due)
        (bases (length rows + 1) l due) (base_lines form.lines 1 rows)) (drop_all i form.widths h)
        (subst (λ (n : ℕ). Reads form text from to (bases 1 form.widths due)
        (bases (n + 1) (drop i form.widths) due) (base_lines form.lines 1 rows)) (sym r.count)
        (r.reads due));
    formed = record { widths_are = r.widths_are ∙ take_all i form.widths h; small = r.small };
  }
