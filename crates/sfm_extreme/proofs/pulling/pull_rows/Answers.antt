use Rattle.std.proofs.Common.{◌≡◌, ⊎_elim, ℕ, ◌+◌, ◌<◌, Bool, List, [], ◌∷◌, ◌++◌, length, sym, subst, ap, ◌∙◌, arith}
use Rattle.std.proofs.lemmas.Bool.{cases_lt}
use Rattle.std.proofs.lemmas.List.{length_push}
use Rattle.std.proofs.Math.ListN.{get_or-append}
use Rattle.std.proofs.Math.Seq.{get_or-append_seam}
use Rattle.sfm_extreme.specs.Pulls.{IsPullSet, row_of}
use Rattle.sfm_extreme.proofs.pulling.pull_rows.Goals as goal

-- one row more
rows_more : (P : ℕ → List Bool → Type 0) (rows : List (List Bool)) (row : List Bool) (k : ℕ)
    → length rows ≡ k → ((e : ℕ) → e < k → P e (row_of rows e)) → P k row → (e : ℕ) → e < k + 1
    → P e (row_of (rows ++ row ∷ []) e)
rows_more P rows row k count each last e l = ⊎_elim
    (λ less. rw (get_or-append rows (row ∷ []) [] e (omega (arith, less, count))) (each e less))
    (λ ge.
    let same : e ≡ length rows = omega (arith, ge, l, count) in
    let here : P (length rows) (row_of (rows ++ row ∷ []) (length rows)) = rw (get_or-append_seam
    rows row [] []) (subst (λ i. P i row) (sym count) last) in
    subst (λ i. P i (row_of (rows ++ row ∷ []) i)) (sym same) here)
    (cases_lt e k)

pub loop-e-preserved : goal.loop-e-preserved
loop-e-preserved c =
    let unions = c.args.unions.now in
    let rows = c.loop-e.rows.items in
    let row = c.in_ok-set_of.field-0 in
    let inv = c.loop-e.invariant in
    rw c.in_ok-push.ensures.items (
      length_push rows row ∙ ap (λ n. n + 1) inv.0,
      rows_more (IsPullSet unions c.args.outside.now) rows row c.loop-e.e inv.0 inv.1
          (record {
            bits = c.pull_row-row.result;
            is_row = c.pull_row-row.ensures;
            same = c.in_ok-set_of.ensures;
          }),
    )

pub pull_row-row-requires-clause-few : goal.pull_row-row-requires-clause-few
pull_row-row-requires-clause-few c = c.requires.few

pub pull_row-row-requires-clause-links : goal.pull_row-row-requires-clause-links
pull_row-row-requires-clause-links c = c.requires.links

pub returns : goal.returns
returns c =
    let inv = c.loop-e.invariant in
    record {
      count = omega (arith, inv.0, c.loop-e.auto.e-end, c.loop-e-test.false);
      each = λ e l. inv.1 e (omega (arith, l, c.loop-e-test.false));
    }
