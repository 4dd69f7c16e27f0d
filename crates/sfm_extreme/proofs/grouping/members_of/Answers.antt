use Rattle.std.proofs.Common.{◌≡◌, ℕ, Bool, false, List, [], length, get_or, sym, ap, ◌∙◌, arith}
use Rattle.std.proofs.lemmas.Bool.{both_ways, false≢true}
use Rattle.std.proofs.lemmas.List.{get_or_read, length-replicate}
use Rattle.sfm_reach.proofs.Placing.{none_in_empty}
use Rattle.sfm_extreme.specs.Pulls.{Pulls, row_of}
use Rattle.sfm_extreme.proofs.Groups.{marked_put, marked_skip}
use Rattle.sfm_extreme.proofs.grouping.members_of.Goals as goal
use Rattle.sfm_extreme.proofs.grouping.members_of.Goals.{then-contains+then-contains-2, else-contains, else-contains-via-then-contains+else-contains-2, else-contains-via-else-contains}

pub loop-d-preserved : goal.loop-d-preserved
loop-d-preserved c =
    let rows = c.args.rows.now in
    let first = c.args.first in
    let d = c.loop-d.d in
    let s = c.loop-d.members in
    let P : ℕ → Type 0 = λ e. Pulls rows first e × Pulls rows e first in
    let along : c.contains.result ≡ get_or (row_of rows first) d false = c.contains.ensures
    ∙ ap (λ (row : List Bool). get_or row d false)
    (get_or_read rows first c.index-rows-first.result c.requires.inside c.index-rows-first.is
    []) in
    elim c.if-contains.branch [
      | then-contains+then-contains-2 w ↦
          let back : w.contains-then-contains.result ≡ get_or (row_of rows d) first
          false = w.contains-then-contains.ensures
          ∙ ap (λ (row : List Bool). get_or row first false)
          (get_or_read rows d w.index-rows-d.result c.loop-d-test.true w.index-rows-d.is []) in
          marked_put (length rows) d P s c.if-contains.members c.loop-d.invariant c.loop-d-test.true
          (sym along ∙ w.if-contains.true, sym back ∙ w.if-contains-2.true)
          (w.members-is ∙ w.insert.ensures)
      | else-contains w ↦
          rw w.members-is (marked_skip (length rows) d P s c.loop-d.invariant
          (elim w.else-contains.branch [
            | else-contains-via-then-contains+else-contains-2 w' ↦
                let back : w'.contains-then-contains.result ≡ get_or (row_of rows d) first
                false = w'.contains-then-contains.ensures
                ∙ ap (λ (row : List Bool). get_or row first false)
                (get_or_read rows d w'.index-rows-d.result c.loop-d-test.true w'.index-rows-d.is
                []) in
                (λ p. both_ways w'.contains-then-contains.result w'.if-contains-2.false
                (back ∙ p.1))
            | else-contains-via-else-contains w' ↦
                (λ p. both_ways c.contains.result w'.if-contains.false (along ∙ p.0))
          ]))
    ]

pub returns : goal.returns
returns c =
    let h = c.loop-d.invariant in
    let done = c.loop-d-test.false in
    record { places = h.places; exact = λ d l. h.exact d (omega (arith, l, done)) }

pub contains-requires : goal.contains-requires
contains-requires c =
    let row = get_or_read c.args.rows.now c.args.first c.index-rows-first.result c.requires.inside
    c.index-rows-first.is [] in
    rw (row, c.requires.square c.args.first c.requires.inside) c.loop-d-test.true

pub contains-requires-then-contains : goal.contains-requires-then-contains
contains-requires-then-contains c =
    let row = get_or_read c.args.rows.now c.loop-d.d c.index-rows-d.result c.loop-d-test.true
    c.index-rows-d.is [] in
    rw (row, c.requires.square c.loop-d.d c.loop-d-test.true) c.requires.inside

pub insert-requires : goal.insert-requires
insert-requires c = rw c.loop-d.invariant.places c.loop-d-test.true

pub loop-d-init : goal.loop-d-init
loop-d-init c = rw c.in_ok-members.ensures
    (record {
      places = length-replicate (length c.args.rows.now) false;
      exact = λ e l. absurd (omega (arith, l));
      later = λ e _ has. false≢true (sym (none_in_empty (length c.args.rows.now) e) ∙ has);
    })
