use Rattle.std.proofs.Common.{refl, ◌∙◌, ⊎_elim, arith}
use Rattle.std.proofs.lemmas.Bool.{cases_eq}
use Rattle.sfm_spec.specs.Terms.{times}
use Rattle.sfm_reach.specs.Reach.{AreRowsOf}
use Rattle.sfm_reach.proofs.reach.ask.Given as given
use Rattle.sfm_reach.proofs.reach.ask.Goals as goal
use Rattle.sfm_reach.proofs.reach.ask.Goals.{Joined-order, in-Some+else-loop-first-test, in_default}

-- the rows that were asked for, and the note, whether the term names places or not
begun : (g : given.Over) (c : Joined-order g)
    → let t = g.T.Term in let term = c.args.at.now.term.now in let base =
    c.args.at.now.base in AreRowsOf (t.places term) (times base.q (t.value_of term)) base.x.now
    c.match-order.asked c.match-order.rows × t.fits term c.match-order.note base.q base.x.now
begun g c = elim c.match-order.branch [
  | in-Some+else-loop-first-test w ↦ rw (w.rows-is, w.asked-is, w.note-is)
      (w.loop-first.invariant.1, w.loop-first.invariant.2)
  | in_default w ↦ rw (w.rows-is, w.asked-is, w.note-is) (
    (λ u one. absurd (let none = c.no_bits-asked.ensures u in omega (arith, none, one))),
    c.requires.noted,
  )
]

pub loop-first-init : goal.loop-first-init
loop-first-init g c = (
  refl,
  (λ u one. absurd (let none = c.no_bits-asked.ensures u in omega (arith, none, one))),
  c.requires.noted,
)

pub ask_row-requires-clause-rows : goal.ask_row-requires-clause-rows
ask_row-requires-clause-rows g c = c.loop-first.invariant.0 ∙ c.requires.rows

pub loop-first-preserved : goal.loop-first-preserved
loop-first-preserved g c = let e = c.in_ok-ask_row.ensures in (
  e.rows ∙ c.loop-first.invariant.0,
  e.known,
  e.noted,
)

pub loop-u-init : goal.loop-u-init
loop-u-init g c = let (known, noted) = begun g c in (refl, known, (λ v l. omega (arith, l)), noted)

pub loop-u-preserved : goal.loop-u-preserved
loop-u-preserved g c =
    let e = c.in_ok-ask_row-2.ensures in
    let inv = c.loop-u.invariant in (
      e.rows ∙ inv.0,
      e.known,
      (λ v l. ⊎_elim (λ same. rw same (e.told c.loop-u-test.true))
          (λ ne. e.kept v (inv.2 v (omega (arith, l, ne)))) (cases_eq v c.loop-u.u)),
      e.noted,
    )

pub returns-clause-asked : goal.returns-clause-asked
returns-clause-asked g c = λ u e l. c.loop-u.invariant.1 u
    (c.loop-u.invariant.2 u (omega (arith, l, c.requires.based.based.entries, c.loop-u-test.false)))
    e
