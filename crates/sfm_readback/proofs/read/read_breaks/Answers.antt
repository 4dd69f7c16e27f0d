use Rattle.std.proofs.Common.{◌≡◌, ◌∷◌, ◌++◌, ◌+◌, [], List, map, refl, subst, sym, ap, ◌∙◌, arith}
use Rattle.std.proofs.lemmas.List.{length-map, map_push}
use Rattle.sfm_cert.specs.Answer.{Break}
use Rattle.sfm_cert.specs.Solved.{break_of, form_of}
use Rattle.sfm_cert.proofs.AnswerLines.{item_at}
use Rattle.sfm_readback.specs.Lists.{break_of_head}
use Rattle.sfm_readback.proofs.Sections.{BreaksSoFar, IsSectionOf, breaks_begin, breaks_more, breaks_stop_at, breaks_stop_rows, breaks_end, breaks_are}
use Rattle.sfm_readback.proofs.read.read_breaks.Goals.{After-read_at}
use Rattle.sfm_readback.proofs.read.read_breaks.Goals as goal

pub loop-head-init : goal.loop-head-init
loop-head-init c = rw c.new-breaks.ensures.items
    (breaks_begin (form_of c.args.instance.now) c.args.text.now (map break_of_head c.args.heads.now)
    c.args.cursor.now c.requires.within)

-- the section of the slope line is due
due : (c : After-read_at) → IsSectionOf (form_of c.args.instance.now) c.args.text.now
    (map break_of_head c.args.heads.now) c.loop-head.head-index (break_of_head c.head-item.result)
due c = record {
  below = omega (arith, c.loop-head-test.true, length-map c.args.heads.now break_of_head);
  is = item_at break_of_head c.args.heads.now c.loop-head.head-index c.head-item.result
      (break_of_head c.head-item.result) c.loop-head-test.true c.head-item.is;
}

pub returns-in_err-read_at-clause-stopped : goal.returns-in_err-read_at-clause-stopped
returns-in_err-read_at-clause-stopped c =
    breaks_stop_at (form_of c.args.instance.now) c.args.text.now
    (map break_of_head c.args.heads.now) c.from_residual.result c.args.cursor.now
    c.loop-head.cursor c.loop-head.head-index (map break_of c.loop-head.breaks.items)
    (break_of_head c.head-item.result) c.in_err-read_at.field-0.0 c.from_residual.ensures.1
    (due (goal.at.returns-in_err-read_at-clause-stopped c).After-read_at) c.loop-head.invariant
    c.in_err-read_at.ensures.stuck

pub returns-in_err-bases-clause-stopped : goal.returns-in_err-bases-clause-stopped
returns-in_err-bases-clause-stopped c =
    breaks_stop_rows (form_of c.args.instance.now) c.args.text.now
    (map break_of_head c.args.heads.now) c.from_residual-in_err-bases.result c.args.cursor.now
    c.loop-head.cursor c.read_at.new.cursor c.loop-head.head-index
    (map break_of c.loop-head.breaks.items) (break_of_head c.head-item.result)
    c.in_err-bases.field-0.0 c.from_residual-in_err-bases.ensures.1
    (due (goal.at.returns-in_err-bases-clause-stopped c).After-read_at) c.loop-head.invariant
    c.in_ok-read_at.ensures.read c.in_err-bases.ensures.stopped

pub loop-head-preserved : goal.loop-head-preserved
loop-head-preserved c =
    let form = form_of c.args.instance.now in
    let text = c.args.text.now in
    let hs = map break_of_head c.args.heads.now in
    let bs = map break_of c.loop-head.breaks.items in
    let i = c.loop-head.head-index in
    let b = break_of_head c.head-item.result in
    let n : Break = record {
      num = b.num;
      den = b.den;
      members = c.in_ok-set.set;
      bases = c.in_ok-bases.bases;
    } in
    let pushed : map break_of c.push.new.self.items ≡ bs ++ n ∷ [] = ap (map break_of)
    c.in_ok-push.ensures.items ∙ map_push break_of c.loop-head.breaks.items _ in
    subst (λ (x : List Break). BreaksSoFar form text hs c.args.cursor.now c.read_rows.new.cursor
    (i + 1) x) (sym pushed)
    (breaks_more form text hs c.args.cursor.now c.loop-head.cursor c.read_at.new.cursor
    c.read_rows.new.cursor i bs b n (due (goal.at.loop-head-preserved c).After-read_at)
    c.requires.heads c.loop-head.invariant
    c.in_ok-read_at.ensures.read c.in_ok-bases.ensures.read refl refl c.in_ok-set.ensures)

pub returns-clause-read : goal.returns-clause-read
returns-clause-read c =
    breaks_end (form_of c.args.instance.now) c.args.text.now (map break_of_head c.args.heads.now)
    c.args.cursor.now c.loop-head.cursor c.loop-head.head-index
    (map break_of c.loop-head.breaks.items)
    (omega (arith, c.loop-head-test.false, length-map c.args.heads.now break_of_head))
    c.loop-head.invariant

pub returns-clause-same : goal.returns-clause-same
returns-clause-same c =
    breaks_are (form_of c.args.instance.now) c.args.text.now (map break_of_head c.args.heads.now)
    c.args.cursor.now c.loop-head.cursor c.loop-head.head-index
    (map break_of c.loop-head.breaks.items)
    (omega (arith, c.loop-head-test.false, length-map c.args.heads.now break_of_head))
    c.loop-head.invariant
