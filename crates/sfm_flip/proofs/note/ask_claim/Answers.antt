-- A row that is asked is a true one, and claimed no more.
use Rattle.std.proofs.Common.{◌<◌, ap, ◌∙◌, length, length-set, get_or-set_same}
use Rattle.sfm_spec.specs.Terms.{times}
use Rattle.sfm_reach.specs.Bits.{blank_bits}
use Rattle.sfm_kind.specs.Kinds.{kind_places, kind_value}
use Rattle.sfm_kind.proofs.Passed.{factor_kept}
use Rattle.sfm_exchange.proofs.Claiming.{claims_asked}
use Rattle.sfm_flip.proofs.note.ask_claim.Goals as goal

pub returns-clause-settled : goal.returns-clause-settled
returns-clause-settled c =
    let kind = c.args.term.now in
    let note = c.args.note.now in
    let s = c.requires.settled in
    let b = c.requires.based in
    let v = c.args.v in
    let e = rw (factor_kept _ b.based.factor, c.as_slice-x.ensures) at c.in_ok-row.ensures in
    let inside : v < length (kind_places kind) = rw (← b.based.entries) c.requires.from in
    let others = rw c.elements.ensures at c.remove.ensures.others in
    record {
      inner = e.noted;
      count = ap length c.set.ensures
          ∙ (length-set c.row_by.new.rows v c.in_ok-row.row ∙ (ap length e.same ∙ s.count));
      claims = rw (c.set.ensures, e.same)
          (claims_asked (kind_places kind) b.placed.distinct (times c.args.q (kind_value kind))
          note.base note.claimed c.remove.new.self note.rows v c.in_ok-row.row inside
          (rw s.count inside) s.claims e.row others);
      nothing = s.nothing;
    }

pub returns-clause-told : goal.returns-clause-told
returns-clause-told c = λ bit.
    let b = c.requires.based in
    let e = rw (factor_kept _ b.based.factor, c.as_slice-x.ensures) at c.in_ok-row.ensures in
    let inside : c.args.v < length
    c.args.note.now.rows = rw (c.requires.settled.count, ← b.based.entries) c.requires.from in
    rw (
      c.set.ensures,
      e.same,
      get_or-set_same c.args.note.now.rows c.args.v c.in_ok-row.row
          blank_bits inside,
    ) e.row
