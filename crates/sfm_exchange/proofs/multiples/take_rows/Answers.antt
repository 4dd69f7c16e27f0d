use Rattle.std.proofs.Common.{length, ap, ◌∙◌, arith}
use Rattle.sfm_exchange.proofs.multiples.take_rows.Goals as goal

pub copy_tables-requires : goal.copy_tables-requires
copy_tables-requires g c = let s = c.requires.sized in (s.0, rw c.deref.ensures.value s.1, s.2)

pub copy_from_slice-requires : goal.copy_from_slice-requires
copy_from_slice-requires g c =
    let read = ap length c.deref-2.ensures.value in
    omega (arith, read, c.requires.claimed, c.args.graph.now.claimed.ok.0)

pub copy_from_slice-requires-2 : goal.copy_from_slice-requires-2
copy_from_slice-requires-2 g c =
    let read = ap length c.deref-3.ensures.value in
    omega (arith, read, c.requires.unions, c.args.graph.now.unions.ok.0)

pub copy_from_slice-requires-3 : goal.copy_from_slice-requires-3
copy_from_slice-requires-3 g c =
    let read = ap length c.deref-4.ensures.value in
    omega (arith, read, c.requires.back, c.args.graph.now.back.ok.0)

pub returns-clause-rows : goal.returns-clause-rows
returns-clause-rows g c = c.copy_tables.ensures ∙ c.deref.ensures.value

pub returns-clause-claimed : goal.returns-clause-claimed
returns-clause-claimed g c = c.copy_from_slice.ensures.items ∙ c.deref-2.ensures.value

pub returns-clause-unions : goal.returns-clause-unions
returns-clause-unions g c = c.copy_from_slice-2.ensures.items ∙ c.deref-3.ensures.value

pub returns-clause-back : goal.returns-clause-back
returns-clause-back g c = c.copy_from_slice-3.ensures.items ∙ c.deref-4.ensures.value
