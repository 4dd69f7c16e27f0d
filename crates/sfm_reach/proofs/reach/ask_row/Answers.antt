use Rattle.std.proofs.Common.{◌≡◌, ◌≢◌, ◌<◌, ℕ, ℤ, List, set, ⊎_elim, arith, subst, sym, ap, ◌∙◌, get_or-set_same, get_or-set_other, length, length-set}
use Rattle.std.proofs.lemmas.Bool.{cases_eq}
use Rattle.sfm_base.proofs.Elements.{placed_few}
use Rattle.sfm_spec.specs.Terms.{SetFunction}
use Rattle.sfm_reach.specs.declared.bits.Bits.{Bits}
use Rattle.sfm_reach.specs.Bits.{bit_in, blank_bits, set_at}
use Rattle.sfm_reach.specs.Reach.{AreRowsOf, IsRow}
use Rattle.sfm_reach.proofs.reach.ask_row.Goals as goal

-- one row more
rows_more : (places : List ℕ) (f : SetFunction) (x : List ℤ) (asked asked' : Bits)
    (rows : List Bits) (u : ℕ) (row : Bits) → u < length rows → AreRowsOf places f x asked rows
    → IsRow places f x u row
    → ((k : ℕ) → k ≢ u → bit_in asked' k ≡ bit_in asked k)
    → AreRowsOf places f x asked' (set rows u row)
rows_more places f x asked asked' rows u row l known is others v one = ⊎_elim
    (λ same. subst (λ w. IsRow places f x w (set_at (set rows u row) w)) (sym same)
    (rw (get_or-set_same rows u row blank_bits l) is))
    (λ ne. rw (get_or-set_other rows u v row blank_bits ne) (known v (sym (others v ne) ∙ one)))
    (cases_eq v u)

pub contains-requires : goal.contains-requires
contains-requires g c =
    let few = placed_few 256 (g.T.Term.places c.args.at.now.term.now) c.requires.based.placed in
    omega (arith, few, c.requires.based.based.entries, c.if-u-at.false)

pub insert-requires : goal.insert-requires
insert-requires g c =
    let few = placed_few 256 (g.T.Term.places c.args.at.now.term.now) c.requires.based.placed in
    omega (arith, few, c.requires.based.based.entries, c.if-u-at.false)

pub set-requires : goal.set-requires
set-requires g c = rw (c.in_ok-row.ensures.same, c.requires.rows) c.if-u-at.false

pub returns-clause-rows : goal.returns-clause-rows
returns-clause-rows g c = ap length c.set.ensures
    ∙ (length-set c.row_by.new.rows c.args.u c.in_ok-row.row ∙ ap length c.in_ok-row.ensures.same)

pub returns-clause-known : goal.returns-clause-known
returns-clause-known g c = rw (c.set.ensures, c.in_ok-row.ensures.same)
    (rows_more _ _ _ _ _ c.args.rows.now c.args.u _ (rw c.requires.rows c.if-u-at.false)
    c.requires.known c.in_ok-row.ensures.row c.insert.ensures.others)

pub returns-clause-kept : goal.returns-clause-kept
returns-clause-kept g c = λ v one. ⊎_elim (λ is. rw is c.insert.ensures.put)
    (λ ne. c.insert.ensures.others v ne ∙ one) (cases_eq v c.args.u)

pub returns-clause-told : goal.returns-clause-told
returns-clause-told g c = λ _. c.insert.ensures.put
