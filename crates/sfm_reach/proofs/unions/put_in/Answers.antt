use Rattle.std.proofs.Common.{◌≡◌, ◌++◌, ⊎_elim, length, take, drop, refl, sym, ◌∙◌, arith}
use Rattle.std.proofs.lemmas.Bool.{cases_eq}
use Rattle.std.proofs.lemmas.List.{take_at, get_or_default, set-get_or}
use Rattle.sfm_reach.specs.Bits.{bit_in, set_at, blank_bits}
use Rattle.sfm_reach.proofs.Turning.{turned_set}
use Rattle.sfm_reach.proofs.Words.{bit_in-lt}
use Rattle.sfm_reach.proofs.unions.put_in.Goals as goal

pub returns-then-is_within-clause-put : goal.returns-then-is_within-clause-put
returns-then-is_within-clause-put c =
    let unions = c.args.unions.now.items in
    let here = c.args.place in
    let read : set_at unions here ≡ c.index.result.now = get_or_default unions here blank_bits
    c.index.result.now c.requires.inside ∙ sym c.index.ensures in
    let has = rw (← read) at (c.if-is_within.ensures.0 refl) in (
      set_at unions here,
      sym (set-get_or unions here blank_bits),
      λ t. ⊎_elim
          (λ one. let w = has t one in omega (arith, w, one))
          (λ not. let l = bit_in-lt c.args.row.now t in omega (arith, l, not))
          (cases_eq (bit_in c.args.row.now t) 1),
    )

pub returns-clause-put : goal.returns-clause-put
returns-clause-put c =
    let unions = c.args.unions.now.items in
    let here = c.args.place in
    let read : set_at unions here ≡ c.index-2.result.now = get_or_default unions here blank_bits
    c.index-2.result.now c.requires.inside ∙ sym c.index-2.ensures in
    (c.union_with.new.self, refl, rw read c.union_with.ensures)

pub turn-requires-clause-column : goal.turn-requires-clause-column
turn-requires-clause-column c =
    let unions = c.args.unions.now.items in
    let here = c.args.place in
    let read : set_at unions here ≡ c.index-3.result.now = get_or_default unions here blank_bits
    c.index-3.result.now c.requires.inside ∙ sym c.index-3.ensures in
    rw (c.deref_mut.ensures.value, ← read) (λ t lt. c.requires.turned.exact here t lt)

pub returns-clause-turned : goal.returns-clause-turned
returns-clause-turned c =
    let old = c.args.back.now.items in
    let new = c.turn.new.back in
    let t = c.turn.ensures in
    let h = c.requires.turned in
    let whole : take c.args.back.now.len (new ++ drop (length new) old) ≡ new = take_at new
    (drop (length new) old) c.args.back.now.len
    (t.count ∙ (sym h.count ∙ sym c.args.back.now.ok.0)) in
    rw whole (turned_set c.args.unions.now.items old new c.args.place c.union_with.new.self
    c.requires.inside h t.count t.column (rw c.deref_mut.ensures.value at t.others))
