use Rattle.std.proofs.Common.{◌≡◌, ◌↔◌, ◌≢◌, ℕ, ◌-◌, ⊎_elim, arith}
use Rattle.std.proofs.lemmas.Bool.{cases_eq}
use Rattle.sfm_reach.specs.declared.bits.Bits.{Bits}
use Rattle.sfm_exchange.specs.Bits.{bit_in}
use Rattle.sfm_reach.proofs.Words.{bit_in-lt}
use Rattle.sfm_extreme.proofs.pulling.pull_row.Goals as goal

-- what is left of a set where the places of another are taken out
left_of : (s other rest : Bits) (d : ℕ) → bit_in rest d ≡ bit_in s d - bit_in other d
    → (bit_in rest d ≡ 1) ↔ ((bit_in s d ≡ 1) × (bit_in other d ≢ 1))
left_of s other rest d is =
    let a = bit_in-lt s d in
    let b = bit_in-lt other d in (
      (λ one. (omega (arith, is, a, one), λ out. omega (arith, is, a, one, out))),
      (λ (one, none). omega (arith, is, b, one, none)),
    )

-- a set of one place
only : (s : Bits) (e d : ℕ) (none : Bits) → bit_in none d ≡ 0 → bit_in s e ≡ 1
    → (d ≢ e → bit_in s d ≡ bit_in none d) → (bit_in s d ≡ 1) ↔ (d ≡ e)
only s e d none blank put others = (
  (λ one. ⊎_elim (λ same. same) (λ ne. absurd (let o = others ne in omega (arith, o, one, blank)))
      (cases_eq d e)),
  (λ same. rw same put),
)

pub reached_from-row-requires-clause-firsts : goal.reached_from-row-requires-clause-firsts
reached_from-row-requires-clause-firsts c = λ d one.
    let s = c.insert.new.self in
    let has = ((left_of s c.args.outside.now c.remove_all.new.self d (c.remove_all.ensures d)).0
    one).0 in
    let same = (only s c.args.e d c.no_bits-firsts.result (c.no_bits-firsts.ensures d)
    c.insert.ensures.put (c.insert.ensures.others d)).0 has in
    rw same c.requires.inside

pub returns : goal.returns
returns c = record {
  firsts = c.remove_all.new.self;
  found = c.reached_from-row.result;
  firsts_are = λ d.
      let s = c.insert.new.self in
      let l = left_of s c.args.outside.now c.remove_all.new.self d (c.remove_all.ensures d) in
      let o = only s c.args.e d c.no_bits-firsts.result (c.no_bits-firsts.ensures d)
      c.insert.ensures.put (c.insert.ensures.others d) in (
        (λ one. let (has, none) = l.0 one in (o.0 has, none)),
        (λ (same, none). l.1 (o.1 same, none)),
      );
  reached = c.reached_from-row.ensures;
  exact = λ d. left_of c.reached_from-row.result c.args.outside.now c.remove_all-2.new.self d
      (c.remove_all-2.ensures d);
}
