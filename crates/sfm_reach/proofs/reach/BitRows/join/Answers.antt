use Rattle.std.proofs.Common.{◌≡◌, ◌≢◌, ◌⊎◌, ℕ, max, set, sym, ap, ◌∙◌, arith, inl, inr, ⊎_elim}
use Rattle.std.proofs.lemmas.Bool.{cases_eq}
use Rattle.std.proofs.lemmas.List.{get_or_read}
use Rattle.sfm_reach.specs.declared.bits.Bits.{Bits}
use Rattle.sfm_reach.specs.Bits.{IsUnionBut, bit_in, blank_bits, set_at}
use Rattle.sfm_reach.proofs.Words.{bit_in-lt}
use Rattle.sfm_reach.proofs.reach.BitRows.join.Goals as goal

-- a set joined with another one, less a place
union_but : (row more both less : Bits) (out : ℕ)
    → ((e : ℕ) → bit_in both e ≡ max (bit_in row e) (bit_in more e))
    → bit_in less out ≡ 0 → ((e : ℕ) → e ≢ out → bit_in less e ≡ bit_in both e)
    → IsUnionBut row more out less
union_but row more both less out made gone stays e =
    (there, (λ (ne, o). stays e ne ∙ (made e ∙ back o))) where
      there : bit_in less e ≡ 1 → (e ≢ out) × ((bit_in row e ≡ 1) ⊎ (bit_in more e ≡ 1))
      there one = (
        apart,
        ⊎_elim (λ old. inl old)
            (λ other. inr (let l = bit_in-lt row e in let m = bit_in-lt more
            e in omega (arith, l, m, is, other))) (cases_eq (bit_in row e) 1),
      ) where
        apart : e ≢ out
        apart same = let z = rw (← same) at gone in omega (arith, one, z)

        is : max (bit_in row e) (bit_in more e) ≡ 1
        is = sym (made e) ∙ (sym (stays e apart) ∙ one)

      back : (bit_in row e ≡ 1) ⊎ (bit_in more e ≡ 1) → max (bit_in row e) (bit_in more e) ≡ 1
      back o = let l = bit_in-lt row e in let m = bit_in-lt more e in ⊎_elim
          (λ a. omega (arith, a, l, m)) (λ b. omega (arith, b, l, m)) o

pub returns : goal.returns
returns c =
    let own = c.args.self.now in
    let u = c.args.u in
    let here : c.index_mut-row.result.now ≡ set_at own u = get_or_read own u
    c.index_mut-row.result.now c.requires.place
    (rw c.self.view_is at c.index_mut-row.ensures.value) blank_bits in (
      c.remove.new.self,
      ap (λ rows. set rows u c.remove.new.self) c.self.view_is,
      union_but (set_at own u) c.args.more.now c.union_with.new.self c.remove.new.self c.args.out
          (rw here at c.union_with.ensures) c.remove.ensures.out c.remove.ensures.others,
    )
