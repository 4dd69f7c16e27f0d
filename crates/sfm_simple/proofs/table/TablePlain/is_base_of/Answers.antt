use Rattle.std.proofs.Common.{◌∙◌, ◌^◌, ap, refl, sym, FitsSigned}
use Rattle.std.proofs.lemmas.Bool.{both_ways}
use Rattle.std.proofs.lemmas.Int.{to_z-of_z}
use mir.Syntax.{w128}
use Rattle.sfm_simple.proofs.TableRooms.{table_tested}
use Rattle.sfm_simple.proofs.table.TablePlain.is_base_of.Goals as goal

pub returns-then-is_within : goal.returns-then-is_within
returns-then-is_within c =
    let s = c.args.self.now in
    let fq : FitsSigned w128 c.args.q = c.ranges.q in
    let tests = table_tested c.args.q s.values c.args.x.now
    (s.counted ∙ ap (λ n. 2 ^ n) (sym c.requires.entries)) in
    let within = simp to_z-of_z at (c.if-is_within.ensures.0 refl) in
    let tight = simp to_z-of_z at (rw c.count.ensures at c.is_tight.ensures) in
    ((λ t. tests.1 (within, tight.0 t)), (λ b. tight.1 (tests.0 b).1))

pub returns-else-is_within : goal.returns-else-is_within
returns-else-is_within c =
    let s = c.args.self.now in
    let fq : FitsSigned w128 c.args.q = c.ranges.q in
    let tests = table_tested c.args.q s.values c.args.x.now
    (s.counted ∙ ap (λ n. 2 ^ n) (sym c.requires.entries)) in
    let within = simp to_z-of_z at c.is_within.ensures in (
      (λ t. absurd (both_ways c.is_within.result c.if-is_within.false t)),
      (λ b. within.1 (tests.0 b).0),
    )
