use Rattle.std.proofs.Common.{◌∙◌, length, rules}
use Rattle.std.proofs.lemmas.Int.{to_z-of_z}
use mir.Syntax.{w128}
use Rattle.sfm_spec.specs.Terms.{IsGreedy}
use Rattle.sfm_spec.specs.Kinds.{table_value}
use Rattle.sfm_law.proofs.Entries.{written}
use Rattle.sfm_simple.specs.TableLaws.{gain_of, table-greedy}
use Rattle.sfm_simple.proofs.table.TablePlain.start_of.Goals as goal

pub returns : goal.returns
returns c =
    let s = c.args.self.now in
    let put = c.write_each.ensures in
    written (gain_of c.args.q s.values) (length s.places)
    (IsGreedy c.args.q (table_value s.values) (length s.places)) c.write_each.new.x
    (put.places ∙ c.requires.entries)
    (λ j lt. let h = put.shares j (rw c.requires.entries lt) in let e = to_z-of_z w128 c.args.q
    c.ranges.q in search rules) (table-greedy (length s.places) c.args.q s.values)
