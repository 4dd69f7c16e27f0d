use Rattle.std.proofs.Common.{codes, length, refl, ap, arith}
use Rattle.sfm_lines.specs.Lines.{tokens_of}
use Rattle.sfm_passes.proofs.EntryTerms.{few-tokens, other-kind, told-other}
use Rattle.sfm_passes.proofs.long_line.early_rank_term.Goals as goal

pub returns-in_default : goal.returns-in_default
returns-in_default c = few-tokens (tokens_of c.args.line.now) (omega (arith, c.in_default.ensures))

pub returns-in-NoRank : goal.returns-in-NoRank
returns-in-NoRank c = let (u, l, g, t) = c.in-NoRank.ensures in other-kind _ _ _ _ c.in-Some.ensures
    t

pub returns-in-UniformRank : goal.returns-in-UniformRank
returns-in-UniformRank c = rw (c.in-Some.ensures, c.in-UniformRank.ensures)
    (other-kind c.in-Some.number.now (codes "uniform") (tokens_of c.in-Some.rest.now) _ refl
    (λ e. omega (arith, ap length e)))

pub returns-in-LaminarRank : goal.returns-in-LaminarRank
returns-in-LaminarRank c = rw (c.in-Some.ensures, c.in-LaminarRank.ensures)
    (told-other c.args.instance.now _ _
    (other-kind c.in-Some.number.now (codes "laminar") (tokens_of c.in-Some.rest.now) _ refl
    (λ e. omega (arith, ap length e))) c.long_laminar_term.result c.long_laminar_term.ensures)

pub returns-in-GraphicRank : goal.returns-in-GraphicRank
returns-in-GraphicRank c = rw (c.in-Some.ensures, c.in-GraphicRank.ensures)
    (other-kind c.in-Some.number.now (codes "graphic") (tokens_of c.in-Some.rest.now) _ refl
    (λ e. omega (arith, ap length e)))
