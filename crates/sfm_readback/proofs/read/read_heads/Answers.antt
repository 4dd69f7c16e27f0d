use Rattle.std.proofs.Common.{◌≡◌, ◌∷◌, ◌++◌, [], List, map, subst, sym, ap, ◌∙◌}
use Rattle.std.proofs.lemmas.List.{map_push}
use Rattle.sfm_cert.specs.Answer.{Break}
use Rattle.sfm_cert.specs.Solved.{form_of}
use Rattle.sfm_readback.specs.Lists.{break_of_head}
use Rattle.sfm_readback.specs.Parts.{ReadsHeads}
use Rattle.sfm_readback.proofs.Parts.{heads_begin, heads_more, heads_stop}
use Rattle.sfm_readback.proofs.read.read_heads.Goals as goal

pub loop-alloc-init : goal.loop-alloc-init
loop-alloc-init c = rw c.new-heads.ensures.items
    (heads_begin (form_of c.args.instance.now) c.args.text.now c.args.cursor.now c.requires)

pub returns-in_err-head-clause-stopped : goal.returns-in_err-head-clause-stopped
returns-in_err-head-clause-stopped c =
    heads_stop (form_of c.args.instance.now) c.args.text.now c.from_residual.result
    c.args.cursor.now c.loop-alloc.cursor (map break_of_head c.loop-alloc.heads.items)
    c.in_err-head.field-0.0
    c.from_residual.ensures.1 c.loop-alloc.invariant (c.begins.ensures.0 c.loop-alloc-test.true)
    c.in_err-head.ensures.stuck

pub loop-alloc-preserved : goal.loop-alloc-preserved
loop-alloc-preserved c =
    let hs = map break_of_head c.loop-alloc.heads.items in
    let b = break_of_head c.in_ok-head.head in
    let pushed : map break_of_head c.push.new.self.items ≡ hs ++ b ∷ [] = ap (map break_of_head)
    c.in_ok-push.ensures.items ∙ map_push break_of_head c.loop-alloc.heads.items
    c.in_ok-head.head in
    subst (λ (x : List Break). ReadsHeads (form_of c.args.instance.now) c.args.text.now
    c.args.cursor.now c.read_head.new.cursor x) (sym pushed)
    (heads_more (form_of c.args.instance.now) c.args.text.now c.args.cursor.now c.loop-alloc.cursor
    c.read_head.new.cursor hs b c.loop-alloc.invariant c.in_ok-head.ensures.read)
