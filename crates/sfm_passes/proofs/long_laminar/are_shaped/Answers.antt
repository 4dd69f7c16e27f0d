use Rattle.std.proofs.Common.{refl}
use Rattle.std.proofs.lemmas.Bool.{false≢true}
use Rattle.std.proofs.lemmas.Result.{IfOk-weaker}
use Rattle.sfm_lines.specs.Lines.{tokens_of}
use Rattle.sfm_passes.specs.GroupPasses.{pieces_left}
use Rattle.sfm_passes.proofs.LongLaminar.{laminar-mark, laminar-empty, laminar-marked, shaped-by}
use Rattle.sfm_passes.proofs.long_laminar.are_shaped.Goals as goal

pub returns-then-is_separator : goal.returns-then-is_separator
returns-then-is_separator c = λ behind is. laminar-mark c.args.instance.now c.args.number.now
    (tokens_of c.args.elements.now) behind (pieces_left c.args.groups) is
    (c.if-is_separator.ensures.0 refl)

pub returns-then-not-has_token : goal.returns-then-not-has_token
returns-then-not-has_token c = λ behind is. laminar-empty c.args.instance.now c.args.number.now
    (tokens_of c.args.elements.now) behind (pieces_left c.args.groups) is c.if-not-has_token.ensures

pub returns-then-has_separator_in : goal.returns-then-has_separator_in
returns-then-has_separator_in c = λ behind is. laminar-marked c.args.instance.now c.args.number.now
    (tokens_of c.args.elements.now) behind (pieces_left c.args.groups) is
    c.if-has_separator_in.ensures

pub returns : goal.returns
returns c =
    IfOk-weaker c.all_groups.result _ _
    (λ r h. shaped-by c.args.instance.now c.args.number.now (tokens_of c.args.elements.now)
    (pieces_left c.args.groups) (λ m. false≢true (c.if-is_separator.ensures.1 m))
    c.if-not-has_token.ensures c.if-has_separator_in.ensures r h) c.all_groups.ensures
