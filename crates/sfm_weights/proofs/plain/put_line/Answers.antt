use Rattle.std.proofs.Common.{refl}
use Rattle.sfm_lines.specs.Lines.{tokens_of}
use Rattle.sfm_weights.proofs.Tokens.{put-as}
use Rattle.sfm_weights.proofs.plain.put_line.Goals as goal

pub returns : goal.returns
returns c = put-as c.extend_from_slice.result c.args.line.now.items c.push.new.self.items
    c.extend_from_slice.new.self.items c.args.more.now (tokens_of c.args.more.now)
    c.in_ok-push.ensures.items c.extend_from_slice.ensures.items refl
