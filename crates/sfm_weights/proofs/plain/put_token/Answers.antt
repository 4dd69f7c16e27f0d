use Rattle.std.proofs.Common.{[], ◌∷◌}
use Rattle.sfm_weights.proofs.Tokens.{put-as, token-one}
use Rattle.sfm_weights.proofs.plain.put_token.Goals as goal

pub returns : goal.returns
returns c = put-as c.extend_from_slice.result c.args.line.now.items c.push.new.self.items
    c.extend_from_slice.new.self.items c.args.token.now (c.args.token.now ∷ [])
    c.in_ok-push.ensures.items c.extend_from_slice.ensures.items
    (token-one c.args.token.now c.requires)
