use Rattle.std.proofs.Common.{◌≡◌, ◌-◌, ◌<◌, ℕ, length, sym, ◌∙◌, arith}
use Rattle.std.proofs.lemmas.List.{get_or_default}
use Rattle.sfm_exchange.specs.Hops.{hop_at, no_hop}
use Rattle.sfm_exchange.proofs.Telling.{last_is}
use Rattle.sfm_exchange.proofs.path.Path.last.Goals as goal

pub returns : goal.returns
returns c =
    let hops = c.args.self.now.hops.items in
    let count : c.len-count.result ≡ length
    hops = omega (arith, c.len-count.ensures, c.args.self.now.hops.ok.0) in
    let some : 0 < length hops = omega (arith, count, c.if-count-eq0.false) in
    let k : ℕ = c.len-count.result - 1 in
    let hop_is : c.index.result.now ≡ hop_at hops k = c.index.ensures
    ∙ get_or_default hops k c.index.result.now no_hop (omega (arith, count, some)) in
    rw (hop_is, count) (sym (last_is c.args.self.now.first hops some))
