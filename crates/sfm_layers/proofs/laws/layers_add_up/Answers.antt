use Rattle.std.proofs.Common.{List, get_or, Contains, ℤ, pos, ◌≤ℤ◌, arith}
use Rattle.std.specs.List.{All}
use Rattle.std.proofs.lemmas.Int.{ints}
use Rattle.std.proofs.lemmas.List.{get_or_default}
use Rattle.sfm_layers.proofs.Levels.{falling-of}
use Rattle.sfm_layers.proofs.Layers.{layers-weigh}
use Rattle.sfm_layers.proofs.laws.layers_add_up.Goals as goal

low : (weights levels : List ℤ) → All (λ a. pos 1 ≤ℤ a) weights
    → ((v : ℤ) → Contains levels v → Contains weights v) → All (λ v. pos 0 ≤ℤ v) levels
low weights levels positive back k d l =
    let (i, li, is) = back (get_or levels k d)
    (k, l, get_or_default levels k (get_or levels k d) d l) in
    let p : pos 1 ≤ℤ get_or levels k d = rw is at (positive i (get_or levels k d) li) in
    omega (arith, ints, p)

pub returns : goal.returns
returns g c = λ levels s are ks.
    let weights = c.args._weights.now in
    let M = g.M.Independence in
    layers-weigh M.ground M.IsIndependent M.rank c.requires.matroid c.requires.ranks weights
    c.requires.each s ks levels
    (falling-of levels are.falling (low weights levels c.requires.positive (λ v. (are.all v).1)))
    (λ a. (are.all a).0)
