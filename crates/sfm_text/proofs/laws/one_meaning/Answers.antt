use Rattle.sfm_text.specs.GoodText.{instance_language}
use Rattle.sfm_text.proofs.Alike.{Alike, instances-kept}
use Rattle.sfm_text.proofs.Readings.{readings-alike}
use Rattle.sfm_text.proofs.laws.one_meaning.Goals as goal

pub returns : goal.returns
returns c = λ a b h g.
    let same = readings-alike instance_language Alike instances-kept c.args._text.now _ _ h g in
    (same.version, same.names, same.terms, same.lines)
