use Rattle.std.proofs.Common.{inl, refl}
use Rattle.sfm_due.proofs.Feeds.{feeds-text}
use Rattle.sfm_due.proofs.ReadLemmas.{fails_to_open}
use Rattle.sfm_due.proofs.feed.feed_text.Goals as goal

pub returns-in-Err-clause-read : goal.returns-in-Err-clause-read
returns-in-Err-clause-read g c = inl (refl, fails_to_open _ _ _ _ c.in-Err.ensures)

pub returns-in-Ok-clause-read : goal.returns-in-Ok-clause-read
returns-in-Ok-clause-read g c = feeds-text _ _ _ _ _ c.feed_open.result c.in-Ok.ensures
    c.feed_open.ensures.read
