use Rattle.std.proofs.Common.{length}
use Rattle.sfm_check.proofs.Forming.{small_sizes}
use Rattle.sfm_run_tests.proofs.engine.are_left_in.Goals as goal

pub are_bases-requires-clause-bounded : goal.are_bases-requires-clause-bounded
are_bases-requires-clause-bounded c =
    rw c.terms.ensures.terms (λ k d l. small_sizes (length c.args.instance.now.names)
    c.args.instance.now.terms c.terms.ensures.bounded k d l)
