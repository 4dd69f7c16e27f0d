-- What an instance asks, as one of two sums.
use Rattle.sfm_kind.specs.Instance.{InstanceData}
use Rattle.sfm_check.specs.Truth.{Question}
use Rattle.sfm_meet.specs.Told.{side_terms}

-- the instance, and what its terms mean
abbrev pub sum_of_instance : InstanceData → Question
sum_of_instance instance = record { instance = instance; meant = side_terms instance.terms }
