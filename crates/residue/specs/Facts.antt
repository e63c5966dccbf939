-- Document 01, "Residues", the facts and the paragraph on what a question gives.
--   outcome_of t r     what the question t comes to at the reading r
--   fails_fact f t     the fact that t gives where it fails on a present field
--   fact_of f o t      the fact that the question t gives at the outcome o
use Rattle.std.specs.Prelude.{ℕ, ◌+◌, ◌-◌, cond, leb, eqb, Option, None, Some}
use Rattle.residue.specs.Tests.{holds}
use Rattle.residue.specs.declared.Test.{Test}
use Rattle.residue.specs.declared.Test.TheVariants.{Equal, Differs, AtMost, AtLeast}
use Rattle.residue.specs.declared.Outcome.{Outcome}
use Rattle.residue.specs.declared.Outcome.TheVariants as O

unfoldable pub outcome_of : Test → Option ℕ → Outcome
outcome_of t None = O.Absent
outcome_of t (Some x) = cond (holds t x) O.Holds O.Fails

-- Equal and differs exchange; at most c gives at least c + 1, at least c gives at most c - 1.
-- At most full and at least 0 cannot fail: the fails way is formed as the absent way.
unfoldable pub fails_fact : ℕ → Test → Option Test
fails_fact full (Equal m v) = Some (Differs m v)
fails_fact full (Differs m v) = Some (Equal m v)
fails_fact full (AtMost c) = cond (leb full c) None (Some (AtLeast (c + 1)))
fails_fact full (AtLeast c) = cond (eqb c 0) None (Some (AtMost (c - 1)))

-- A question that holds gives its own fact.
unfoldable pub fact_of : ℕ → Outcome → Test → Option Test
fact_of full O.Holds t = Some t
fact_of full O.Fails t = fails_fact full t
fact_of full O.Absent t = None
