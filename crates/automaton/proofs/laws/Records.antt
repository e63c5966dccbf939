-- Where the record of a state stands among the records of all.
--   records_long   so many words as the records of the states have
--   record_at_lem      in a table that begins with them record i is that of state i
use Prim.Native.Nat.{ℕ, zero, suc, ◌+◌, ◌*◌, ◌<◌}
use Rattle.std.proofs.Common.{arith, not-suc-le-zero, le_of_suc-le-suc, mul-zero, ap, ◌∙◌, take_at}
use Rattle.std.proofs.Math.Nat.{mul-suc}
use Rattle.std.specs.Prelude.{◌≡◌, get_or, take, drop}
use Rattle.std.proofs.Math.Path.{sym}
use mathlib.Core.List.{List, [], ◌∷◌, ◌++◌, map, append_assoc}
use Rattle.std.proofs.Math.ListN.{length, length-append}
use Rattle.std.proofs.Math.Seq.{drop-append-add}
use Rattle.tables.specs.Tables.{record_words}
use Rattle.tables.specs.inner.Records.{record_at}
use Rattle.tables.proofs.laws.Layout.{record_long}
use Rattle.automaton.specs.Machines.{Machine, nexts_of, record_of, flat, records_of}
use Rattle.automaton.proofs.laws.Lists.{each_head, each_tail, Each}
use Rattle.automaton.specs.inner.Lawful.{Lawful}

-- Parts of one length, one behind the other.
module _ {A : Type 0} (part : A → List ℕ) (k : ℕ) where
  flat_length : (l : List A) → Each (λ x. length (part x) ≡ k) l → length (flat (map part l)) ≡ k * length l
  unfolding flat
  flat_length [] long = sym (mul-zero k)
  flat_length (x ∷ l) long =
      length-append (part x) (flat (map part l)) ∙ omega (arith, each_head long, flat_length l (each_tail long), mul-suc k (length l))

  flat_part : (l : List A) (rest : List ℕ) (i : ℕ) (d : A) → Each (λ x. length (part x) ≡ k) l → i < length l
      → take k (drop (k * i) (flat (map part l) ++ rest)) ≡ part (get_or l i d)
  unfolding flat
  flat_part [] rest i d long h = absurd (not-suc-le-zero h)
  flat_part (x ∷ l) rest zero d long h =
      rw (mul-zero k, append_assoc (part x) (flat (map part l)) rest) (take_at (part x) (flat (map part l) ++ rest) k (each_head long))
  flat_part (x ∷ l) rest (suc i) d long h =
      let e : k * suc i ≡ length (part x) + k * i = omega (arith, each_head long, mul-suc k i) in
      rw (e, append_assoc (part x) (flat (map part l)) rest)
      (ap (take k) (drop-append-add (part x) (flat (map part l) ++ rest) (k * i)) ∙ flat_part l rest i d (each_tail long) (le_of_suc-le-suc h))

module _ {M : Machine} {Good : M.State → Type 0} {left : M.State → ℕ} (law : Lawful M Good left) (met : List M.State) (good : Each Good met) where
  each_long : Each (λ s. length (record_of M met s) ≡ record_words) met
  unfolding record_of
  each_long s m = record_long (M.question s) (nexts_of M met s) (M.sure s) (M.out s) (law.question_long s (good s m))

  pub records_long : length (records_of M met) ≡ record_words * length met
  unfolding records_of
  records_long = flat_length (record_of M met) record_words met each_long

  pub record_at_lem : (rest : List ℕ) (i : ℕ) (d : M.State) → i < length met → record_at (records_of M met ++ rest) i ≡ record_of M met (get_or met i d)
  unfolding records_of record_at
  record_at_lem rest i d h = flat_part (record_of M met) record_words met rest i d each_long h
