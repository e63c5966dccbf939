-- Document 01, "Numbers to try": every case marked (P), in the document's order, as one list and one statement. The two lists in one group, not marked, come last.
--   same_residue a b    a and b are the same residue
--   gives f k t d      the case that the fact k leaves d of the test t, on a field whose greatest number is f
--   same_answer a b     a and b are the same answer, by what they found
--   echo_frame          an echo request with TTL 1, of 42 bytes: Ethernet, an IP header of 20 bytes, ICMP
--   answers a w        the case that this frame, walked through the records of the echo list with the allowance a, is answered by w
--   marked_cases more   the twelve cases, each whether a definition gives what the document says; the last has the allowance 2 + more
--   all_right cs        every case of a list is right
use Rattle.std.specs.Prelude.{ℕ, zero, suc, ◌+◌, ◌≡◌, refl, Bool, true, false, ◌&&◌, List, [], ◌∷◌, eqb, Option, Some, Result, Ok, Err}
use Rattle.std.proofs.Common.{arith}
use Rattle.refusals.specs.Numbers.{number_of}
use Rattle.refusals.specs.declared.Refusal.{Refusal}
use Rattle.residue.specs.Tests as T
use Rattle.residue.specs.Residues as D
use Rattle.residue.specs.inner.Relations as E
use Rattle.residue.specs.declared.Test.{Test}
use Rattle.residue.specs.declared.Test.TheVariants.{Equal, Differs, AtLeast}
use Rattle.residue.specs.declared.Residue.{Residue}
use Rattle.residue.specs.declared.Residue.TheVariants.{True, False, Left}
use Rattle.fields.specs.Bytes as Y
use Rattle.fields.specs.Puts as P
use Rattle.fields.specs.Ethernet as N
use Rattle.fields.specs.Ipv4 as I
use Rattle.fields.specs.Transport as X
use Rattle.fields.specs.Fields as F
use Rattle.fields.specs.Seen as C
use Rattle.sets.specs.Sets as S
use Rattle.lists.specs.Filters as L
use Rattle.lists.specs.Ranks as R
use Rattle.tables.specs.Tables as B
use Rattle.machine.specs.Box.{records_in}
use Rattle.machine.specs.Cases.{echo_in, echo, echo_table, echo_records}
use Rattle.matcher.specs.declared.Found.{Found}
use Rattle.matcher.specs.declared.Walk.{Walk}
use Rattle.matcher.specs.declared.Walk.TheVariants.{Done, Stopped}
use Rattle.matcher.specs.Walk as W

unfoldable pub same_residue : Residue → Residue → Bool
same_residue True True = true
same_residue True False = false
same_residue True (Left u) = false
same_residue False True = false
same_residue False False = true
same_residue False (Left u) = false
same_residue (Left t) True = false
same_residue (Left t) False = false
same_residue (Left t) (Left u) = E.same_test t u

unfoldable pub gives : ℕ → Option Test → Test → Residue → Bool
gives full k t d = same_residue (D.residue_by full k t) d

unfoldable pub same_found : Found → Found → Bool
same_found x y = eqb x.sure y.sure && eqb x.out y.out && eqb x.asked y.asked && eqb (S.bit x.cut) (S.bit y.cut)

unfoldable pub same_walk : Walk → Walk → Bool
same_walk (Done x) (Done y) = same_found x y
same_walk (Done x) (Stopped y) = false
same_walk (Stopped x) (Done y) = false
same_walk (Stopped x) (Stopped y) = same_found x y

unfoldable pub same_answer : Result Walk Refusal → Result Walk Refusal → Bool
same_answer (Ok x) (Ok y) = same_walk x y
same_answer (Ok x) (Err r) = false
same_answer (Err r) (Ok y) = false
same_answer (Err r) (Err q) = eqb (number_of r) (number_of q)

unfoldable pub echo_frame : List ℕ
echo_frame =
    2 ∷ 0 ∷ 0 ∷ 0 ∷ 0 ∷ 2 ∷ 2 ∷ 0 ∷ 0 ∷ 0 ∷ 0 ∷ 1 ∷ 8 ∷ 0 ∷
    0x45 ∷ 0 ∷ 0 ∷ 28 ∷ 0 ∷ 0 ∷ 0 ∷ 0 ∷ 1 ∷ 1 ∷ 0 ∷ 0 ∷ 10 ∷ 0 ∷ 0 ∷ 1 ∷ 10 ∷ 0 ∷ 0 ∷ 2 ∷
    8 ∷ 0 ∷ 0 ∷ 0 ∷ 0 ∷ 1 ∷ 0 ∷ 1 ∷ []

unfoldable pub answers : ℕ → Result Walk Refusal → Bool
answers a w = same_answer (W.walk echo_frame 0 (records_in (L.filters_of echo)) 10 a) w

unfoldable pub marked_cases : ℕ → List Bool
marked_cases more =
    gives 255 (Some (Differs 3 1)) (Equal 255 5) False
    ∷ gives 255 (Some (Differs 3 0)) (Equal 255 5) (Left (Equal 255 5))
    ∷ gives 255 (Some (Equal 0xF0 0x70)) (Equal 255 0x75) (Left (Equal 0x0F 5))
    ∷ gives 255 (Some (Equal 0xF0 0x70)) (Differs 255 5) True
    ∷ gives 255 (Some (Equal 0xF0 0x70)) (AtLeast 112) True
    ∷ gives 255 (Some (Equal 0xF0 0x70)) (AtLeast 113) (Left (AtLeast 113))
    ∷ gives 255 (Some (Equal 0xF0 0x70)) (AtLeast 128) False
    ∷ gives 255 (Some (AtLeast 31)) (Equal 0xF0 0x10) (Left (Equal 0xF0 0x10))
    ∷ gives 255 (Some (AtLeast 32)) (Equal 0xF0 0x10) False
    ∷ answers 0 (Ok (Stopped (record { sure = 0; out = 0; asked = 0; cut = false })))
    ∷ answers 1 (Ok (Stopped (record { sure = 1; out = 2; asked = 1; cut = false })))
    ∷ answers (2 + more) (Ok (Done (record { sure = 5; out = 2; asked = 2; cut = false })))
    ∷ []

unfoldable pub all_right : List Bool → Bool
all_right [] = true
all_right (c ∷ cs) = c && all_right cs

pub marked_cases_lem : (more : ℕ) → all_right (marked_cases more) ≡ true
unfolding
    all_right marked_cases gives same_residue E.same_test E.equal_of E.differs_of E.at_most_of E.at_least_of
    D.residue_by D.from_equal D.from_masked D.reduced_equal D.reduced_differs D.from_differs D.from_at_most D.from_at_least D.covers D.outside D.settled
    answers same_answer same_walk same_found echo_frame echo_table W.walk W.walk_from W.found_at W.arrive W.onward W.damaged W.next_of W.next_by W.cut_of B.slots_of B.word_of B.sure_set_at B.out_set_at B.set_at L.test_of T.holds
    C.seen C.seen_of C.is_cut C.reading_of C.possible C.chances C.may_be_type C.may_be_internet C.may_begin C.may_carry C.could
    F.field F.readings F.puts P.put_all Y.two Y.four N.ethernet I.internet I.internet_puts I.version I.header_length I.total_length I.protocol I.transport I.transport_start
    I.transport_end X.transport_puts
marked_cases_lem zero = rw echo_records
marked_cases_lem (suc more) =
    let three : 2 + suc more ≡ suc (suc (suc more)) = omega arith in
    rw (three, echo_records)

-- In one group with the levels 3, 2, 1 the frame matches filter 0 alone, with 1, 2, 3 filter 2 alone.
pub one_group : (R.match_set (L.filters_of (echo_in 1 3 1 2 1 1)) (F.field echo_frame 0) ≡ 1) × (R.match_set (L.filters_of (echo_in 1 1 1 2 1 3)) (F.field echo_frame 0) ≡ 4)
unfolding
    R.match_set echo_frame echo_in L.filters_of L.filters_from L.filter_of L.items_of L.item_of L.test_of
    R.above R.outranks R.matches R.fires R.all_hold T.holds_of T.holds S.set_of S.tally S.some
    F.field F.readings F.puts P.put_all Y.two Y.four N.ethernet I.internet I.internet_puts I.version I.header_length I.total_length I.protocol I.transport I.transport_start
    I.transport_end X.transport_puts
one_group = (refl, refl)
