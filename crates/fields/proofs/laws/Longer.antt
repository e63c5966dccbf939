-- From a longer frame to the tests of single bytes: what a byte of it passes could be passed by the frame that it begins with.
use Prim.Native.Nat.{ℕ, zero, suc, ◌+◌, ◌/◌, ◌%◌, ◌≤◌}
use Rattle.std.proofs.Common.{arith, ap}
use Rattle.std.specs.Prelude.{◌≡◌, refl, Bool, true, ◌&&◌, ◌||◌, List, [], ◌∷◌, length}
use Rattle.std.proofs.Math.Bool.{false}
use Rattle.std.proofs.lemmas.Bool.{false≢true}
use borrow.Author.Tests.{leb-true, leb-false, le-leb, eqb-true, eq-eqb}
use Rattle.std.proofs.Math.Dec.{leb, eqb}
use Rattle.std.proofs.Math.ListN.{get_or}
use Rattle.residue.specs.laws.Choice.{by_test, both, first, second}
use Rattle.fields.specs.Bytes.{byte, two}
use Rattle.fields.specs.Ethernet.{ip_start, ether_type, ethernet}
use Rattle.fields.specs.Ipv4.{internet, version, header_length, protocol, transport}
use Rattle.fields.specs.Transport.{tcp, udp, icmp}
use Rattle.fields.specs.Cut.{length_at, Grows}
use Rattle.fields.specs.Seen.{could, may_be_type, may_be_internet, may_begin, may_carry, chances, possible}
use Rattle.fields.proofs.laws.Ipv4.{internet_lengths}
use Rattle.fields.proofs.laws.Fragments.{later_part}
use Rattle.fields.proofs.laws.Present.{shape}

-- What is shown of each number where a list has true there, number by number.
infixr 5 ◌also◌
pub data AtEach : (ℕ → Type 0) → List Bool → Type 1 where
  no_more : {Q : ℕ → Type 0} → AtEach Q []
  ◌also◌ : {Q : ℕ → Type 0} {b : Bool} {bs : List Bool} → (b ≡ true → Q 0) → AtEach (λ (n : ℕ). Q (suc n)) bs → AtEach Q (b ∷ bs)

pub by_number : (Q : ℕ → Type 0) (bs : List Bool) → AtEach Q bs → (n : ℕ) → get_or bs n false ≡ true → Q n
by_number Q [] no_more n h = absurd (false≢true h)
by_number Q (b ∷ bs) (this also others) zero h = this h
by_number Q (b ∷ bs) (this also others) (suc n) h = by_number (λ (m : ℕ). Q (suc m)) bs others n h

-- A transport part that is not empty is that of a fragment with offset 0.
begins : (g : List ℕ) → 1 ≤ length (transport g) → two g 20 % 8192 ≡ 0
begins g some =
    by_test (two g 20 % 8192 ≡ 0) (eqb (two g 20 % 8192) 0)
    (λ e. eqb-true (two g 20 % 8192) 0 e)
    (λ e. absurd (omega (arith, ap (λ (t : List ℕ). length t) (later_part g e))))

module _ {f g : List ℕ} (grows : Grows f g) where
  could_so : (i : ℕ) (p : ℕ → Bool) → (i ≡ length_at → ⊥) → (i ≡ length_at + 1 → ⊥) → p (byte g i) ≡ true → could f i p ≡ true
  unfolding could
  could_so i p n m h =
      by_test (leb (length f) i || p (byte f i) ≡ true) (leb (length f) i)
      (λ (e : leb (length f) i ≡ true). rw e)
      (λ (e : leb (length f) i ≡ false).
      rw (e, ← grows.begins i (leb-false (length f) i e) n m) h)

  type_so : ethernet g ≡ true → may_be_type f ≡ true
  unfolding ethernet may_be_type two
  type_so has =
      let least = leb-true 1536 (ether_type g) (second (leb ip_start (length g)) (leb 1536 (ether_type g)) has) in
      could_so 12 (λ x. leb 6 x) (λ e. omega arith) (λ e. omega arith)
      (le-leb 6 (byte g 12) (omega (arith, grows.bytes 13)))

  internet_so : internet g ≡ true → may_be_internet f ≡ true
  unfolding may_be_internet two version header_length
  internet_so has =
      let known = internet_lengths g has in
      let low = grows.bytes 13 in
      both _ _
      (both _ _
      (could_so 12 (λ x. eqb x 8) (λ e. omega arith) (λ e. omega arith) (eq-eqb (byte g 12) 8 (omega arith)))
      (could_so 13 (λ x. eqb x 0) (λ e. omega arith) (λ e. omega arith) (eq-eqb (byte g 13) 0 (omega arith))))
      (could_so 14 _ (λ e. omega arith) (λ e. omega arith)
      (both _ _ (eq-eqb (byte g 14 / 16) 4 known.four) (le-leb 5 (byte g 14 % 16) (omega arith))))

  begin_so : 1 ≤ length (transport g) → may_begin f ≡ true
  unfolding may_begin two
  begin_so some =
      let zero = begins g some in
      let low = grows.bytes 21 in
      both _ _
      (could_so 20 (λ x. eqb (x % 32) 0) (λ e. omega arith) (λ e. omega arith) (eq-eqb (byte g 20 % 32) 0 (omega arith)))
      (could_so 21 (λ x. eqb x 0) (λ e. omega arith) (λ e. omega arith) (eq-eqb (byte g 21) 0 (omega arith)))

  carry_so : (p : ℕ → Bool) (k : ℕ) → 1 ≤ k → (internet g && (p (protocol g) && leb k (length (transport g)))) ≡ true → may_carry f p ≡ true
  unfolding may_carry protocol
  carry_so p k more has =
      let rest = second (internet g) _ has in
      let long = leb-true k (length (transport g)) (second (p (protocol g)) _ rest) in
      both _ _
      (both _ _ (internet_so (first (internet g) _ has)) (begin_so (omega arith)))
      (could_so 23 p (λ e. omega arith) (λ e. omega arith) (first (p (protocol g)) _ rest))

  pub longer_so : (n : ℕ) → get_or (shape g) n false ≡ true → possible f n ≡ true
  unfolding possible chances shape
  longer_so =
      let ports = carry_so (λ q. eqb q tcp || eqb q udp) 4 (omega arith) in
      let flags = carry_so (λ q. eqb q tcp) 14 (omega arith) in
      let type = carry_so (λ q. eqb q icmp) 1 (omega arith) in
      let code = carry_so (λ q. eqb q icmp) 2 (omega arith) in
      by_number (λ (n : ℕ). get_or (chances f) n false ≡ true) (shape g)
      (type_so also
      internet_so also internet_so also internet_so also internet_so also internet_so also internet_so also internet_so also
      ports also ports also flags also type also code also
      (λ h. refl) also no_more)
