-- One filter's words of a state, lent and come back; and the loops over the filters: what is written, then what is still to do, is the whole.
-- Assumes nothing.
use Prim.Native.Nat.{ℕ, zero, suc, ◌+◌, ◌*◌, ◌-◌, ◌≤◌, ◌<◌}
use mathlib.Core.Path.{◌≡◌, refl, sym, ap, ap₂, ◌∙◌}
use mathlib.Core.List.{List, [], ◌∷◌, ◌++◌, append_assoc, append-nil}
use native.Mathlib.Omega.{arith}
use borrow.Rule.Slice.PartMut.{put_mid}
use lib.Bits.{bit_and, and_zero_r}
use borrow.Author.Tests.{eq-eqb, ne_eqb}
use lib.ListN.{length, get_or, take, drop, length-drop, take-append-drop}
use lib.Seq.{take_all, take-add, drop-drop}
use Rattle.std.specs.Prelude.{Option}
use Rattle.std.specs.Simd.{first_chunks}
use Rattle.std.proofs.lemmas.Slice.{take-put_mid, drop-put_mid}
use Rattle.residue.specs.declared.Test.{Test}
use Rattle.states.specs.States.{cut_standing}
use Rattle.slots.specs.Words.{filter_slot}
use Rattle.slots.specs.inner.Words.{out_words, written_filter, read_filter}
use Rattle.slots.specs.inner.Slots.{closed_in, cut_words}
use Rattle.slots.proofs.Chunks.{chunk_at}

-- ---- filter i of a state, whose words w become p

next_drop : (i : ℕ) (w : List ℕ) → drop filter_slot (drop (filter_slot * i) w) ≡ drop (filter_slot * (i + 1)) w
next_drop i w =
    let behind : filter_slot * i + filter_slot ≡ filter_slot * (i + 1) = omega arith in
    drop-drop filter_slot (filter_slot * i) w ∙ ap (λ (k : ℕ). drop k w) behind

module _ (i : ℕ) (w p : List ℕ) (fits : filter_slot * i + filter_slot ≤ length w) (one : length p ≡ filter_slot) where
  abbrev size : ℕ
  size = filter_slot * i + filter_slot - filter_slot * i

  abbrev changed : List ℕ
  changed = put_mid (filter_slot * i) size w p

  pub turn : (R W : List ℕ) → take (filter_slot * i) w ++ (p ++ R) ≡ W → take (filter_slot * (i + 1)) changed ++ R ≡ W
  turn R W e =
      ap (λ (x : List ℕ). x ++ R) (take-put_mid (filter_slot * i) size w p (filter_slot * (i + 1)) (omega arith) (omega arith)) ∙
      append_assoc (take (filter_slot * i) w) p R ∙ e

  pub later : drop (filter_slot * (i + 1)) changed ≡ drop (filter_slot * (i + 1)) w
  later = drop-put_mid (filter_slot * i) size w p (filter_slot * (i + 1)) (omega arith) (omega arith) (omega arith)

-- All is written.
pub done : (n i : ℕ) (w R W : List ℕ) → length w ≡ filter_slot * n → n ≤ i → R ≡ [] → take (filter_slot * i) w ++ R ≡ W → w ≡ W
done n i w R W l h none e =
    sym (append-nil w) ∙ ap₂ (λ (x y : List ℕ). x ++ y) (sym (take_all (filter_slot * i) w (omega arith))) (sym none) ∙ e

one_less : (n i : ℕ) → i < n → n - i ≡ suc (n - (i + 1))
one_less n i h = omega arith

-- ---- closing

module _ (n i : ℕ) (ranks : List ℕ) (held : ℕ) (w : List ℕ) (h : i < n) where
  closed_out : (bit_and (get_or ranks i 0) held ≡ 0 → ⊥) → closed_in (n - i) ranks held i (drop (filter_slot * i) w) ≡ out_words ++ closed_in (n - (i + 1)) ranks held (i + 1) (drop (filter_slot * (i + 1)) w)
  unfolding closed_in
  closed_out b = rw (one_less n i h, next_drop i w, ne_eqb (bit_and (get_or ranks i 0) held) 0 b)

  closed_stays : bit_and (get_or ranks i 0) held ≡ 0
      → closed_in (n - i) ranks held i (drop (filter_slot * i) w) ≡ take filter_slot (drop (filter_slot * i) w) ++ closed_in (n - (i + 1)) ranks held (i + 1) (drop (filter_slot * (i + 1)) w)
  unfolding closed_in
  closed_stays b = rw (one_less n i h, next_drop i w, eq-eqb (bit_and (get_or ranks i 0) held) 0 b)

pub closed_none : (n i : ℕ) (ranks : List ℕ) (held : ℕ) (w : List ℕ) → n ≤ i → closed_in (n - i) ranks held i w ≡ []
unfolding closed_in
closed_none n i ranks held w h = let z : n - i ≡ 0 = omega arith in rw z

-- Where no filter is held all stay.
pub closed_by_none : (n i : ℕ) (ranks w : List ℕ) → length w ≡ filter_slot * n → w ≡ closed_in n ranks 0 i w
unfolding closed_in
closed_by_none zero i ranks [] l = refl
closed_by_none zero i ranks (a ∷ w) l = absurd (omega arith)
closed_by_none (suc n) i ranks w l =
    let rest : length (drop filter_slot w) ≡ filter_slot * n = omega (arith, length-drop filter_slot w) in
    rw (and_zero_r (get_or ranks i 0))
    (sym (take-append-drop filter_slot w) ∙ ap (λ (x : List ℕ). take filter_slot w ++ x) (closed_by_none n (i + 1) ranks (drop filter_slot w) rest))

module _ (n i : ℕ) (ranks : List ℕ) (held : ℕ) (w W : List ℕ) (h : i < n) (long : length w ≡ filter_slot * n)
    (inv : take (filter_slot * i) w ++ closed_in (n - i) ranks held i (drop (filter_slot * i) w) ≡ W)
  where
    -- Filter i is made out, or stays.
    pub close_out : (p : List ℕ) → (bit_and (get_or ranks i 0) held ≡ 0 → ⊥) → length p ≡ filter_slot → p ≡ out_words
        → take (filter_slot * (i + 1)) (put_mid (filter_slot * i) (filter_slot * i + filter_slot - filter_slot * i) w p) ++ closed_in (n - (i + 1)) ranks held (i + 1) (drop (filter_slot * (i + 1)) (put_mid (filter_slot * i) (filter_slot * i + filter_slot - filter_slot * i) w p)) ≡ W
    close_out p b m e =
        rw (later i w p (omega arith) m)
        (turn i w p (omega arith) m (closed_in (n - (i + 1)) ranks held (i + 1) (drop (filter_slot * (i + 1)) w)) W
        (ap (λ (x : List ℕ). take (filter_slot * i) w ++ (x ++ closed_in (n - (i + 1)) ranks held (i + 1) (drop (filter_slot * (i + 1)) w))) e ∙
        ap (λ (x : List ℕ). take (filter_slot * i) w ++ x) (sym (closed_out n i ranks held w h b)) ∙ inv))

    pub close_stays : bit_and (get_or ranks i 0) held ≡ 0 → take (filter_slot * (i + 1)) w ++ closed_in (n - (i + 1)) ranks held (i + 1) (drop (filter_slot * (i + 1)) w) ≡ W
    close_stays b =
        let rest = closed_in (n - (i + 1)) ranks held (i + 1) (drop (filter_slot * (i + 1)) w) in
        let next : filter_slot * (i + 1) ≡ filter_slot * i + filter_slot = omega arith in
        ap (λ (k : ℕ). take k w ++ rest) next ∙ ap (λ (x : List ℕ). x ++ rest) (take-add (filter_slot * i) filter_slot w) ∙
        append_assoc (take (filter_slot * i) w) (take filter_slot (drop (filter_slot * i) w)) rest ∙
        ap (λ (x : List ℕ). take (filter_slot * i) w ++ x) (sym (closed_stays n i ranks held w h b)) ∙ inv

-- ---- cutting

abbrev cut_part : ℕ → Option Test → List ℕ → List ℕ
cut_part f k c = written_filter (cut_standing f k (read_filter c))

cut_more : (n i f : ℕ) (k : Option Test) (w : List ℕ) → i < n → cut_words (n - i) f k (drop (filter_slot * i) w) ≡ cut_part f k (take filter_slot (drop (filter_slot * i) w)) ++ cut_words (n - (i + 1)) f k (drop (filter_slot * (i + 1)) w)
unfolding cut_words
cut_more n i f k w h = rw (one_less n i h, next_drop i w)

pub cut_none : (n i f : ℕ) (k : Option Test) (w : List ℕ) → n ≤ i → cut_words (n - i) f k w ≡ []
unfolding cut_words
cut_none n i f k w h = let z : n - i ≡ 0 = omega arith in rw z

pub cut_turn : (n i f : ℕ) (k : Option Test) (src : List ℕ) (filters : List (List ℕ)) (w p W : List ℕ) → i < n → filters ≡ first_chunks filter_slot n src → length w ≡ filter_slot * n → length p ≡ filter_slot
    → p ≡ cut_part f k (get_or filters i [])
    → take (filter_slot * i) w ++ cut_words (n - i) f k (drop (filter_slot * i) src) ≡ W
    → take (filter_slot * (i + 1)) (put_mid (filter_slot * i) (filter_slot * i + filter_slot - filter_slot * i) w p) ++ cut_words (n - (i + 1)) f k (drop (filter_slot * (i + 1)) src) ≡ W
cut_turn n i f k src filters w p W h c l m e inv =
    let q = e ∙ ap (λ (x : List (List ℕ)). cut_part f k (get_or x i [])) c ∙ ap (cut_part f k) (chunk_at filter_slot n i src [] h) in
    turn i w p (omega arith) m (cut_words (n - (i + 1)) f k (drop (filter_slot * (i + 1)) src)) W
    (ap (λ (x : List ℕ). take (filter_slot * i) w ++ x)
    (ap (λ (x : List ℕ). x ++ cut_words (n - (i + 1)) f k (drop (filter_slot * (i + 1)) src)) q ∙ sym (cut_more n i f k src h)) ∙ inv)
