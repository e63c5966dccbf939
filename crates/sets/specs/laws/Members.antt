-- Laws of bit sets. None names a width; minus_sets takes the width of the word as an argument.
--   each f xs ys   the list of f x y, place by place
--   none bs        no truth in the list
-- A set and its list: member_empty, member_set_of, set_of_bound, set_snoc.
-- Operations: member_or, member_one, and_sets, minus_sets; empty sets: zero_sets.
-- Tallies: length_tally, get_or_tally, get_or_tally_beyond, member_tally, tally_ext, each_tally, and_tally_zero.
-- Some: some_true, some_where, some_none, some_ext.
-- Assumes nothing.
use Rattle.std.specs.Prelude.{ℕ, zero, suc, ◌+◌, ◌-◌, ◌*◌, ◌/◌, ◌%◌, ◌^◌, ◌≤◌, ◌<◌, min, max, ◌≡◌, refl, Bool, true, false, not, ◌&&◌, ◌||◌, List, [], ◌∷◌, ◌++◌, eqb, ltb, length, get_or}
use Rattle.std.proofs.Common.{sym, ap, ap₂, ◌∙◌, ⊎_elim, div-one, pow-suc, le_of_suc-le-suc, not-suc-le-zero, eq-or-lt_of_le, add-one, one-add, arith, lit<, length-append, eq-eqb, ne_eqb, ltb-true, ltb-false}
use Rattle.std.proofs.lemmas.Bool.{false≢true}
use Rattle.std.proofs.Math.Bool.{or-true}
use Rattle.std.proofs.Math.Nat.{zero-div}
use Rattle.std.proofs.Math.Arith.{digits_div, digits_mod}
use Rattle.std.specs.Int.Bits.{bit_and, bit_or, and_step, or_step, and_zero_r}
use Rattle.std.proofs.lemmas.Nat.{or_shr}
use Rattle.std.proofs.Math.Dec.{eqb-zero-suc, eqb-suc-zero, eqb-suc-suc}
use Rattle.std.proofs.Math.ListN.{get_or-append, get_or-eq_default}
use lib.Pow.{shr-shr}
use Rattle.std.proofs.lemmas.List.{get_or_at}
use Rattle.sets.specs.Sets.{bit, set_of, member, tally, some}

-- ---- a set and its list

pub bit_lt : (b : Bool) → bit b < 2
bit_lt true = lit< tt
bit_lt false = lit< tt

pub eqb_bit : (b : Bool) → eqb (bit b) 1 ≡ b
eqb_bit true = refl
eqb_bit false = refl

pub set_of_half : (b : Bool) (bs : List Bool) → set_of (b ∷ bs) / 2 ≡ set_of bs
unfolding set_of
set_of_half b bs = digits_div (set_of bs) (bit_lt b)

pub set_of_odd : (b : Bool) (bs : List Bool) → set_of (b ∷ bs) % 2 ≡ bit b
unfolding set_of
set_of_odd b bs = digits_mod (set_of bs) (bit_lt b)

member_zero : (s : ℕ) → member 0 s ≡ eqb (s % 2) 1
unfolding member
member_zero s = ap (λ (x : ℕ). eqb (x % 2) 1) (div-one s)

member_suc : (i s : ℕ) → member (suc i) s ≡ member i (s / 2)
unfolding member
member_suc i s = ap (λ (x : ℕ). eqb (x % 2) 1) (sym (shr-shr s 1 i ∙ ap (λ (k : ℕ). s / 2 ^ k) (one-add i)))

pub member_empty : (i : ℕ) → member i 0 ≡ false
unfolding member
member_empty i = ap (λ (x : ℕ). eqb (x % 2) 1) (zero-div (2 ^ i))

pub member_set_of : (bs : List Bool) (i : ℕ) → member i (set_of bs) ≡ get_or bs i false
unfolding set_of
member_set_of [] i = member_empty i
member_set_of (b ∷ bs) zero = member_zero (set_of (b ∷ bs)) ∙ ap (λ (x : ℕ). eqb x 1) (set_of_odd b bs) ∙ eqb_bit b
member_set_of (b ∷ bs) (suc i) = member_suc i (set_of (b ∷ bs)) ∙ ap (member i) (set_of_half b bs) ∙ member_set_of bs i

pub set_of_bound : (bs : List Bool) → set_of bs < 2 ^ length bs
unfolding set_of
set_of_bound [] = lit< tt
set_of_bound (b ∷ bs) = omega (arith, set_of_bound bs, bit_lt b, pow-suc 2 (length bs))

-- One more at the end: what `s | b << n` makes.
pub set_snoc : (bs : List Bool) (b : Bool) → set_of (bs ++ (b ∷ [])) ≡ bit b * 2 ^ length bs + set_of bs
unfolding set_of
set_snoc [] b = omega arith
set_snoc (x ∷ bs) true = omega (arith, set_snoc bs true, pow-suc 2 (length bs))
set_snoc (x ∷ bs) false = omega (arith, set_snoc bs false)

-- ---- operations

unfoldable pub each : (Bool → Bool → Bool) → List Bool → List Bool → List Bool
each f [] ys = []
each f (x ∷ xs) [] = []
each f (x ∷ xs) (y ∷ ys) = f x y ∷ each f xs ys

min_bits : (a b : Bool) → min (bit a) (bit b) ≡ bit (a && b)
min_bits true true = refl
min_bits true false = refl
min_bits false true = refl
min_bits false false = refl

max_bits : (a b : Bool) → max (bit a) (bit b) ≡ bit (a || b)
max_bits true true = refl
max_bits true false = refl
max_bits false true = refl
max_bits false false = refl

-- A join, and one more anywhere: what `s | 1 << m` makes.
small_bit : (x : ℕ) → x < 2 → x ≡ bit (eqb x 1)
small_bit zero l = refl
small_bit (suc zero) l = refl
small_bit (suc (suc x)) l = absurd (omega arith)

or_odd : (a b : ℕ) → bit_or a b % 2 ≡ bit (eqb (a % 2) 1 || eqb (b % 2) 1)
or_odd a b =
    let x = eqb (a % 2) 1 in
    let y = eqb (b % 2) 1 in
    let most : max (a % 2) (b % 2) ≡ bit (x || y) =
    ap₂ max (small_bit (a % 2) (omega arith)) (small_bit (b % 2) (omega arith)) ∙ max_bits x y in
    rw (or_step a b, most) (digits_mod (bit_or (a / 2) (b / 2)) (bit_lt (x || y)))

pub member_or : (i a b : ℕ) → member i (bit_or a b) ≡ (member i a || member i b)
member_or zero a b = rw (member_zero (bit_or a b), member_zero a, member_zero b, or_odd a b) (eqb_bit _)
member_or (suc i) a b =
    rw (member_suc i (bit_or a b), member_suc i a, member_suc i b, or_shr a b 1) (member_or i (a / 2) (b / 2))

pub member_one : (i m : ℕ) → member i (2 ^ m) ≡ eqb i m
member_one zero zero = member_zero 1
member_one zero (suc m) =
    let even : 2 ^ suc m % 2 ≡ 0 = omega (arith, pow-suc 2 m) in
    rw (member_zero (2 ^ suc m), even, eqb-zero-suc m)
member_one (suc i) zero = rw (member_suc i 1, eqb-suc-zero i) (member_empty i)
member_one (suc i) (suc m) =
    let half : 2 ^ suc m / 2 ≡ 2 ^ m = omega (arith, pow-suc 2 m) in
    rw (member_suc i (2 ^ suc m), half, eqb-suc-suc i m) (member_one i m)

pub and_sets : (xs ys : List Bool) → bit_and (set_of xs) (set_of ys) ≡ set_of (each ◌&&◌ xs ys)
unfolding set_of each
and_sets [] ys = refl
and_sets (x ∷ xs) [] = and_zero_r (set_of (x ∷ xs))
and_sets (x ∷ xs) (y ∷ ys) =
    and_step (set_of (x ∷ xs)) (set_of (y ∷ ys)) ∙
    ap₂ (λ (a b : ℕ). a * 2 + b)
    (ap₂ bit_and (set_of_half x xs) (set_of_half y ys) ∙ and_sets xs ys)
    (ap₂ min (set_of_odd x xs) (set_of_odd y ys) ∙ min_bits x y)

-- The code's `a & !b` in a word of k bits.
complement_step : (k s : ℕ) (b : Bool) → s < 2 ^ k → 2 ^ suc k - 1 - (s * 2 + bit b) ≡ (2 ^ k - 1 - s) * 2 + bit (not b)
complement_step k s true h = omega (arith, pow-suc 2 k)
complement_step k s false h = omega (arith, pow-suc 2 k)

bound_le : (k : ℕ) (bs : List Bool) → length bs ≤ k → set_of bs < 2 ^ k
bound_le k bs l = omega (arith, set_of_bound bs, lib.Pow.pow_mono l)

abbrev pub less : Bool → Bool → Bool
less a b = a && not b

pub minus_sets : (k : ℕ) (xs ys : List Bool) → length xs ≡ length ys → length ys ≤ k → bit_and (set_of xs) (2 ^ k - 1 - set_of ys) ≡ set_of (each less xs ys)
unfolding set_of each
minus_sets k [] ys l m = refl
minus_sets k (x ∷ xs) [] l m = absurd (omega arith)
minus_sets zero (x ∷ xs) (y ∷ ys) l m = absurd (omega arith)
minus_sets (suc k) (x ∷ xs) (y ∷ ys) l m =
    ap (bit_and (set_of (x ∷ xs))) (complement_step k (set_of ys) y (bound_le k ys (omega arith))) ∙
    and_step (set_of (x ∷ xs)) ((2 ^ k - 1 - set_of ys) * 2 + bit (not y)) ∙
    ap₂ (λ (a b : ℕ). a * 2 + b)
    (ap₂ bit_and (set_of_half x xs) (digits_div (2 ^ k - 1 - set_of ys) (bit_lt (not y))) ∙ minus_sets k xs ys (omega arith) (omega arith))
    (ap₂ min (set_of_odd x xs) (digits_mod (2 ^ k - 1 - set_of ys) (bit_lt (not y))) ∙ min_bits x (not y))

-- ---- the empty set

unfoldable pub none : List Bool → Bool
none [] = true
none (b ∷ bs) = not b && none bs

pub none_zero : (bs : List Bool) → none bs ≡ true → set_of bs ≡ 0
unfolding set_of none
none_zero [] e = refl
none_zero (true ∷ bs) e = absurd (false≢true e)
none_zero (false ∷ bs) e = omega (arith, none_zero bs e)

pub zero_none : (bs : List Bool) → set_of bs ≡ 0 → none bs ≡ true
unfolding set_of none
zero_none [] e = refl
zero_none (true ∷ bs) e = absurd (omega arith)
zero_none (false ∷ bs) e = zero_none bs (omega arith)

pub zero_sets : (bs : List Bool) → eqb (set_of bs) 0 ≡ none bs
zero_sets bs = go (none bs) refl
  where
    go : (b : Bool) → none bs ≡ b → eqb (set_of bs) 0 ≡ b
    go true e = eq-eqb (set_of bs) 0 (none_zero bs e)
    go false e = ne_eqb (set_of bs) 0 (λ z. false≢true (sym e ∙ zero_none bs z))

-- ---- tallies

pub length_tally : {A : Type 0} (n : ℕ) (p : ℕ → A) → length (tally n p) ≡ n
unfolding tally
length_tally zero p = refl
length_tally (suc n) p = omega (arith, length-append (tally n p) (p n ∷ []), length_tally n p)

pub tally_more : {A : Type 0} (n : ℕ) (p : ℕ → A) → tally (n + 1) p ≡ tally n p ++ (p n ∷ [])
unfolding tally
tally_more n p = rw add-one

pub get_or_tally : {A : Type 0} (n : ℕ) (p : ℕ → A) (d : A) (i : ℕ) → i < n → get_or (tally n p) i d ≡ p i
unfolding tally
get_or_tally zero p d i l = absurd (not-suc-le-zero l)
get_or_tally (suc n) p d i l =
    ⊎_elim
    (λ (e : i ≡ n). get_or_at (tally n p) (p n) [] d i (length_tally n p ∙ sym e) ∙ ap p (sym e))
    (λ (m : i < n). get_or-append (tally n p) (p n ∷ []) d i (rw length_tally m) ∙ get_or_tally n p d i m)
    (eq-or-lt_of_le (le_of_suc-le-suc l))

pub get_or_tally_beyond : {A : Type 0} (n : ℕ) (p : ℕ → A) (d : A) (i : ℕ) → n ≤ i → get_or (tally n p) i d ≡ d
get_or_tally_beyond n p d i l = get_or-eq_default (tally n p) d (rw length_tally l)

pub member_tally : (n : ℕ) (p : ℕ → Bool) (i : ℕ) → member i (set_of (tally n p)) ≡ (ltb i n && p i)
member_tally n p i = member_set_of (tally n p) i ∙ go (ltb i n) refl
  where
    go : (b : Bool) → ltb i n ≡ b → get_or (tally n p) i false ≡ (b && p i)
    go true e = get_or_tally n p false i (ltb-true i n e)
    go false e = get_or_tally_beyond n p false i (ltb-false i n e)

pub tally_ext : {A : Type 0} (n : ℕ) (p q : ℕ → A) → ((i : ℕ) → i < n → p i ≡ q i) → tally n p ≡ tally n q
unfolding tally
tally_ext {A} zero p q h = refl
tally_ext {A} (suc n) p q h =
    ap₂ (λ (bs : List A) (b : A). bs ++ (b ∷ [])) (tally_ext n p q (λ i l. h i (omega arith))) (h n (omega arith))

each_snoc : (f : Bool → Bool → Bool) (xs ys : List Bool) (x y : Bool) → length xs ≡ length ys → each f (xs ++ (x ∷ [])) (ys ++ (y ∷ [])) ≡ each f xs ys ++ (f x y ∷ [])
unfolding each
each_snoc f [] [] x y l = refl
each_snoc f [] (b ∷ ys) x y l = absurd (omega arith)
each_snoc f (a ∷ xs) [] x y l = absurd (omega arith)
each_snoc f (a ∷ xs) (b ∷ ys) x y l = ap (λ (bs : List Bool). f a b ∷ bs) (each_snoc f xs ys x y (omega arith))

pub each_tally : (f : Bool → Bool → Bool) (n : ℕ) (p q : ℕ → Bool) → each f (tally n p) (tally n q) ≡ tally n (λ i. f (p i) (q i))
unfolding each tally
each_tally f zero p q = refl
each_tally f (suc n) p q =
    each_snoc f (tally n p) (tally n q) (p n) (q n) (length_tally n p ∙ sym (length_tally n q)) ∙
    ap (λ (bs : List Bool). bs ++ (f (p n) (q n) ∷ [])) (each_tally f n p q)

none_snoc : (bs : List Bool) (b : Bool) → none (bs ++ (b ∷ [])) ≡ (none bs && not b)
unfolding none
none_snoc [] true = refl
none_snoc [] false = refl
none_snoc (true ∷ bs) b = refl
none_snoc (false ∷ bs) b = none_snoc bs b

not_or : (a b : Bool) → (not a && not b) ≡ not (a || b)
not_or true b = refl
not_or false b = refl

pub none_tally : (n : ℕ) (p : ℕ → Bool) → none (tally n p) ≡ not (some n p)
unfolding none tally some
none_tally zero p = refl
none_tally (suc n) p = none_snoc (tally n p) (p n) ∙ ap (λ (b : Bool). b && not (p n)) (none_tally n p) ∙ not_or (some n p) (p n)

-- ---- some

pub some_true : (n : ℕ) (p : ℕ → Bool) (i : ℕ) → i < n → p i ≡ true → some n p ≡ true
unfolding some
some_true zero p i l e = absurd (not-suc-le-zero l)
some_true (suc n) p i l e =
    ⊎_elim
    (λ (z : i ≡ n). ap (λ (b : Bool). some n p || b) (ap p (sym z) ∙ e) ∙ or-true (some n p))
    (λ (m : i < n). ap (λ (b : Bool). b || p n) (some_true n p i m e))
    (eq-or-lt_of_le (le_of_suc-le-suc l))

pub some_where : (n : ℕ) (p : ℕ → Bool) → some n p ≡ true → (i : ℕ) × (i < n) × (p i ≡ true)
unfolding some
some_where zero p e = absurd (false≢true e)
some_where (suc n) p e = go (some n p) refl e (λ z. some_where n p z)
  where
    go : (b : Bool) → some n p ≡ b → (b || p n) ≡ true → (b ≡ true → (i : ℕ) × (i < n) × (p i ≡ true)) → (i : ℕ) × (i < suc n) × (p i ≡ true)
    go true z h f = let w = f refl in (w.0, omega (arith, w.1), w.2)
    go false z h f = (n, omega arith, h)

pub some_none : (n : ℕ) (p : ℕ → Bool) → ((i : ℕ) → i < n → p i ≡ false) → some n p ≡ false
unfolding some
some_none zero p h = refl
some_none (suc n) p h = ap₂ (λ (a b : Bool). a || b) (some_none n p (λ i l. h i (omega arith))) (h n (omega arith))

pub some_ext : (n : ℕ) (p q : ℕ → Bool) → ((i : ℕ) → i < n → p i ≡ q i) → some n p ≡ some n q
unfolding some
some_ext zero p q h = refl
some_ext (suc n) p q h = ap₂ (λ (a b : Bool). a || b) (some_ext n p q (λ i l. h i (omega arith))) (h n (omega arith))

-- ---- tallies as sets

pub and_tally : (n : ℕ) (p q : ℕ → Bool) → bit_and (set_of (tally n p)) (set_of (tally n q)) ≡ set_of (tally n (λ i. p i && q i))
and_tally n p q = and_sets (tally n p) (tally n q) ∙ ap set_of (each_tally ◌&&◌ n p q)

pub minus_tally : (k n : ℕ) (p q : ℕ → Bool) → n ≤ k → bit_and (set_of (tally n p)) (2 ^ k - 1 - set_of (tally n q)) ≡ set_of (tally n (λ i. p i && not (q i)))
minus_tally k n p q l =
    minus_sets k (tally n p) (tally n q) (length_tally n p ∙ sym (length_tally n q)) (rw length_tally l) ∙ ap set_of (each_tally less n p q)

-- What the code's `put` makes of a tally.
pub tally_put : (n : ℕ) (p : ℕ → Bool) → set_of (tally (n + 1) p) ≡ bit (p n) * 2 ^ n + set_of (tally n p)
tally_put n p =
    ap set_of (tally_more n p) ∙ set_snoc (tally n p) (p n) ∙
    ap (λ (k : ℕ). bit (p n) * 2 ^ k + set_of (tally n p)) (length_tally n p)

pub zero_tally : (n : ℕ) (p : ℕ → Bool) → eqb (set_of (tally n p)) 0 ≡ not (some n p)
zero_tally n p = zero_sets (tally n p) ∙ none_tally n p

pub and_tally_zero : (n : ℕ) (p q : ℕ → Bool) → eqb (bit_and (set_of (tally n p)) (set_of (tally n q))) 0 ≡ not (some n (λ i. p i && q i))
and_tally_zero n p q = ap (λ (s : ℕ). eqb s 0) (and_tally n p q) ∙ zero_tally n (λ i. p i && q i)

pub tally_bound : (k n : ℕ) (p : ℕ → Bool) → n ≤ k → set_of (tally n p) < 2 ^ k
tally_bound k n p l = bound_le k (tally n p) (rw length_tally l)
