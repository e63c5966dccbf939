-- A list read filter by filter, from the front.
--   listed_step, listed_end         the check from one place on: one filter, the end
--   filters_step, filters_none      the filters from one place on
--   accepted_head, accepted_rest, accepted_last   one filter off an accepted list
--   Rest ws n i r     the words ws are an accepted list of n filters, and the words r are what is left of it from filter i on
--   rest_start, rest_next, rest_end   a loop over an accepted list: its start, its turn, its end
--   rest_below, rest_sound            while words are left a filter follows, and it has no fault
--   rest_filter                       the filters that are left: the one that the words begin with, and the rest
--   At ws n i at      the words ws are an accepted list of n filters, and filter i begins at the place at, or the list ends there
--   Here ws at        a filter begins there: its words are in the list, and its tests are few
--   at_start, at_next, at_end         the same loop by places: its start, its turn, its end
--   left                              what is left of the list there
--   sound_here, at_here, at_rest      what it may read there, and the filters that it still has before it
use Rattle.std.specs.Prelude.{ℕ, zero, suc, ◌+◌, ◌-◌, ◌≤◌, ◌<◌, ◌≡◌, refl, List, [], ◌∷◌, length, drop, Ok, Err}
use Rattle.std.proofs.Common.{not-suc-le-zero, zero-lt-suc, arith, sym, ap, ◌∙◌, length-drop, drop-drop}
use Rattle.lists.specs.declared.Counts.{Counts}
use Rattle.lists.specs.Filters.{max_filters, max_tests, head_words, count_word, filter_words, Filter, filter_of, filters_from, filters_of}
use Rattle.refusals.specs.declared.Refusal.TheVariants.{ManyFilters}
use Rattle.refusals.specs.declared.Refused.{Refused}
use Rattle.refusals.specs.Numbers.{refused}
use Rattle.lists.specs.Refusals.{Fault, filter_fault, Listed, counts, unless_faulty, listed_from, listed}
use Rattle.lists.specs.laws.Faults.{NoFault, no_fault}

pub listed_step : (n i t : ℕ) (ws : List ℕ) → 0 < length ws → listed_from (suc n) i t ws ≡ unless_faulty i (filter_fault ws) (listed_from n (i + 1) (t + count_word ws) (drop (filter_words ws) ws))
unfolding listed_from
listed_step n i t [] l = absurd (not-suc-le-zero l)
listed_step n i t (w ∷ ws) l = refl

pub listed_end : (n i t : ℕ) → listed_from n i t [] ≡ Ok (counts i t)
unfolding listed_from
listed_end zero i t = refl
listed_end (suc n) i t = refl

-- The filters from the front.
pub filters_step : (n : ℕ) (ws : List ℕ) → 0 < length ws → filters_from (suc n) ws ≡ filter_of ws ∷ filters_from n (drop (filter_words ws) ws)
unfolding filters_from
filters_step n [] l = absurd (not-suc-le-zero l)
filters_step n (w ∷ ws) l = refl

pub filters_none : (n : ℕ) → filters_from n [] ≡ []
unfolding filters_from
filters_none zero = refl
filters_none (suc n) = refl

-- ---- one filter off an accepted list

-- A list with so many filters and tests.
abbrev pub accepted : ℕ → ℕ → Listed
accepted n t = Ok (counts n t)

pub accepted_one : (n t a b : ℕ) → accepted n t ≡ accepted a b → (n ≡ a) × (t ≡ b)
accepted_one n t a b e = let c : counts n t ≡ counts a b = cc in (ap (λ (x : Counts). x.filters) c, ap (λ (x : Counts). x.tests) c)

not_refused : (e : Refused ℕ) (a b : ℕ) → Err e ≡ accepted a b → ⊥
not_refused r a b e = cc

-- A list that is accepted has no fault here and is accepted from there.
sound_parts : (i a b : ℕ) (x : Fault) (later : Listed) → unless_faulty i x later ≡ accepted a b → (x ≡ Ok tt) × (later ≡ accepted a b)
sound_parts i a b (Ok u) later e = (refl, e)
sound_parts i a b (Err r) later e = absurd (cc)

accepted_parts : (n i t a b : ℕ) (ws : List ℕ) → 0 < length ws → listed_from (suc n) i t ws ≡ Ok (counts a b) → (filter_fault ws ≡ Ok tt) × (listed_from n (i + 1) (t + count_word ws) (drop (filter_words ws) ws) ≡ Ok (counts a b))
accepted_parts n i t a b ws l e = sound_parts i a b (filter_fault ws) _ (sym (listed_step n i t ws l) ∙ e)

pub accepted_head : (n i t a b : ℕ) (ws : List ℕ) → 0 < length ws → listed_from (suc n) i t ws ≡ Ok (counts a b) → NoFault ws
accepted_head n i t a b ws l e = no_fault ws (accepted_parts n i t a b ws l e).0

pub accepted_rest : (n i t a b : ℕ) (ws : List ℕ) → 0 < length ws → listed_from (suc n) i t ws ≡ Ok (counts a b) → listed_from n (i + 1) (t + count_word ws) (drop (filter_words ws) ws) ≡ Ok (counts a b)
accepted_rest n i t a b ws l e = (accepted_parts n i t a b ws l e).1

-- No filter can follow the last.
pub accepted_last : (i t a b : ℕ) (w : ℕ) (ws : List ℕ) → listed_from 0 i t (w ∷ ws) ≡ Ok (counts a b) → ⊥
unfolding listed_from
accepted_last i t a b w ws e = not_refused (refused ManyFilters i) a b e

-- ---- a loop over an accepted list

record Next (m i t a b : ℕ) (ws : List ℕ) : Type 0 where
  sound : NoFault ws
  later : listed_from (m - 1) (i + 1) (t + count_word ws) (drop (filter_words ws) ws) ≡ Ok (counts a b)
  filters : filters_from m ws ≡ filter_of ws ∷ filters_from (m - 1) (drop (filter_words ws) ws)

-- While there are words, a filter begins with them.
accepted_on : (m i t a b : ℕ) (ws : List ℕ) → listed_from m i t ws ≡ Ok (counts a b) → 0 < length ws → Next m i t a b ws
accepted_on m i t a b [] e l = absurd (not-suc-le-zero l)
accepted_on zero i t a b (w ∷ ws) e l = absurd (accepted_last i t a b w ws e)
accepted_on (suc m) i t a b (w ∷ ws) e l =
    let z : m ≡ suc m - 1 = omega arith in
    record {
      sound = accepted_head m i t a b (w ∷ ws) l e;
      later = ap (λ (x : ℕ). listed_from x (i + 1) (t + count_word (w ∷ ws)) (drop (filter_words (w ∷ ws)) (w ∷ ws))) (sym z) ∙ accepted_rest m i t a b (w ∷ ws) l e;
      filters = filters_step m (w ∷ ws) l ∙ ap (λ (x : ℕ). filter_of (w ∷ ws) ∷ filters_from x (drop (filter_words (w ∷ ws)) (w ∷ ws))) z;
    }

-- Where the words end, all filters have come.
accepted_done : (m i t a b : ℕ) → listed_from m i t [] ≡ Ok (counts a b) → i ≡ a
accepted_done m i t a b e = (accepted_one i t a b (sym (listed_end m i t) ∙ e)).0

accepted_le : (m i t a b : ℕ) (ws : List ℕ) → listed_from m i t ws ≡ Ok (counts a b) → i ≤ a
accepted_le m i t a b [] e = omega (arith, accepted_done m i t a b e)
accepted_le zero i t a b (w ∷ ws) e = absurd (accepted_last i t a b w ws e)
accepted_le (suc m) i t a b (w ∷ ws) e =
    let r = accepted_rest m i t a b (w ∷ ws) (omega arith) e in
    omega (arith, accepted_le m (i + 1) (t + count_word (w ∷ ws)) a b (drop (filter_words (w ∷ ws)) (w ∷ ws)) r)

pub record Rest (ws : List ℕ) (n i : ℕ) (r : List ℕ) : Type 0 where
  pub accepted : (t : ℕ) × (b : ℕ) × (listed_from (max_filters - i) i t r ≡ Ok (counts n b))
  pub filters : filters_from (max_filters - i) r ≡ drop i (filters_of ws)

pub rest_start : (ws : List ℕ) (n t : ℕ) → listed ws ≡ Ok (counts n t) → Rest ws n 0 ws
unfolding listed filters_of
rest_start ws n t e = record { accepted = (0, t, e); filters = refl }

module _ (ws : List ℕ) (n i : ℕ) (r : List ℕ) (here : Rest ws n i r) where
  module _ (l : 0 < length r) where
    next : Next (max_filters - i) i here.accepted.0 n here.accepted.1 r
    next = accepted_on (max_filters - i) i here.accepted.0 n here.accepted.1 r here.accepted.2 l

    pub rest_sound : NoFault r
    rest_sound = next.sound

    pub rest_below : i < n
    rest_below =
        omega (arith, accepted_le (max_filters - i - 1) (i + 1) (here.accepted.0 + count_word r) n here.accepted.1 (drop (filter_words r) r) next.later)

    less : max_filters - i - 1 ≡ max_filters - (i + 1)
    less = omega arith

    others : filters_from (max_filters - (i + 1)) (drop (filter_words r) r) ≡ drop (i + 1) (filters_of ws)
    others =
        ap (λ (m : ℕ). filters_from m (drop (filter_words r) r)) (sym less) ∙
        sym (ap (drop 1) next.filters) ∙ ap (drop 1) here.filters ∙ drop-drop 1 i (filters_of ws)

    pub rest_next : Rest ws n (i + 1) (drop (filter_words r) r)
    rest_next =
        record {
          accepted = (
            here.accepted.0 + count_word r,
            here.accepted.1,
            ap (λ (m : ℕ). listed_from m (i + 1) (here.accepted.0 + count_word r) (drop (filter_words r) r)) (sym less) ∙ next.later,
          );
          filters = others;
        }

    pub rest_filter : drop i (filters_of ws) ≡ filter_of r ∷ drop (i + 1) (filters_of ws)
    rest_filter =
        sym here.filters ∙ next.filters ∙
        ap (λ (fs : List Filter). filter_of r ∷ fs) (ap (λ (m : ℕ). filters_from m (drop (filter_words r) r)) less ∙ others)

  pub rest_end : r ≡ [] → (i ≡ n) × (drop i (filters_of ws) ≡ [])
  rest_end e = (
    accepted_done (max_filters - i) i here.accepted.0 n here.accepted.1 (ap (listed_from (max_filters - i) i here.accepted.0) (sym e) ∙ here.accepted.2),
    sym here.filters ∙ ap (filters_from (max_filters - i)) e ∙ filters_none (max_filters - i),
  )

-- ---- the same by places

pub record Here (ws : List ℕ) (at : ℕ) : Type 0 where
  pub head : at + head_words ≤ length ws
  pub count : count_word (drop at ws) ≤ max_tests
  pub whole : at + filter_words (drop at ws) ≤ length ws

-- A filter without a fault, of which the words from a place on begin with one.
pub sound_here : (ws : List ℕ) (at : ℕ) → NoFault (drop at ws) → Here ws at
sound_here ws at s =
    let l = length-drop at ws in
    record { head = omega (arith, l, s.head); count = s.count; whole = omega (arith, l, s.head, s.whole) }

pub record At (ws : List ℕ) (n i at : ℕ) : Type 0 where
  pub accepted : (t : ℕ) × (b : ℕ) × (listed_from (max_filters - i) i t (drop at ws) ≡ Ok (counts n b))
  pub rest : filters_from (max_filters - i) (drop at ws) ≡ drop i (filters_of ws)

pub at_start : (ws : List ℕ) (n t : ℕ) → listed ws ≡ Ok (counts n t) → At ws n 0 0
at_start ws n t e = let r = rest_start ws n t e in record { accepted = r.accepted; rest = r.filters }

-- Words are left exactly while filters are still to come.
module _ (ws : List ℕ) (n i at : ℕ) (here : At ws n i at) where
  pub left : Rest ws n i (drop at ws)
  left = record { accepted = here.accepted; filters = here.rest }

  some_left : (r : List ℕ) → Rest ws n i r → i < n → 0 < length r
  some_left [] l h = absurd (omega (arith, (rest_end ws n i [] l refl).0))
  some_left (w ∷ r) l h = zero-lt-suc (length r)

  none_left : (r : List ℕ) → Rest ws n i r → n ≤ i → r ≡ []
  none_left [] l h = refl
  none_left (w ∷ r) l h = absurd (omega (arith, rest_below ws n i (w ∷ r) l (zero-lt-suc (length r))))

  module _ (h : i < n) where
    more : 0 < length (drop at ws)
    more = some_left (drop at ws) left h

    pub at_here : Here ws at
    at_here = sound_here ws at (rest_sound ws n i (drop at ws) left more)

    pub at_next : At ws n (i + 1) (at + filter_words (drop at ws))
    at_next =
        let next : Rest ws n (i + 1) (drop (at + filter_words (drop at ws)) ws) =
        rw (← drop-drop (filter_words (drop at ws)) at ws) (rest_next ws n i (drop at ws) left more) in
        record { accepted = next.accepted; rest = next.filters }

    pub at_rest : drop i (filters_of ws) ≡ filter_of (drop at ws) ∷ drop (i + 1) (filters_of ws)
    at_rest = rest_filter ws n i (drop at ws) left more

  pub at_end : n ≤ i → drop i (filters_of ws) ≡ []
  at_end l = (rest_end ws n i (drop at ws) left (none_left (drop at ws) left l)).1
