-- A run of words as chunks of one size.
--   chunk_at, chunk_head   the chunk at a place, and its first word
-- Assumes nothing.
use Prim.Native.Nat.{ℕ, zero, suc, ◌+◌, ◌*◌, ◌<◌}
use mathlib.Core.Path.{◌≡◌, ap, ◌∙◌}
use mathlib.Core.List.{List}
use native.Mathlib.Nat.{add-zero}
use native.Mathlib.Omega.{arith}
use lib.ListN.{get_or, take, drop}
use lib.Seq.{drop-drop, get_or-drop}
use Rattle.slots.specs.Words.{filter_slot}
use Rattle.std.specs.Simd.{first_chunks}
use Rattle.std.proofs.lemmas.List.{get_or-take}

pub chunk_at : (size n i : ℕ) (w d : List ℕ) → i < n → get_or (first_chunks size n w) i d ≡ take size (drop (size * i) w)
chunk_at size zero i w d h = absurd (omega arith)
chunk_at size (suc n) zero w d h = let z : size * 0 ≡ 0 = omega arith in rw z
chunk_at size (suc n) (suc i) w d h =
    let z : size + size * i ≡ size * suc i = omega arith in
    chunk_at size n i (drop size w) d (omega arith) ∙ ap (take size) (drop-drop (size * i) size w ∙ ap (λ (k : ℕ). drop k w) z)

pub chunk_head : (n i : ℕ) (w d : List ℕ) → i < n → get_or (get_or (first_chunks filter_slot n w) i d) 0 0 ≡ get_or w (filter_slot * i) 0
chunk_head n i w d h =
    ap (λ (c : List ℕ). get_or c 0 0) (chunk_at filter_slot n i w d h) ∙
    get_or-take filter_slot (drop (filter_slot * i) w) 0 0 (omega arith) ∙
    get_or-drop (filter_slot * i) w 0 0 ∙ ap (λ (k : ℕ). get_or w k 0) (add-zero (filter_slot * i))
