-- Document 02, P7, in its own words: a field that is absent is cut where a frame that goes on could have it, else none.
--   length_at         where the two bytes of the IP total length begin
--   Grows f g        g is a frame, however long, that begins with the bytes of f; those two alone are free to change
--   is_present r      a reading is a value
--   Possible f p n   some such frame has field n
--   SeenAs f p n s   s is what reading field n answers: its value, none or cut
use Rattle.std.specs.Prelude.{ℕ, ◌+◌, ◌≤◌, ◌<◌, ◌≡◌, Bool, true, false, List, length, Option, None, Some}
use Rattle.fields.specs.declared.Seen.{Seen}
use Rattle.fields.specs.declared.Seen.TheVariants as S
use Rattle.fields.specs.Bytes.{byte, Bytes}
use Rattle.fields.specs.Ethernet.{ip_start}
use Rattle.fields.specs.Fields.{field}

abbrev pub length_at : ℕ
length_at = ip_start + 2

pub record Grows (f g : List ℕ) : Type 0 where
  pub bytes : Bytes g
  pub longer : length f ≤ length g
  pub begins : (i : ℕ) → i < length f → (i ≡ length_at → ⊥) → (i ≡ length_at + 1 → ⊥) → byte g i ≡ byte f i

unfoldable pub is_present : Option ℕ → Bool
is_present None = false
is_present (Some x) = true

abbrev pub Possible : List ℕ → ℕ → ℕ → Type 0
Possible f p n = (g : List ℕ) × Grows f g × (is_present (field g p n) ≡ true)

unfoldable pub SeenAs : List ℕ → ℕ → ℕ → Seen → Type 0
SeenAs f p n (S.Has x) = field f p n ≡ Some x
SeenAs f p n S.Cut = (field f p n ≡ None) × Possible f p n
SeenAs f p n S.None = (field f p n ≡ None) × (Possible f p n → ⊥)
