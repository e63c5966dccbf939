-- What reading a field answers (document 02, P7), as the code decides it: by single bytes, of which one behind the end may be any.
--   could f i p     byte i passes the test p, or lies behind the end
--   may_be_type       a frame that goes on could have field 0
--   may_be_internet   .. fields 1 to 7: no length is tested
--   may_begin        .. a transport part: the fragment's offset could be 0
--   may_carry f p    .. a transport part whose protocol passes p
--   chances f       for each field whether such a frame could have it, by number
--   possible f n    the same of field n; none above the last number
--   seen_of b r      what the reading r is seen as, where b says whether such a frame could have the field
--   seen f p n      field n; none above the last number
--   is_cut s         an answer is cut
--   reading_of s     the reading of document 01, for which none and cut are one
use Rattle.std.specs.Prelude.{ℕ, ◌+◌, ◌/◌, ◌%◌, Bool, true, false, cond, ◌&&◌, ◌||◌, List, [], ◌∷◌, leb, eqb, length, get_or, Option, None, Some}
use Rattle.fields.specs.declared.Seen.{Seen}
use Rattle.fields.specs.declared.Seen.TheVariants as S
use Rattle.fields.specs.Bytes.{byte}
use Rattle.fields.specs.Ethernet.{ip_start}
use Rattle.fields.specs.Transport.{tcp, udp, icmp}
use Rattle.fields.specs.Fields.{field}

unfoldable pub could : List ℕ → ℕ → (ℕ → Bool) → Bool
could f i p = leb (length f) i || p (byte f i)

unfoldable pub may_be_type : List ℕ → Bool
may_be_type f = could f 12 (λ x. leb 6 x)

-- The EtherType is 0x0800; IP byte 0 has version 4 and a header of five fours at the least.
unfoldable pub may_be_internet : List ℕ → Bool
may_be_internet f =
    could f 12 (λ x. eqb x 8) &&
    could f 13 (λ x. eqb x 0) &&
    could f ip_start (λ x. eqb (x / 16) 4 && leb 5 (x % 16))

unfoldable pub may_begin : List ℕ → Bool
may_begin f = could f (ip_start + 6) (λ x. eqb (x % 32) 0) && could f (ip_start + 7) (λ x. eqb x 0)

unfoldable pub may_carry : List ℕ → (ℕ → Bool) → Bool
may_carry f p = may_be_internet f && may_begin f && could f (ip_start + 9) p

unfoldable pub chances : List ℕ → List Bool
chances f =
    let header = may_be_internet f in
    let ports = may_carry f (λ q. eqb q tcp || eqb q udp) in
    let flags = may_carry f (λ q. eqb q tcp) in
    let echo = may_carry f (λ q. eqb q icmp) in
    may_be_type f ∷
    header ∷ header ∷ header ∷ header ∷ header ∷ header ∷ header ∷
    ports ∷ ports ∷ flags ∷ echo ∷ echo ∷
    true ∷ []

unfoldable pub possible : List ℕ → ℕ → Bool
possible f n = get_or (chances f) n false

unfoldable pub seen_of : Bool → Option ℕ → Seen
seen_of b (Some x) = S.Has x
seen_of b None = cond b S.Cut S.None

unfoldable pub seen : List ℕ → ℕ → ℕ → Seen
seen f p n = seen_of (possible f n) (field f p n)

unfoldable pub is_cut : Seen → Bool
is_cut (S.Has x) = false
is_cut S.None = false
is_cut S.Cut = true

unfoldable pub reading_of : Seen → Option ℕ
reading_of (S.Has x) = Some x
reading_of S.None = None
reading_of S.Cut = None
