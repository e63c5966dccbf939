-- Document 02, P9: the bytes of a frame that may steer the box. What lies behind them is job contents.
--   steering f       how many bytes from the frame's first on: with IPv4 fields those before 14 + H + 14, else 34
--   SteerAlike f g   two frames of one length that agree on the bytes that may steer the first, as far as it goes
use Rattle.std.specs.Prelude.{ℕ, ◌+◌, ◌<◌, ◌≡◌, cond, List, length}
use Rattle.fields.specs.Bytes.{byte}
use Rattle.fields.specs.Ethernet.{ip_start}
use Rattle.fields.specs.Ipv4.{internet, header_length}

unfoldable pub steering : List ℕ → ℕ
steering f = cond (internet f) (ip_start + header_length f + 14) 34

pub record SteerAlike (f g : List ℕ) : Type 0 where
  pub long : length f ≡ length g
  pub agree : (i : ℕ) → i < steering f → i < length f → byte f i ≡ byte g i
