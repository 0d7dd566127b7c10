-- What the calls take.
use Rattle.std.specs.Prelude.{ℕ, ◌-◌, ◌≤◌, ◌<◌, ◌^◌, List, length}

-- a body of GCM with room for its tag, whose enciphered part and data are below 2^32 bytes, which is a
-- limit of this project's own
pub record FitsGcm (aad body : List ℕ) : Type 0 where
  pub has_tag : 16 ≤ length body
  pub short_aad : length aad < 2 ^ 32
  pub short_text : length body - 16 < 2 ^ 32
