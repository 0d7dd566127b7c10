-- What a reason is.
use Rattle.std.specs.Prelude.{ℕ, ◌≤◌, List, length, IsTrue}
use Rattle.std.specs.Str.{is_utf8}
use Rattle.key_elements.specs.declared.reason.TheConstants.{MAX_REASON}

-- the bytes of a text that isn't too long
pub record IsReason (bytes : List ℕ) : Type 0 where
  pub few : length bytes ≤ MAX_REASON
  pub text : IsTrue (is_utf8 bytes)
