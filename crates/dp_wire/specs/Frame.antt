-- Frames: a length of four bytes, high byte first, and so many bytes of body.
use Rattle.std.specs.Prelude.{ℕ, ◌≤◌, List, ◌++◌, length}
use Rattle.std.specs.Int.{w32, to_be_bytes}
use Rattle.dp_wire.specs.declared.frame.TheConstants.{MAX_BODY}

-- the frame of a body
unfoldable pub frame : List ℕ → List ℕ
frame body = to_be_bytes w32 (length body) ++ body

-- the length of a request's body
abbrev pub IsBodyLen : ℕ → Type 0
IsBodyLen n = (1 ≤ n) × (n ≤ MAX_BODY)
