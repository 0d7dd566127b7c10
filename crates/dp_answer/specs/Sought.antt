-- What is known of a request before its ring is there: the key without which the node tries once more,
-- and the payload that its text is of.
use Rattle.std.specs.Prelude.{◌≡◌, ℕ, List, Option, None, option_map}
use Rattle.std.specs.declared.vec.Vec.{Vec}
use Rattle.std.specs.declared.alloc.Global.{Global}
use Rattle.dp_protector.specs.Text.{payload_of}
use Rattle.dp_wire.specs.Request.{Request, UnprotectText}
use Rattle.dp_answer.specs.declared.needs.Sought.{Sought}
use Rattle.dp_answer.specs.Needs.{missing_of}

abbrev pub text_payload : Request → Option (List ℕ)
text_payload (UnprotectText need allow chain text) = payload_of text
text_payload _ = None

-- bytes that are kept, as clauses see them
abbrev pub kept : Option (Vec ℕ Global) → Option (List ℕ)
kept bytes = option_map (λ (v : Vec ℕ Global). v.items) bytes

pub record IsSought (p : Request) (s : Sought) : Type 0 where
  pub missing : s.missing ≡ missing_of p
  pub payload : kept s.payload ≡ text_payload p
