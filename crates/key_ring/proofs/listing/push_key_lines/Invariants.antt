-- the lines of the keys so far were added
use Rattle.std.proofs.Common.{◌≡◌, ◌++◌, take}
use Rattle.std.specs.Prelude.{string_bytes}
use Rattle.std.specs.List.{flat_map}
use Rattle.key_ring.specs.Listing.{key_line}
use Rattle.key_ring.proofs.listing.push_key_lines.Given as goal

abbrev pub invariant-loop-entry : goal.invariant-loop-entry
invariant-loop-entry l =
    string_bytes l.text ≡ string_bytes l.fn.text ++ flat_map (λ k. key_line l.made_at k.revoked k.key) (take l.entry-index l.keys)
