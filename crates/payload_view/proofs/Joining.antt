-- Four parts of a list, one behind the other, are the list.
use Rattle.std.proofs.Common.{◌≡◌, ℕ, ◌+◌, ◌-◌, ◌≤◌, List, ◌++◌, length, take, drop, arith, append_assoc, length-drop}
use Rattle.std.proofs.lemmas.List.{take-append-drop, drop-drop, take_all}

between : (bytes : List ℕ) (a e : ℕ) → a ≤ e → take (e - a) (drop a bytes) ++ drop e bytes ≡ drop a bytes
between bytes a e le =
    let up : a + (e - a) ≡ e = omega arith in
    let past = rw up at (drop-drop (e - a) a bytes) in
    rw (← past) (take-append-drop (e - a) (drop a bytes))

pub four_parts : (bytes : List ℕ) (a e f : ℕ) → a ≤ e → e ≤ f →
    ((take a bytes ++ take (e - a) (drop a bytes)) ++ take (f - e) (drop e bytes)) ++ take (length bytes - f) (drop f bytes) ≡ bytes
four_parts bytes a e f low high =
    let rest = length-drop f bytes in
    let all = take_all (length bytes - f) (drop f bytes) (omega arith) in
    rw (all, append_assoc, append_assoc, between bytes e f high, between bytes a e low) (take-append-drop a bytes)
