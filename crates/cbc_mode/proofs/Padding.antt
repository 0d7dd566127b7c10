-- What padding adds, and what is taken off again.
use Rattle.std.proofs.Common.{◌≡◌, ℕ, ◌+◌, ◌-◌, ◌%◌, ◌<◌, ◌≤◌, List, length, take, replicate, ap, sym, arith, length-append, length-drop}
use Rattle.std.proofs.lemmas.List.{length-replicate, length-take-le, take-append-drop, take_at, drop_at, get_or-append-add, get_or-replicate}
use Rattle.dp_base.specs.Blocks.{AreBytes}
use Rattle.cbc_mode.specs.Pad.{pad_len, pad, last_byte, IsPadded}
use Rattle.dp_base.proofs.Parts.{AreBytes-append, AreBytes-replicate}

pub pad_len-bounds : (text : List ℕ) → (1 ≤ pad_len text) × (pad_len text ≤ 16)
pad_len-bounds text = (omega arith, omega arith)

pub length-pad : (text : List ℕ) → length (pad text) ≡ length text + pad_len text
length-pad text = simp (length-append, length-replicate)

pub pad-whole : (text : List ℕ) → length (pad text) % 16 ≡ 0
pad-whole text = let n = length-pad text in omega arith

pub last_byte-pad : (text : List ℕ) → last_byte (pad text) ≡ pad_len text
last_byte-pad text =
    let p = pad_len text in
    let n = length-pad text in
    let at : length (pad text) - 1 ≡ length text + (p - 1) = omega arith in
    let within : p - 1 < p = omega arith in
    rw (at, get_or-append-add text (replicate p p) (p - 1) 0) (get_or-replicate p (p - 1) p 0 within)

-- a padded text is padded
pub IsPadded-pad : (text : List ℕ) → IsPadded (pad text)
IsPadded-pad text =
    let p = pad_len text in
    let n = length-pad text in
    let b = pad_len-bounds text in
    let front : length text ≡ length (pad text) - p = omega arith in
    rw (last_byte-pad text) (b.0, b.1, drop_at text (replicate p p) (length (pad text) - p) front)

-- what is left of a padded text without its padding
pub take-pad : (text : List ℕ) → take (length (pad text) - last_byte (pad text)) (pad text) ≡ text
take-pad text =
    let p = pad_len text in
    let n = length-pad text in
    let front : length text ≡ length (pad text) - p = omega arith in
    rw (last_byte-pad text) (take_at text (replicate p p) (length (pad text) - p) front)

-- a padded text of whole blocks is what is left, padded
pub pad-take : (text : List ℕ) → length text % 16 ≡ 0 → IsPadded text → text ≡ pad (take (length text - last_byte text) text)
pad-take text whole padded =
    let p = last_byte text in
    let low = padded.0 in
    let high = padded.1 in
    let tail = padded.2 in
    let count = simp (length-drop, length-replicate) at (ap length tail) in
    let front = length-take-le (length text - p) text (omega arith) in
    let added : pad_len (take (length text - p) text) ≡ p = rw front (omega arith) in
    sym (rw (added, ← tail) (take-append-drop (length text - p) text))

pub AreBytes-pad : (text : List ℕ) → AreBytes text → AreBytes (pad text)
AreBytes-pad text are =
    let b = pad_len-bounds text in
    AreBytes-append text (replicate (pad_len text) (pad_len text)) are
    (AreBytes-replicate (pad_len text) (pad_len text) (omega arith))
