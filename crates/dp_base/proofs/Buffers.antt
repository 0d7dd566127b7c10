-- A buffer of which a part was written.
use Rattle.std.proofs.Common.{◌≡◌, ℕ, ◌+◌, ◌≤◌, List, ◌++◌, length, take, sym, ap, ◌∙◌, arith}
use Rattle.std.proofs.Math.Seq.{take-append-add}
use Rattle.std.proofs.lemmas.List.{length-append, length-take, length-take-le, take-append-le}
use borrow.Rule.Slice.PartMut.{put_mid}

-- the bytes before the part, and the first n of the part
pub take-put_mid-add : (at len n : ℕ) (buffer part : List ℕ) → at ≤ length buffer → n ≤ length part
    → take (at + n) (put_mid at len buffer part) ≡ take at buffer ++ take n part
take-put_mid-add at len n buffer part within some =
    ap (λ (m : ℕ). take (m + n) (put_mid at len buffer part)) (sym (length-take-le at buffer within))
    ∙ take-append-add (take at buffer) _ n ∙ ap (λ (t : List ℕ). take at buffer ++ t) (take-append-le n part _ some)

-- they lie within the buffer
pub put_mid-within : (at len n : ℕ) (buffer part : List ℕ) → at ≤ length buffer → n ≤ length part → at + n ≤ length (put_mid at len buffer part)
put_mid-within at len n buffer part within some =
    omega (arith, ap length (take-put_mid-add at len n buffer part within some), length-append (take at buffer) (take n part), length-take-le at buffer within, length-take-le n part some, length-take (at + n) (put_mid at len buffer part))
