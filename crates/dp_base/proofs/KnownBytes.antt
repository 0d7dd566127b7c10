-- Reads and writes, one after the other, and what they do to known bytes.
use Rattle.std.proofs.Common.{◌≡◌, ℕ, ◌+◌, ◌<◌, ◌≤◌, List, [], ◌++◌, length, take, drop, Option, Some, None, Result, Ok, Err, refl, sym, ap, subst, ◌∙◌, append_assoc, arith}
use Rattle.std.proofs.Math.Seq.{take-add}
use Rattle.std.proofs.lemmas.List.{length-append, take_at, drop_at, append-nil, take_all, drop_all}
use Rattle.std.specs.Io.KnownBytes.{Keeps, Consumes, Appends, IsAtEnd, ReadConsumes, WriteAppends}
use Rattle.dp_base.specs.Transfer.{TakesFront, TakesAtMost, TakesFewer, Writes, WritesFront}

pub Keeps-same : (a : Option (List ℕ)) → Keeps a a
Keeps-same None = tt
Keeps-same (Some xs) = refl

pub Keeps-twice : (a b c : Option (List ℕ)) → Keeps a b → Keeps b c → Keeps a c
Keeps-twice None b c first second = tt
Keeps-twice (Some xs) None c first second = absurd first
Keeps-twice (Some xs) (Some ys) None first second = absurd second
Keeps-twice (Some xs) (Some ys) (Some zs) first second = second ∙ first

pub ReadConsumes-kept : {E : Type 0} (a b c : Option (List ℕ)) (r : Result ℕ E) (buffer : List ℕ) → Keeps a b → ReadConsumes b c r buffer → ReadConsumes a c r buffer
ReadConsumes-kept a b c (Err e) buffer kept read = Keeps-twice a b c kept read
ReadConsumes-kept None b c (Ok n) buffer kept read = (tt, read.1)
ReadConsumes-kept (Some xs) None c (Ok n) buffer kept read = absurd kept
ReadConsumes-kept {E = E} (Some xs) (Some ys) c (Ok n) buffer kept read = subst (λ (t : List ℕ). ReadConsumes {E = E} (Some t) c (Ok n) buffer) kept read

pub WriteAppends-kept : {E : Type 0} (a b c : Option (List ℕ)) (r : Result ℕ E) (piece : List ℕ) → Keeps a b → WriteAppends b c r piece → WriteAppends a c r piece
WriteAppends-kept a b c (Err e) piece kept wrote = Keeps-twice a b c kept wrote
WriteAppends-kept None b c (Ok n) piece kept wrote = tt
WriteAppends-kept (Some xs) None c (Ok n) piece kept wrote = absurd kept
WriteAppends-kept {E = E} (Some xs) (Some ys) c (Ok n) piece kept wrote = subst (λ (t : List ℕ). WriteAppends {E = E} (Some t) c (Ok n) piece) kept wrote

-- no byte was read
pub Consumes-none : (a : Option (List ℕ)) → Consumes a a []
Consumes-none None = tt
Consumes-none (Some xs) = refl

-- two reads
pub Consumes-both : (a b c : Option (List ℕ)) (xs ys : List ℕ) → Consumes a b xs → Consumes b c ys → Consumes a c (xs ++ ys)
Consumes-both None b c xs ys first second = tt
Consumes-both (Some left) None c xs ys first second = absurd first
Consumes-both (Some left) (Some mid) None xs ys first second = absurd second
Consumes-both (Some left) (Some mid) (Some rest) xs ys first second =
    first ∙ ap (λ (t : List ℕ). xs ++ t) second ∙ sym (append_assoc xs ys rest)

-- a read, and then one that failed
pub Consumes-kept : (a b c : Option (List ℕ)) (xs : List ℕ) → Consumes a b xs → Keeps b c → Consumes a c xs
Consumes-kept None b c xs first kept = tt
Consumes-kept (Some left) None c xs first kept = absurd first
Consumes-kept (Some left) (Some mid) None xs first kept = absurd kept
Consumes-kept (Some left) (Some mid) (Some rest) xs first kept = first ∙ ap (λ (t : List ℕ). xs ++ t) (sym kept)

-- as many bytes as are to be read
pub TakesFront-full : (a b : Option (List ℕ)) (xs : List ℕ) (n : ℕ) → length xs ≡ n → Consumes a b xs → TakesFront n a b xs
TakesFront-full None b xs n len read = tt
TakesFront-full (Some left) None xs n len read = absurd read
TakesFront-full (Some left) (Some rest) xs n len read = (
  sym (ap (take n) read ∙ take_at xs rest n len),
  ap Some (sym (ap (drop n) read ∙ drop_at xs rest n len)),
)

-- fewer, at the end of input
pub TakesFront-end : (a b : Option (List ℕ)) (xs : List ℕ) (n : ℕ) → length xs ≤ n → Consumes a b xs → IsAtEnd b → TakesFront n a b xs
TakesFront-end None b xs n le read end = tt
TakesFront-end (Some left) None xs n le read end = absurd read
TakesFront-end (Some left) (Some rest) xs n le read end =
    let whole : left ≡ xs = read ∙ ap (λ (t : List ℕ). xs ++ t) end ∙ append-nil xs in (
      sym (ap (take n) whole ∙ take_all n xs le),
      ap Some (end ∙ sym (ap (drop n) whole ∙ drop_all n xs le)),
    )

pub TakesAtMost-consumes : (a b : Option (List ℕ)) (xs : List ℕ) (n : ℕ) → length xs ≤ n → Consumes a b xs → TakesAtMost n a b
TakesAtMost-consumes None b xs n le read = tt
TakesAtMost-consumes (Some left) None xs n le read = absurd read
TakesAtMost-consumes (Some left) (Some rest) xs n le read =
    (length xs, le, ap Some (sym (ap (drop (length xs)) read ∙ drop_at xs rest (length xs) refl)))

pub TakesFewer-consumes : (a b : Option (List ℕ)) (xs : List ℕ) (n : ℕ) → length xs < n → Consumes a b xs → TakesFewer n a b
TakesFewer-consumes None b xs n less read = tt
TakesFewer-consumes (Some left) None xs n less read = absurd read
TakesFewer-consumes (Some left) (Some rest) xs n less read = (
  length xs,
  less,
  omega (arith, ap (λ (t : List ℕ). length t) read, length-append xs rest),
  ap Some (sym (ap (drop (length xs)) read ∙ drop_at xs rest (length xs) refl)),
)

pub TakesAtMost-front : (a b : Option (List ℕ)) (xs : List ℕ) (n : ℕ) → TakesFront n a b xs → TakesAtMost n a b
TakesAtMost-front None b xs n front = tt
TakesAtMost-front (Some left) b xs n front = (n, omega arith, front.1)

-- one more write of a piece
pub Appends-more : (a b c : Option (List ℕ)) (piece : List ℕ) (at n : ℕ) → Appends a b (take at piece) → Appends b c (take n (drop at piece)) → Appends a c (take (at + n) piece)
Appends-more None b c piece at n first second = tt
Appends-more (Some written) None c piece at n first second = absurd first
Appends-more (Some written) (Some mid) None piece at n first second = absurd second
Appends-more (Some written) (Some mid) (Some after) piece at n first second =
    second ∙ ap (λ (t : List ℕ). t ++ take n (drop at piece)) first ∙ append_assoc written (take at piece) (take n (drop at piece))
    ∙ ap (λ (t : List ℕ). written ++ t) (sym (take-add at n piece))

-- a write, and then one that failed
pub Appends-kept : (a b c : Option (List ℕ)) (xs : List ℕ) → Appends a b xs → Keeps b c → Appends a c xs
Appends-kept None b c xs first kept = tt
Appends-kept (Some written) None c xs first kept = absurd first
Appends-kept (Some written) (Some mid) None xs first kept = absurd kept
Appends-kept (Some written) (Some mid) (Some after) xs first kept = kept ∙ first

pub Writes-all : (a b : Option (List ℕ)) (piece : List ℕ) (n : ℕ) → length piece ≤ n → Appends a b (take n piece) → Writes a b piece
Writes-all None b piece n all appends = tt
Writes-all (Some written) None piece n all appends = absurd appends
Writes-all (Some written) (Some after) piece n all appends = ap Some (appends ∙ ap (λ (t : List ℕ). written ++ t) (take_all n piece all))

pub WritesFront-some : (a b : Option (List ℕ)) (piece : List ℕ) (n : ℕ) → n ≤ length piece → Appends a b (take n piece) → WritesFront a b piece
WritesFront-some None b piece n le appends = tt
WritesFront-some (Some written) None piece n le appends = absurd appends
WritesFront-some (Some written) (Some after) piece n le appends = (n, le, ap Some appends)
