-- Purposes that are read stand in the bytes, and purposes that stand there are read.
use Rattle.std.proofs.Common.{◌≡◌, ℕ, zero, suc, ◌+◌, ◌-◌, ◌^◌, ◌<◌, ◌≤◌, Bool, true, false, cond, leb, ◌&&◌, List, [], ◌∷◌, ◌++◌, length, take, drop, Option, Some, None, Result, Ok, Err, refl, sym, ap, subst, ◌∙◌, append_assoc, arith}
use Rattle.std.specs.Int.{w32, to_be_bytes, from_be_bytes}
use Rattle.std.specs.List.{flat_map, list_all}
use Rattle.std.specs.Str.{is_utf8}
use Rattle.std.proofs.lemmas.Bool.{and_parts, le-leb, leb-true}
use Rattle.std.proofs.lemmas.List.{take_at, drop_at, take-append-drop, length-append, length-take-le, append-nil}
use Rattle.std.proofs.lemmas.List.Sums.{sum_by-cons}
use Rattle.std.proofs.lemmas.Nat.{be_bytes_4, from_be_bytes-to_be_bytes_4}
use Rattle.dp_base.specs.Blocks.{AreBytes}
use Rattle.dp_base.specs.SevenBit.{seven, seven_at}
use Rattle.dp_base.specs.declared.seven_bit.SevenBit.{SevenBit}
use Rattle.dp_base.proofs.Parts.{AreBytes-drop}
use Rattle.dp_base.proofs.Sevens.{seven_again, seven_told}
use Rattle.purpose_chain.specs.Chain.{bytes_of, purpose_field}
use Rattle.dp_wire.specs.declared.chain.TheConstants.{MAX_WIRE_PURPOSES, MAX_WIRE_CHAIN}
use Rattle.dp_wire.specs.declared.request.BadRequest.{BadRequest}
use Rattle.dp_wire.specs.Chains.{IsWireChain, IsChainField, chain_field, chain_of, counted, purpose_front, purposes_of}
use Rattle.dp_wire.specs.Reading.{◌>>=◌, wrong, bytes_at, count_at, purpose_told, purpose_at, purposes_at, chain_at}
use Rattle.dp_wire.proofs.Fields.{Takes, then, bind_ok, bytes_takes, bytes_again}

pub not_text : (b : Bool) → (b ≡ true → ⊥) → b ≡ false
not_text true h = absurd (h refl)
not_text false h = refl

-- a purpose of a length that was read, whose bytes are a text
pub counted_some : (n : ℕ × List ℕ) (text rest : List ℕ) → n.0 ≤ length n.1 → text ≡ take n.0 n.1 → rest ≡ drop n.0 n.1 → is_utf8 text ≡ true → counted (Ok n) ≡ Some (text, rest)
counted_some n text rest le front back is =
    let here : is_utf8 (take n.0 n.1) ≡ true = subst (λ (t : List ℕ). is_utf8 t ≡ true) front is in
    rw (le-leb _ _ le, here, sym front, sym back) refl

-- and whose bytes are none
pub counted_none : (n : ℕ × List ℕ) (text : List ℕ) → n.0 ≤ length n.1 → text ≡ take n.0 n.1 → is_utf8 text ≡ false → counted (Ok n) ≡ None
counted_none n text le front is =
    let here : is_utf8 (take n.0 n.1) ≡ false = subst (λ (t : List ℕ). is_utf8 t ≡ false) front is in
    rw (le-leb _ _ le, here) refl

-- ---- the loop of the reader

abbrev pub Read : Type 0
Read = Result (List (List ℕ) × List ℕ) BadRequest

abbrev pub read : List (List ℕ) → List ℕ → Read
read chain rest = Ok (chain, rest)

-- what is left behind the purposes
abbrev pub behind : Read → Result (List ℕ) BadRequest
behind (Ok x) = Ok x.1
behind (Err why) = Err why

behind-more : (text : List ℕ) (r : Read) → behind (r >>= (λ others. Ok (text ∷ others.0, others.1))) ≡ behind r
behind-more text (Ok x) = refl
behind-more text (Err why) = refl

-- behind a purpose that is read
pub purposes_more : (len room n m : ℕ) (rest text after : List ℕ) → n ≡ suc m → Ok (text, after) ≡ purpose_at len room rest
    → behind (purposes_at len room n rest) ≡ behind (purposes_at len (room - length text) m after)
purposes_more len room n m rest text after count is = rw (count, sym is) (behind-more text (purposes_at len (room - length text) m after))

-- ---- what was read

text_ok : (fits text : Bool) (x p : List ℕ × List ℕ) → cond (fits && text) (Some x) None ≡ Some p → (fits ≡ true) × (text ≡ true) × (x ≡ p)
text_ok true true x p e = (refl, refl, cc)
text_ok true false x p e = absurd cc
text_ok false text x p e = absurd cc

-- the number of the purpose that was read, and what follows it
pub record HasLength (r : Result (ℕ × List ℕ) SevenBit) (p : List ℕ × List ℕ) : Type 0 where
  pub n : ℕ
  pub rest : List ℕ
  pub is : r ≡ Ok (n, rest)
  pub fits : n ≤ length rest
  pub text : is_utf8 (take n rest) ≡ true
  pub same : (take n rest, drop n rest) ≡ p

counted_ok : (r : Result (ℕ × List ℕ) SevenBit) (p : List ℕ × List ℕ) → counted r ≡ Some p → HasLength r p
counted_ok (Ok n) p e =
    let t = text_ok (leb n.0 (length n.1)) (is_utf8 (take n.0 n.1)) (take n.0 n.1, drop n.0 n.1) p e in
    record { n = n.0; rest = n.1; is = refl; fits = leb-true _ _ t.0; text = t.1; same = t.2 }
counted_ok (Err why) p e = absurd cc

text_parts : (bytes rest : List ℕ) (n : ℕ) → bytes ≡ seven n ++ rest → n ≤ length rest → bytes ≡ purpose_field (take n rest) ++ drop n rest
text_parts bytes rest n e le =
    let len : length (take n rest) ≡ n = length-take-le n rest le in
    rw len (e ∙ ap (λ (t : List ℕ). seven n ++ t) (sym (take-append-drop n rest)) ∙ sym (append_assoc (seven n) (take n rest) (drop n rest)))

AreBytes-behind : (bytes front rest : List ℕ) → bytes ≡ front ++ rest → AreBytes bytes → AreBytes rest
AreBytes-behind bytes front rest e fits =
    subst AreBytes (drop_at front rest (length front) refl) (AreBytes-drop (length front) (front ++ rest) (subst AreBytes e fits))

pub record TakesText (bytes text rest : List ℕ) : Type 0 where
  pub takes : Takes bytes (purpose_field text) rest
  pub is : is_utf8 text ≡ true

pub front_takes : (bytes : List ℕ) (p : List ℕ × List ℕ) → AreBytes bytes → purpose_front bytes ≡ Some p → TakesText bytes p.0 p.1
unfolding purpose_front
front_takes bytes p fits e =
    let h = counted_ok (seven_at bytes) p e in
    let told = seven_told bytes (h.n, h.rest) fits h.is in
    subst (λ (y : List ℕ × List ℕ). TakesText bytes y.0 y.1) h.same (record {
      takes = record {
        parts = text_parts bytes h.rest h.n told.0 h.fits;
        rest_fits = AreBytes-drop h.n h.rest (AreBytes-behind bytes (seven h.n) h.rest told.0 fits);
      };
      is = h.text;
    })

some : List ℕ × List ℕ → Option (List ℕ × List ℕ)
some p = Some p

room_ok : (b : Bool) (why : BadRequest) (p x : List ℕ × List ℕ) → cond b (Ok p) (Err why) ≡ Ok x → (b ≡ true) × (p ≡ x)
room_ok true why p x e = (refl, cc)
room_ok false why p x e = absurd cc

told_ok : (why : BadRequest) (room : ℕ) (r : Option (List ℕ × List ℕ)) (x : List ℕ × List ℕ) → purpose_told why room r ≡ Ok x → (r ≡ Some x) × (length x.0 ≤ room)
told_ok why room None x e = absurd cc
told_ok why room (Some p) x e =
    let t = room_ok (leb (length p.0) room) why p x e in
    (cc, subst (λ (y : List ℕ × List ℕ). length y.0 ≤ room) t.1 (leb-true _ _ t.0))

-- the purposes stand at the front of the bytes, so many, and have the room
pub record TakesPurposes (n room : ℕ) (bytes : List ℕ) (chain : List (List ℕ)) (rest : List ℕ) : Type 0 where
  pub takes : Takes bytes (flat_map purpose_field chain) rest
  pub count : length chain ≡ n
  pub short : bytes_of chain ≤ room
  pub texts : list_all is_utf8 chain ≡ true

one_more : (n room : ℕ) (bytes text after rest : List ℕ) (chain : List (List ℕ)) → TakesText bytes text after → length text ≤ room
    → TakesPurposes n (room - length text) after chain rest → TakesPurposes (suc n) room bytes (text ∷ chain) rest
one_more n room bytes text after rest chain first le others = record {
  takes = record {
    parts = then bytes (purpose_field text) after (flat_map purpose_field chain) rest first.takes.parts others.takes.parts;
    rest_fits = others.takes.rest_fits;
  };
  count = ap suc others.count;
  short = omega (arith, sum_by-cons length text chain, others.short);
  texts = rw (first.is) others.texts;
}

pub purposes_takes : (len room n : ℕ) (bytes : List ℕ) (x : List (List ℕ) × List ℕ) → AreBytes bytes → purposes_at len room n bytes ≡ Ok x → TakesPurposes n room bytes x.0 x.1
unfolding purpose_at
purposes_takes len room zero bytes x fits e =
    let same : ([], bytes) ≡ x = cc e in
    subst (λ (y : List (List ℕ) × List ℕ). TakesPurposes zero room bytes y.0 y.1) same (record {
      takes = record { parts = refl; rest_fits = fits };
      count = refl;
      short = omega arith;
      texts = refl;
    })
purposes_takes len room (suc n) bytes x fits e =
    let b0 = bind_ok (purpose_at len room bytes) (λ first. purposes_at len (room - length first.0) n first.1 >>= (λ others. Ok (first.0 ∷ others.0, others.1))) x e in
    let t0 = told_ok (wrong len bytes) room (purpose_front bytes) b0.0 b0.1 in
    let first = front_takes bytes b0.0 fits t0.0 in
    let b1 = bind_ok (purposes_at len (room - length b0.0.0) n b0.0.1) (λ others. Ok (b0.0.0 ∷ others.0, others.1)) x b0.2 in
    let others = purposes_takes len (room - length b0.0.0) n b0.0.1 b1.0 first.takes.rest_fits b1.1 in
    let same : (b0.0.0 ∷ b1.0.0, b1.0.1) ≡ x = cc b1.2 in
    subst (λ (y : List (List ℕ) × List ℕ). TakesPurposes (suc n) room bytes y.0 y.1) same (one_more n room bytes b0.0.0 b0.0.1 b1.0.1 b1.0.0 first t0.1 others)

-- ---- the count

pub record TakesCount (bytes : List ℕ) (n : ℕ) (rest : List ℕ) : Type 0 where
  pub takes : Takes bytes (to_be_bytes w32 n) rest
  pub least : 1 ≤ n
  pub most : n ≤ MAX_WIRE_PURPOSES

limits_ok : (low high : Bool) (why : BadRequest) (x y : ℕ × List ℕ) → cond (low && high) (Ok x) (Err why) ≡ Ok y → (low ≡ true) × (high ≡ true) × (x ≡ y)
limits_ok true true why x y e = (refl, refl, cc)
limits_ok true false why x y e = absurd cc
limits_ok false high why x y e = absurd cc

pub count_takes : (len : ℕ) (bytes : List ℕ) (x : ℕ × List ℕ) → AreBytes bytes → count_at len bytes ≡ Ok x → TakesCount bytes x.0 x.1
unfolding count_at
count_takes len bytes x fits e =
    let b = bind_ok (bytes_at len 4 bytes) (λ f. cond (leb 1 (from_be_bytes w32 f.0) && leb (from_be_bytes w32 f.0) MAX_WIRE_PURPOSES) (Ok (from_be_bytes w32 f.0, f.1)) (Err (wrong len bytes))) x e in
    let t = bytes_takes len 4 bytes b.0 fits b.1 in
    let n = from_be_bytes w32 b.0.0 in
    let g = limits_ok (leb 1 n) (leb n MAX_WIRE_PURPOSES) (wrong len bytes) (n, b.0.1) x b.2 in
    let written : to_be_bytes w32 n ≡ b.0.0 = be_bytes_4 b.0.0 _ t.len t.front_fits refl in
    subst (λ (y : ℕ × List ℕ). TakesCount bytes y.0 y.1) g.2 (record {
      takes = subst (λ (f : List ℕ). Takes bytes f b.0.1) (sym written) t.takes;
      least = leb-true _ _ g.0;
      most = leb-true _ _ g.1;
    })

-- ---- a chain

pub record TakesChain (bytes : List ℕ) (chain : List (List ℕ)) (rest : List ℕ) : Type 0 where
  pub takes : Takes bytes (chain_field chain) rest
  pub lawful : IsWireChain chain

chain_parts : (n : ℕ) (bytes purposes rest : List ℕ) (chain : List (List ℕ)) → TakesCount bytes n purposes → TakesPurposes n MAX_WIRE_CHAIN purposes chain rest → TakesChain bytes chain rest
chain_parts n bytes purposes rest chain count others = record {
  takes = record {
    parts = rw (others.count) (then bytes (to_be_bytes w32 n) purposes (flat_map purpose_field chain) rest count.takes.parts others.takes.parts);
    rest_fits = others.takes.rest_fits;
  };
  lawful = record {
    some = omega (arith, others.count, count.least);
    few = omega (arith, others.count, count.most);
    short = others.short;
    texts = others.texts;
  };
}

pub chain_takes : (len : ℕ) (bytes : List ℕ) (x : List (List ℕ) × List ℕ) → AreBytes bytes → chain_at len bytes ≡ Ok x → TakesChain bytes x.0 x.1
unfolding chain_at
chain_takes len bytes x fits e =
    let b = bind_ok (count_at len bytes) (λ c. purposes_at len MAX_WIRE_CHAIN c.0 c.1) x e in
    let count = count_takes len bytes b.0 fits b.1 in
    let others = purposes_takes len MAX_WIRE_CHAIN b.0.0 b.0.1 x count.takes.rest_fits b.2 in
    chain_parts b.0.0 bytes b.0.1 x.1 x.0 count others

-- ---- what stands in the bytes is read

pub front_again : (text rest : List ℕ) → length text < 2 ^ 32 → is_utf8 text ≡ true → purpose_front (purpose_field text ++ rest) ≡ Some (text, rest)
unfolding purpose_front
front_again text rest small is =
    let le : length text ≤ length (text ++ rest) = omega (arith, length-append text rest) in
    rw (append_assoc (seven (length text)) text rest, seven_again (length text) (text ++ rest) small) (counted_some (length text, text ++ rest) text rest le (sym (take_at text rest _ refl)) (sym (drop_at text rest _ refl)) is)

pub purposes_again : (chain : List (List ℕ)) (rest : List ℕ) → bytes_of chain < 2 ^ 32 → list_all is_utf8 chain ≡ true → purposes_of (length chain) (flat_map purpose_field chain ++ rest) ≡ chain
purposes_again [] rest small texts = refl
purposes_again (text ∷ chain) rest small texts =
    let t = and_parts (is_utf8 text) (list_all is_utf8 chain) texts in
    let all = sum_by-cons length text chain in
    let again = purposes_again chain rest (omega arith) t.1 in
    rw (append_assoc (purpose_field text) (flat_map purpose_field chain) rest, front_again text (flat_map purpose_field chain ++ rest) (omega arith) t.0) (ap (λ (c : List (List ℕ)). text ∷ c) again)

-- the chain in the bytes of one
pub chain_of-field : (chain : List (List ℕ)) → IsWireChain chain → chain_of (chain_field chain) ≡ chain
unfolding chain_of
chain_of-field chain is =
    let count : from_be_bytes w32 (to_be_bytes w32 (length chain)) ≡ length chain = from_be_bytes-to_be_bytes_4 (length chain) (omega (arith, is.few)) in
    let purposes : drop 4 (chain_field chain) ≡ flat_map purpose_field chain ++ [] = drop_at (to_be_bytes w32 (length chain)) (flat_map purpose_field chain) 4 refl ∙ sym (append-nil (flat_map purpose_field chain)) in
    ap (λ (b : List ℕ). purposes_of (from_be_bytes w32 b) (drop 4 (chain_field chain))) (take_at (to_be_bytes w32 (length chain)) (flat_map purpose_field chain) 4 refl)
    ∙ ap (λ (n : ℕ). purposes_of n (drop 4 (chain_field chain))) count
    ∙ ap (purposes_of (length chain)) purposes
    ∙ purposes_again chain [] (omega (arith, is.short)) is.texts

-- ---- a chain that stands in the bytes is read

count_again : (len n : ℕ) (rest : List ℕ) → 1 ≤ n → n ≤ MAX_WIRE_PURPOSES → count_at len (to_be_bytes w32 n ++ rest) ≡ Ok (n, rest)
unfolding count_at
count_again len n rest some few =
    rw (bytes_again len 4 (to_be_bytes w32 n) rest refl, from_be_bytes-to_be_bytes_4 n (omega arith), le-leb 1 n some, le-leb n MAX_WIRE_PURPOSES few) refl

purpose_again : (len room : ℕ) (text rest : List ℕ) → length text ≤ room → room < 2 ^ 32 → is_utf8 text ≡ true → purpose_at len room (purpose_field text ++ rest) ≡ Ok (text, rest)
unfolding purpose_at
purpose_again len room text rest le small is = rw (front_again text rest (omega arith) is, le-leb _ _ le) refl

purposes_at_again : (len room : ℕ) (chain : List (List ℕ)) (rest : List ℕ) → bytes_of chain ≤ room → room < 2 ^ 32 → list_all is_utf8 chain ≡ true → purposes_at len room (length chain) (flat_map purpose_field chain ++ rest) ≡ Ok (chain, rest)
purposes_at_again len room [] rest short small texts = refl
purposes_at_again len room (text ∷ chain) rest short small texts =
    let t = and_parts (is_utf8 text) (list_all is_utf8 chain) texts in
    let all = sum_by-cons length text chain in
    let again = purposes_at_again len (room - length text) chain rest (omega arith) (omega arith) t.1 in
    rw (append_assoc (purpose_field text) (flat_map purpose_field chain) rest, purpose_again len room text (flat_map purpose_field chain ++ rest) (omega arith) small t.0, again) refl

pub chain_again : (len : ℕ) (chain : List (List ℕ)) (rest : List ℕ) → IsWireChain chain → chain_at len (chain_field chain ++ rest) ≡ Ok (chain, rest)
unfolding chain_at
chain_again len chain rest is =
    rw (append_assoc (to_be_bytes w32 (length chain)) (flat_map purpose_field chain) rest, count_again len (length chain) (flat_map purpose_field chain ++ rest) is.some is.few)
    (purposes_at_again len MAX_WIRE_CHAIN chain rest is.short (omega arith) is.texts)

-- ---- a view of the bytes that were read

behind_ok : (r : Read) (rest : List ℕ) → Ok rest ≡ behind r → (chain : List (List ℕ)) × (r ≡ Ok (chain, rest))
behind_ok (Ok x) rest e = (x.0, let same : x.1 ≡ rest = cc e in ap (λ (t : List ℕ). read x.0 t) same)
behind_ok (Err why) rest e = absurd cc

-- the bytes before the rest are a chain, which is read
pub record Views (len : ℕ) (bytes rest : List ℕ) : Type 0 where
  pub short : length rest ≤ length bytes
  pub is : IsChainField (take (length bytes - length rest) bytes)
  pub told : chain_at len bytes ≡ Ok (chain_of (take (length bytes - length rest) bytes), rest)

pub views : (len n : ℕ) (bytes purposes rest : List ℕ) → AreBytes bytes → Ok (n, purposes) ≡ count_at len bytes → Ok rest ≡ behind (purposes_at len MAX_WIRE_CHAIN n purposes) → Views len bytes rest
unfolding chain_at
views len n bytes purposes rest fits count others =
    let b = behind_ok (purposes_at len MAX_WIRE_CHAIN n purposes) rest others in
    let told : chain_at len bytes ≡ Ok (b.0, rest) = rw (sym count) b.1 in
    let t = chain_takes len bytes (b.0, rest) fits told in
    let lengths : length bytes ≡ length (chain_field b.0) + length rest = ap length t.takes.parts ∙ length-append (chain_field b.0) rest in
    let front : take (length bytes - length rest) bytes ≡ chain_field b.0 = ap (take (length bytes - length rest)) t.takes.parts ∙ take_at (chain_field b.0) rest _ (omega arith) in
    let chain : chain_of (take (length bytes - length rest) bytes) ≡ b.0 = ap chain_of front ∙ chain_of-field b.0 t.lawful in
    record {
      short = omega arith;
      is = record {
        parts = front ∙ ap chain_field (sym chain);
        chain = subst IsWireChain (sym chain) t.lawful;
      };
      told = told ∙ ap (λ (c : List (List ℕ)). read c rest) (sym chain);
    }

pub wrong_purposes : (len n : ℕ) (bytes purposes : List ℕ) (why : BadRequest) → Ok (n, purposes) ≡ count_at len bytes → Err why ≡ behind (purposes_at len MAX_WIRE_CHAIN n purposes) → chain_at len bytes ≡ Err why
unfolding chain_at
wrong_purposes len n bytes purposes why count others = rw (sym count) (by (purposes_at len MAX_WIRE_CHAIN n purposes) others)
  where
    by : (r : Read) → Err why ≡ behind r → r ≡ Err why
    by (Ok x) e = absurd cc
    by (Err y) e = cc
