-- The .NET layout of an id as the kit's library computes it, and the way back.
use Rattle.std.proofs.Common.{◌≡◌, ℕ, zero, suc, ◌^◌, ◌<◌, List, [], ◌∷◌, length, refl, sym, ap, ◌∙◌, arith}
use Rattle.std.specs.Int.{w128, to_be_bytes, from_be_bytes}
use Rattle.std.specs.List.{AllByRecursion}
use Rattle.uuid.specs.Parts.{swap_fields}
use Rattle.uuid.proofs.OrderLemmas.{from_be_bytes-to_be_bytes_16}
use Rattle.uuid.proofs.RoundTrips.{swap_twice}
use Rattle.dp_base.specs.Blocks.{AreBytes}
use Rattle.dp_base.specs.Guid.{guid, id_of_guid}
use Rattle.dp_base.proofs.Bytes.{be_bytes_16, from_be_bytes-below}

AreBytes-each : (bs : List ℕ) → AllByRecursion (λ b. b < 256) bs → AreBytes bs
AreBytes-each [] each i = omega arith
AreBytes-each (b ∷ bs) each zero = each.0
AreBytes-each (b ∷ bs) each (suc i) = AreBytes-each bs each.1 i

-- bytes put back in order are bytes
AreBytes-swap : (bytes : List ℕ) → AreBytes bytes → AreBytes (swap_fields bytes)
AreBytes-swap bytes fits =
    AreBytes-each (swap_fields bytes)
    (fits 3, (fits 2, (fits 1, (fits 0, (fits 5, (fits 4, (fits 7, (fits 6, (fits 8, (fits 9, (fits 10, (fits 11, (fits 12, (fits 13, (fits 14, (fits 15, tt))))))))))))))))

-- the layout of the id of sixteen bytes is these bytes
pub guid-id_of_guid : (bytes : List ℕ) → length bytes ≡ 16 → AreBytes bytes → guid (id_of_guid bytes) ≡ bytes
unfolding guid id_of_guid
guid-id_of_guid bytes len fits =
    ap swap_fields (be_bytes_16 (swap_fields bytes) refl (AreBytes-swap bytes fits)) ∙ swap_twice bytes len

-- the id of the layout of an id is that id
pub id_of_guid-guid : (id : ℕ) → id < 2 ^ 128 → id_of_guid (guid id) ≡ id
unfolding guid id_of_guid
id_of_guid-guid id lt = ap (from_be_bytes w128) (swap_twice (to_be_bytes w128 id) refl) ∙ from_be_bytes-to_be_bytes_16 id lt

-- a layout has sixteen bytes
pub length-guid : (id : ℕ) → length (guid id) ≡ 16
unfolding guid
length-guid id = refl

-- an id is told by its layout
pub guid-injective : (a b : ℕ) → a < 2 ^ 128 → b < 2 ^ 128 → guid a ≡ guid b → a ≡ b
guid-injective a b p q e = sym (id_of_guid-guid a p) ∙ ap id_of_guid e ∙ id_of_guid-guid b q

-- the id of sixteen bytes is below 2 ^ 128
pub id_of_guid-below : (bytes : List ℕ) → AreBytes bytes → id_of_guid bytes < 2 ^ 128
unfolding id_of_guid
id_of_guid-below bytes fits = from_be_bytes-below (swap_fields bytes) refl (AreBytes-swap bytes fits)
