-- The layout of a GUID in .NET: the sixteen bytes of the number, high byte first, with the first
-- four, the next two and the next two each in reverse (System.Guid.ToByteArray).
use Rattle.std.specs.Prelude.{ℕ, List}
use Rattle.std.specs.Int.{w128, to_be_bytes, from_be_bytes}
use Rattle.uuid.specs.Parts.{swap_fields, with_version, with_variant}
use Rattle.uuid.specs.declared.Variant.TheVariants.{RFC4122}
use Rattle.uuid.specs.declared.Version.TheVariants.{Random}
use Rattle.uuid.specs.Text.{hyphenated_text, lower}

-- the bytes of an id
unfoldable pub guid : ℕ → List ℕ
guid id = swap_fields (to_be_bytes w128 id)

-- the id of sixteen bytes
unfoldable pub id_of_guid : List ℕ → ℕ
id_of_guid bytes = from_be_bytes w128 (swap_fields bytes)

-- the text of an id: its bytes as 32 digits of sixteen in lower case, with a hyphen after the
-- 8th, the 12th, the 16th and the 20th (RFC 9562, section 4)
unfoldable pub key_text : ℕ → List ℕ
key_text id = hyphenated_text lower (to_be_bytes w128 id)

-- the id of sixteen drawn bytes: they are its canonical bytes, with the version 4 and the variant of
-- RFC 9562 (sections 4.1, 4.2 and 5.4)
unfoldable pub drawn_id : List ℕ → ℕ
drawn_id bytes = from_be_bytes w128 (with_version (with_variant bytes RFC4122) Random)
