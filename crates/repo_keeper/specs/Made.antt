-- The elements that are made (docs/FORMATS.md, "Element records").
use Rattle.std.specs.Prelude.{◌⊎◌, ℕ, ◌<◌, ◌≤◌, List, take, drop}
use Rattle.dp_base.specs.declared.ticks.TheConstants.{MAX_TICKS}
use Rattle.dp_base.specs.Guid.{drawn_id}
use Rattle.key_elements.specs.declared.element.Element.{Element}
use Rattle.key_elements.specs.declared.element.Element.TheVariants.{Key}

-- the key of eighty bytes drawn: sixteen for its id, and then its material
unfoldable pub key_of_draw : List ℕ → ℕ → ℕ → ℕ → ℕ → Element
key_of_draw bytes creation activation expiration code = Key (record {
  id = record { 0 = drawn_id (take 16 bytes) };
  creation = creation;
  activation = activation;
  expiration = expiration;
  alg = code;
  material = drop 16 bytes;
})

-- a key would end before it begins, or a date is above the greatest
abbrev pub AreBadDates : ℕ → ℕ → ℕ → Type 0
AreBadDates creation activation expiration =
    (expiration ≤ activation) ⊎ (MAX_TICKS < creation) ⊎ (MAX_TICKS < expiration)
