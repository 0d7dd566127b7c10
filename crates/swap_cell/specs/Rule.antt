-- The rule of a cell. What was set is a chain, in which each value extends those before it. All that
-- lies in a slot and all that a seat knows stands on the chain, at its number.
use Rattle.std.specs.Prelude.{◌≡◌, ◌≢◌, ◌⊎◌, ℕ, ◌+◌, ◌*◌, ◌<◌, ◌≤◌, true, List, [], ◌∷◌, length, slice_index, Option, Some, None}
use mathlib.Core.Option.{some}
use lib.ListN.{get_elem?}
use Rattle.atomic_table.specs.Table.{State}
use Rattle.swap_cell.specs.declared.board.Item.{Item}
use Rattle.swap_cell.specs.declared.board.Knowledge.{Knowledge}

-- P holds of each
abbrev pub Each : {A : Type 0} → (A → Type 0) → List A → Type 0
Each P [] = Unit {0}
Each P (x ∷ xs) = P x × Each P xs

-- of any two the first extends the second, or the second the first
abbrev pub InLine : {T : Type 0} → (T → T → Type 0) → List T → Type 0
InLine extends xs = Each (λ x. Each (λ y. extends x y ⊎ extends y x) xs) xs

module _ {T : Type 0} where
  -- the item is the value of that number on the chain
  abbrev pub On : List T → Item T → Type 0
  On chain x = get_elem? chain x.number ≡ some x.value

  abbrev pub IfOn : List T → Option (Item T) → Type 0
  IfOn chain x = (y : Item T) → x ≡ Some y → On chain y

  abbrev pub seated : List (Knowledge T) → ℕ → Knowledge T → Type 0
  seated views i v = get_elem? views i ≡ some v

  -- what one seat knows is so
  pub record Fits (chain : List T) (words : List ℕ) (v : Knowledge T) : Type 0 where
    pub knows : Each (λ k. On chain k × (k.number ≤ v.most)) v.known
    pub mine : IfOn chain v.mine
    pub found : IfOn chain v.found
    pub has : (r : ℕ) → v.slot ≡ r + 1 → slice_index words (16 * r) ≢ 0
    pub all : v.sets ≡ true → v.chain ≡ chain

  module _ (extends : T → T → Type 0) where
    -- each value extends those before it, and itself
    abbrev pub IsGrowing : List T → Type 0
    IsGrowing chain = (i j : ℕ) (x y : T) → i ≤ j → get_elem? chain i ≡ some x → get_elem? chain j ≡ some y → extends y x

    pub record Rules (chain : List T) (s : State (Item T) (Knowledge T)) : Type 0 where
      pub grows : IsGrowing chain
      pub wide : length s.words ≡ 16 * length s.homes
      -- a slot whose word is 0 is at home
      pub home : (r : ℕ) → r < length s.homes → slice_index s.words (16 * r) ≡ 0 → (y : Item T) × (get_elem? s.homes r ≡ some (some y)) × On chain y
      pub each : (i : ℕ) (v : Knowledge T) → seated s.views i v → Fits chain s.words v
      -- no slot is out with two seats, and one seat at most is the setter
      pub own : (i j : ℕ) (v w : Knowledge T) → seated s.views i v → seated s.views j w → 0 < v.slot → v.slot ≡ w.slot → i ≡ j
      pub one : (i j : ℕ) (v w : Knowledge T) → seated s.views i v → seated s.views j w → v.sets ≡ true → w.sets ≡ true → i ≡ j

    abbrev pub Kept : State (Item T) (Knowledge T) → Type 0
    Kept s = (chain : List T) × Rules chain s

  abbrev pub item : T → ℕ → Item T
  item value number = record { value = value; number = number }

  -- the seat that sets, after the first value
  abbrev pub setter : T → Knowledge T
  setter first = record {
    known = item first 0 ∷ [];
    most = 0;
    mine = Some (item first 0);
    found = None;
    slot = 0;
    sets = true;
    chain = first ∷ [];
  }
