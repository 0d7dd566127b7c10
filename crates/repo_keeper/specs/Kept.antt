-- A keeper as clauses see it, and what its calls leave.
use Rattle.std.specs.Prelude.{◌≡◌, ◌⊎◌, ℕ, ◌<◌, List, [], ◌∷◌, ◌++◌, length, Option, Result, Ok, Err, IfSome}
use Rattle.std.specs.Option.{option_map}
use Rattle.std.specs.declared.vec.Vec.{Vec}
use Rattle.std.specs.declared.alloc.Global.{Global}
use Rattle.dp_base.specs.Counts.{one_more}
use Rattle.key_elements.specs.declared.element.Element.{Element}
use Rattle.key_elements.specs.declared.list.TheConstants.{MAX_ELEMENTS}
use Rattle.repo_keeper.specs.declared.keeper.KeeperError.{KeeperError}
use Rattle.repo_keeper.specs.declared.keeper.KeeperError.TheVariants as loads
use Rattle.repo_keeper.specs.declared.keeper.PutError.{PutError}
use Rattle.repo_keeper.specs.declared.keeper.PutError.TheVariants as puts

pub record Kept : Type 0 where
  -- the list, where it is told
  pub list : Option (List Element)
  -- how many calls failed, and answered Short
  pub faults : ℕ
  pub shorts : ℕ

-- a call that failed
abbrev pub failed : Kept → Kept
failed k = record k { faults = one_more k.faults }

-- what a load from a place leaves. The list is the same whatever is answered, and Short names the
-- length, which is below the place
abbrev pub Loaded : ℕ → Result (Vec Element Global) KeeperError → Kept → Kept → Type 0
Loaded from (Ok tail) old new = new ≡ old
Loaded from (Err loads.Failed) old new = new ≡ failed old
Loaded from (Err (loads.Short have)) old new =
    (new ≡ record old { shorts = one_more old.shorts }) × (have < from)
    × IfSome old.list (λ list. length list ≡ have)
Loaded from (Err loads.Memory) old new = new ≡ old

-- the keeper with one element more
abbrev pub with_one : Element → Kept → Kept
with_one e k = record k { list = option_map (λ list. list ++ e ∷ []) k.list }

-- there is room for one element more, where the list is told
abbrev pub HasRoom : Kept → Type 0
HasRoom k = IfSome k.list (λ list. length list < MAX_ELEMENTS)

-- what putting an element leaves: the list ends with it, and after a failure it does or it doesn't
abbrev pub Puts : Element → Result (Unit {0}) PutError → Kept → Kept → Type 0
Puts e (Ok done) old new = (new ≡ with_one e old) × HasRoom old
Puts e (Err puts.Failed) old new =
    (new ≡ failed old) ⊎ ((new ≡ failed (with_one e old)) × HasRoom old)
Puts e (Err puts.Memory) old new = new ≡ old
