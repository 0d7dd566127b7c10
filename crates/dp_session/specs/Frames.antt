-- The frames of a session's input, and where input is no further frame.
use Rattle.std.specs.Prelude.{◌≡◌, ℕ, ◌+◌, ◌<◌, ◌≤◌, nat_lt, if◌then◌else◌, List, [], length, take, drop, Option, Some, None, IfSome, Result, Ok, Err}
use Rattle.std.specs.List.{flat_map, AllByRecursion}
use Rattle.std.specs.Int.{w32, from_be_bytes}
use Rattle.std.specs.Io.KnownBytes.{Consumes}
use Rattle.dp_base.specs.Transfer.{TakesFewer}
use Rattle.dp_wire.specs.Frame.{frame, IsBodyLen}
use Rattle.dp_wire.specs.declared.frame.TheConstants.{MAX_BODY}
use Rattle.dp_wire.specs.declared.frame.FrameRefused.{FrameRefused}
use Rattle.dp_wire.specs.declared.frame.FrameRefused.TheVariants as refused
use Rattle.std.specs.declared.vec.Vec.{Vec}
use Rattle.std.specs.declared.alloc.Global.{Global}
use Rattle.dp_session.specs.declared.reading.Body.{Body}
use Rattle.dp_session.specs.declared.reading.Frame.{Frame}
use Rattle.dp_session.specs.declared.reading.Frame.TheVariants as read
use Rattle.dp_session.specs.declared.reading.Unread.{Unread}
use Rattle.dp_session.specs.declared.reading.Unread.TheVariants as unread
use Rattle.dp_session.specs.declared.end.BadWhy.{BadWhy}
use Rattle.dp_session.specs.declared.end.BadWhy.TheVariants.{Element, TooMany, Zero, TooLarge, Cut}

-- the frames of bodies, one after the other
abbrev pub frames : List (List ℕ) → List ℕ
frames bodies = flat_map frame bodies

-- each has the length of a request's body
abbrev pub AreBodies : List (List ℕ) → Type 0
AreBodies bodies = AllByRecursion (λ body. IsBodyLen (length body)) bodies

-- the bytes are whole frames, of so many bodies at the most
abbrev pub AreWhole : ℕ → List ℕ → Type 0
AreWhole most bytes =
    (bodies : List (List ℕ)) × AreBodies bodies × (length bodies ≤ most) × (bytes ≡ frames bodies)

-- the length that the first four bytes give
abbrev pub head_len : List ℕ → ℕ
head_len bytes = from_be_bytes w32 (take 4 bytes)

-- what is wrong with a frame of such a length
abbrev pub why_of : FrameRefused → BadWhy
why_of refused.Zero = Zero
why_of (refused.TooLarge len) = TooLarge len

-- a length that no request's body has
abbrev pub IsBadLen : ℕ → BadWhy → Type 0
IsBadLen n (Element why) = ⊥
IsBadLen n TooMany = ⊥
IsBadLen n Zero = n ≡ 0
IsBadLen n (TooLarge len) = (len ≡ n) × (MAX_BODY < len)
IsBadLen n (Cut have want) = ⊥

-- how many bytes their first frame has, with those of its length; 4 where these aren't all there
abbrev pub frame_len : List ℕ → ℕ
frame_len bytes = if nat_lt (length bytes) 4 then 4 else 4 + head_len bytes

-- the bytes begin with a length that no request's body has, or end in their first frame
abbrev pub IsBadFrame : List ℕ → BadWhy → Type 0
IsBadFrame bytes (Element why) = ⊥
IsBadFrame bytes TooMany = ⊥
IsBadFrame bytes Zero = (4 ≤ length bytes) × IsBadLen (head_len bytes) Zero
IsBadFrame bytes (TooLarge len) = (4 ≤ length bytes) × IsBadLen (head_len bytes) (TooLarge len)
IsBadFrame bytes (Cut have want) =
    (have ≡ length bytes) × (0 < have) × (have < want) × (want ≡ frame_len bytes)
    × (4 ≤ have → IsBodyLen (head_len bytes))

-- what is left behind a bad frame: all but the four bytes of its length, or nothing where it is cut
abbrev pub rest_behind : BadWhy → List ℕ → List ℕ
rest_behind Zero bytes = drop 4 bytes
rest_behind (TooLarge len) bytes = drop 4 bytes
rest_behind _ bytes = []

-- a bad frame stands next, of which no more was taken than tells so
abbrev pub RefusesFrame : BadWhy → Option (List ℕ) → Option (List ℕ) → Type 0
RefusesFrame why left after =
    IfSome left (λ bytes. IsBadFrame bytes why × (after ≡ Some (rest_behind why bytes)))

-- no byte, or some bytes of one frame, but not all
abbrev pub IsPart : List ℕ → Type 0
IsPart bytes = (length bytes < frame_len bytes) × (4 ≤ length bytes → IsBodyLen (head_len bytes))

-- at most a part of the next frame was taken
abbrev pub TakesPart : Option (List ℕ) → Option (List ℕ) → Type 0
TakesPart left after = (taken : List ℕ) × IsPart taken × Consumes left after taken

-- the bytes that are kept, where they are
abbrev pub IsKept : Option (Vec ℕ Global) → List ℕ → Type 0
IsKept None bytes = Unit {0}
IsKept (Some kept) bytes = kept.items ≡ bytes

-- a body was read: its bytes, kept or not
abbrev pub Reads : Body → List ℕ → Type 0
Reads body bytes = (body.len ≡ length bytes) × IsKept body.kept bytes

-- what was read where a body of so many bytes is to stand: it; or too few bytes are left, and all were
-- taken; or a read failed, and fewer were taken
abbrev pub ReadsBody : ℕ → Result Body Unread → Option (List ℕ) → Option (List ℕ) → Type 0
ReadsBody len (Ok body) left after =
    (bytes : List ℕ) × (length bytes ≡ len) × Reads body bytes × Consumes left after bytes
ReadsBody len (Err (unread.Bad why)) left after =
    IfSome left (λ bytes. (length bytes < len) × (why ≡ Cut (4 + length bytes) (4 + len)) × (after ≡ Some []))
ReadsBody len (Err unread.Failed) left after = TakesFewer len left after

-- what was read where a frame is to stand: the input ends there; it; it is none; or a read failed
-- before it was whole
abbrev pub ReadsFrame : Result Frame Unread → Option (List ℕ) → Option (List ℕ) → Type 0
ReadsFrame (Ok read.End) left after = IfSome left (λ bytes. (bytes ≡ []) × (after ≡ Some []))
ReadsFrame (Ok (read.Whole body)) left after =
    (bytes : List ℕ) × IsBodyLen (length bytes) × Reads body bytes × Consumes left after (frame bytes)
ReadsFrame (Err (unread.Bad why)) left after = RefusesFrame why left after
ReadsFrame (Err unread.Failed) left after = TakesPart left after
