-- After a revocation that a caller had seen, or asks for by its place, no payload of the key opens.
use Rattle.std.specs.Prelude.{◌≡◌, ◌≢◌, ◌==◌, ℕ, max, false, find, IsTrue, List, [], ◌∷◌, take, Option, Some, None, option_map, Ok}
use Rattle.dp_base.specs.declared.key_id.KeyId.{KeyId}
use Rattle.key_elements.specs.declared.element.Element.{Element}
use Rattle.key_elements.specs.declared.element.KeyRecord.{KeyRecord}
use Rattle.key_ring.specs.Keys.{is_named, is_revoked, keys_of}
use Rattle.dp_protector.specs.Opening.{id_in}
use Rattle.dp_protector.specs.Text.{payload_of}
use Rattle.dp_wire.specs.Reading.{request_at}
use Rattle.dp_wire.specs.Request.{Request, Unprotect, UnprotectText, UnprotectTimed}
use Rattle.dp_answer.specs.declared.trace.Entry.{Entry}
use Rattle.dp_answer.specs.Replies.{reply_to}
use Rattle.dp_session.specs.Session.{front_of}

-- the id in the payload that a request is to open, where it doesn't allow revoked keys
abbrev pub barred_id : Request → Option KeyId
barred_id (Unprotect need false chain payload) = Some (id_in payload)
barred_id (UnprotectText need false chain text) = option_map id_in (payload_of text)
barred_id (UnprotectTimed need false chain payload) = Some (id_in payload)
barred_id _ = None

-- what the caller had seen before the request, or asked for by its number: a front of the session's
-- list
abbrev pub known_to : Entry → List Element → List Element
known_to e list = take (max e.seen e.need) list

-- the reply to the request of the body isn't OK
abbrev pub IsUnopened : List ℕ → Request → Entry → List Element → Type 0
IsUnopened app p e list =
    (rest : List ℕ) → reply_to app e.now (Ok p) e.used e.drawn (take (front_of e.used) list) ≢ 0 ∷ rest

-- where what the caller knew revokes the id, or the record that the ring holds of it, the payload
-- isn't opened
pub record IsShut (app body : List ℕ) (e : Entry) (list : List Element) : Type 0 where
  pub id : (p : Request) (id : KeyId) → request_at body ≡ Ok p → barred_id p ≡ Some id
      → IsTrue (is_named (known_to e list) id.0) → IsUnopened app p e list
  pub record_of : (p : Request) (id : KeyId) (k : KeyRecord) → request_at body ≡ Ok p → barred_id p ≡ Some id
      → find (λ j. j.id.0 == id.0) (keys_of (take (front_of e.used) list)) ≡ Some k
      → IsTrue (is_revoked (known_to e list) k) → IsUnopened app p e list

-- so it is with each request of a session
abbrev pub AreShut : List ℕ → List (List ℕ) → List Entry → List Element → Type 0
AreShut app [] es list = Unit {0}
AreShut app (b ∷ bodies) [] list = Unit {0}
AreShut app (b ∷ bodies) (e ∷ es) list = IsShut app b e list × AreShut app bodies es list
