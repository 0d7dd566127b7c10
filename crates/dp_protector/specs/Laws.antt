-- What holds of protecting and unprotecting at any nodes: of the rings of any lists, at any moments.
use Rattle.std.specs.Prelude.{◌≡◌, ◌≢◌, ◌↔◌, ℕ, ◌<◌, ◌^◌, ◌&&◌, Bool, false, not, IsTrue, List, length, take, drop, slice_get, Some, None, Ok}
use Rattle.dp_base.specs.declared.alg.Alg.{Alg}
use Rattle.dp_base.specs.Blocks.{AreBytes}
use Rattle.dp_base.specs.Lengths.{iv_len}
use Rattle.key_elements.specs.declared.element.Element.{Element}
use Rattle.key_elements.specs.declared.element.KeyRecord.{KeyRecord}
use Rattle.key_elements.specs.Lists.{Extends}
use Rattle.context_header.specs.Keys.{KeyPair}
use Rattle.payload_view.specs.Payload.{Parts}
use Rattle.dp_encryptor.specs.Body.{Opens, enciphered, subkeys, tag}
use Rattle.purpose_chain.specs.Chain.{IsChain, aad}
use Rattle.key_ring.specs.Keys.{is_named, is_revoked, is_usable, keys_of}
use Rattle.key_ring.specs.Ring.{RingOf, default_key}
use Rattle.key_ring.specs.State.{State, lookup_of}
use Rattle.dp_protector.specs.Algorithms.{alg_of}
use Rattle.dp_protector.specs.Payload.{secret}
use Rattle.dp_protector.specs.Protect.{draw_len, sealing}
use Rattle.dp_protector.specs.Opening.{Opening, id_in, open_parts, opened}
use Rattle.dp_protector.specs.Text.{payload_of, text_of}

-- the ring seals the text under its default key, by these bytes drawn, as this payload
pub record Seals (ring : RingOf) (chain : List (List ℕ)) (drawn text payload : List ℕ) (key : KeyRecord) : Type 0 where
  pub is : default_key ring.list ring.made_at ≡ Some key
  pub id : key.id.0 < 2 ^ 128
  pub len : length drawn ≡ draw_len ring
  pub drawn_are : AreBytes drawn
  pub text_are : AreBytes text
  pub sealed : sealing ring chain drawn text ≡ Ok payload

-- the ring of a node holds a key of the same id, code and material, unrevoked or allowed
pub record Holds (node : RingOf) (key : KeyRecord) (allow : Bool) (s : State) : Type 0 where
  pub held : lookup_of node.list node.made_at key.id.0 ≡ Some s
  pub unbarred : (s.revoked && not allow) ≡ false
  pub alg : s.key.alg ≡ key.alg
  pub material : s.key.material ≡ key.material

-- what was sealed at one node opens at every node that holds its key
abbrev pub OpensAtEveryNode : Type 0
OpensAtEveryNode = (ring node : RingOf) (chain : List (List ℕ)) (drawn text payload : List ℕ) (key : KeyRecord) (allow : Bool) (s : State)
    → Seals ring chain drawn text payload key → Holds node key allow s
    → opened node chain payload allow ≡ Ok (record { plain = text; revoked = s.revoked; default_changed = not s.is_default })

-- a payload opens for another chain only where the two tags are equal though the authenticated data differ
abbrev pub OpensForOneChain : Type 0
OpensForOneChain = (ring node : RingOf) (chain other : List (List ℕ)) (drawn text payload : List ℕ) (key : KeyRecord) (allow : Bool) (s : State) (o : Opening) (alg : Alg)
    → Seals ring chain drawn text payload key → Holds node key allow s → IsChain chain → IsChain other → chain ≢ other
    → opened node other payload allow ≡ Ok o → alg_of key.alg ≡ Some alg
    → let sealer = subkeys (secret alg key) (aad key.id.0 chain) (take 16 drawn) in
    let opener = subkeys (secret alg key) (aad key.id.0 other) (take 16 drawn) in
    let c = enciphered alg sealer.encryption (drop 16 drawn) text in
    (aad key.id.0 chain ≢ aad key.id.0 other) × (tag alg sealer (drop 16 drawn) c ≡ tag alg opener (drop 16 drawn) c)

-- where a list revokes an id, no ring of a list that extends it opens a payload of the id without the flag
abbrev pub StaysShut : Type 0
StaysShut = (es : List Element) (ring : RingOf) (chain : List (List ℕ)) (payload : List ℕ) (o : Opening)
    → Extends ring.list es → IsTrue (is_named es (id_in payload).0) → opened ring chain payload false ≡ Ok o → ⊥

-- where it revokes the record that the ring holds of the id, the same
abbrev pub RecordStaysShut : Type 0
RecordStaysShut = (es : List Element) (ring : RingOf) (chain : List (List ℕ)) (payload : List ℕ) (o : Opening) (s : State)
    → Extends ring.list es → lookup_of ring.list ring.made_at (id_in payload).0 ≡ Some s → IsTrue (is_revoked es s.key)
    → opened ring chain payload false ≡ Ok o → ⊥

-- a default key is usable and unrevoked
abbrev pub DefaultIsSound : Type 0
DefaultIsSound = (es : List Element) (t : ℕ) (key : KeyRecord) → default_key es t ≡ Some key
    → IsTrue (is_usable key) × (is_revoked es key ≡ false)

-- where there is none, no key is usable and unrevoked
abbrev pub NoneIsSound : Type 0
NoneIsSound = (es : List Element) (t place : ℕ) (key : KeyRecord) → default_key es t ≡ None
    → slice_get (keys_of es) place ≡ Some key → (is_usable key && not (is_revoked es key)) ≡ false

-- what a body opens to as a value is the text of bytes that has this body
abbrev pub BodyHasOneText : Type 0
BodyHasOneText = (alg : Alg) (keys : KeyPair) (parts : Parts) (text : List ℕ)
    → length parts.iv ≡ iv_len alg → AreBytes parts.iv → AreBytes parts.enciphered
    → (open_parts alg keys parts ≡ Some text) ↔ (Opens alg keys parts text × AreBytes text)

-- a payload has one text
abbrev pub PayloadHasOneText : Type 0
PayloadHasOneText = (text payload : List ℕ) → AreBytes text → AreBytes payload
    → (payload_of text ≡ Some payload) ↔ (text ≡ text_of payload)
