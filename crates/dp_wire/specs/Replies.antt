-- Replies: a code, and what stands behind it (docs/FORMATS.md, "Replies").
use Rattle.std.specs.Prelude.{ℕ, ◌+◌, Bool, if◌then◌else◌, List, [], ◌∷◌, ◌++◌}
use Rattle.std.specs.Int.{w32, to_be_bytes}
use Rattle.dp_base.specs.Guid.{guid}
use Rattle.dp_wire.specs.Request.{field}
use Rattle.dp_wire.specs.declared.reply.Reply.{Reply}
use Rattle.dp_wire.specs.declared.reply.Reply.TheVariants as replies

-- bit 0 is set where the key is revoked, and bit 1 where it isn't the default key
abbrev pub flags : Bool → Bool → ℕ
flags revoked default_changed = (if revoked then 1 else 0) + (if default_changed then 2 else 0)

-- the first byte
abbrev pub reply_code : Reply → ℕ
reply_code (replies.Ring front listing) = 0
reply_code (replies.Rolled front id) = 0
reply_code (replies.Revoked front) = 0
reply_code (replies.RevokedBefore front) = 0
reply_code (replies.Protected front payload) = 0
reply_code (replies.ProtectedText front text) = 0
reply_code (replies.ProtectedTimed front payload) = 0
reply_code (replies.Unprotected front revoked default_changed plain) = 0
reply_code (replies.UnprotectedText front revoked default_changed text) = 0
reply_code (replies.UnprotectedTimed front revoked default_changed expiry plain) = 0
reply_code (replies.BadRequest place) = 1
reply_code replies.NoMemory = 2
reply_code replies.StoreFault = 3
reply_code replies.DrawFault = 4
reply_code (replies.WentBack had got) = 5
reply_code (replies.Behind have need) = 6
reply_code (replies.Forked at) = 7
reply_code (replies.Full count) = 8
reply_code replies.BadDates = 9
reply_code (replies.BadHeader front) = 10
reply_code (replies.BadVersion front) = 11
reply_code (replies.KeyNotFound front id) = 12
reply_code (replies.KeyRevoked front id) = 13
reply_code (replies.KeyUnusable front id) = 14
reply_code (replies.Tampered front) = 15
reply_code (replies.Invalid front) = 16
reply_code (replies.Expired front at) = 17
reply_code (replies.NoDefaultKey front) = 18
reply_code (replies.TooLong front len) = 19
reply_code (replies.BadText front) = 20
reply_code (replies.NotText front) = 21

-- what stands behind it
abbrev pub reply_fields : Reply → List ℕ
reply_fields (replies.Ring front listing) = field front ++ listing.now
reply_fields (replies.Rolled front id) = field front ++ guid id.0
reply_fields (replies.Revoked front) = field front
reply_fields (replies.RevokedBefore front) = field front
reply_fields (replies.Protected front payload) = field front ++ payload.now
reply_fields (replies.ProtectedText front text) = field front ++ text.now
reply_fields (replies.ProtectedTimed front payload) = field front ++ payload.now
reply_fields (replies.Unprotected front revoked default_changed plain) =
    field front ++ flags revoked default_changed ∷ plain.now
reply_fields (replies.UnprotectedText front revoked default_changed text) =
    field front ++ flags revoked default_changed ∷ text.now
reply_fields (replies.UnprotectedTimed front revoked default_changed expiry plain) =
    field front ++ flags revoked default_changed ∷ (field expiry ++ plain.now)
reply_fields (replies.BadRequest place) = to_be_bytes w32 place
reply_fields replies.NoMemory = []
reply_fields replies.StoreFault = []
reply_fields replies.DrawFault = []
reply_fields (replies.WentBack had got) = field had ++ field got
reply_fields (replies.Behind have need) = field have ++ field need
reply_fields (replies.Forked at) = field at
reply_fields (replies.Full count) = field count
reply_fields replies.BadDates = []
reply_fields (replies.BadHeader front) = field front
reply_fields (replies.BadVersion front) = field front
reply_fields (replies.KeyNotFound front id) = field front ++ guid id.0
reply_fields (replies.KeyRevoked front id) = field front ++ guid id.0
reply_fields (replies.KeyUnusable front id) = field front ++ guid id.0
reply_fields (replies.Tampered front) = field front
reply_fields (replies.Invalid front) = field front
reply_fields (replies.Expired front at) = field front ++ field at
reply_fields (replies.NoDefaultKey front) = field front
reply_fields (replies.TooLong front len) = field front ++ field len
reply_fields (replies.BadText front) = field front
reply_fields (replies.NotText front) = field front

-- the body of a reply
unfoldable pub reply_body : Reply → List ℕ
reply_body reply = reply_code reply ∷ reply_fields reply
