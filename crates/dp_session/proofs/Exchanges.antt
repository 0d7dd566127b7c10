-- The turn of a request, from its answer.
use Rattle.std.proofs.Common.{◌≡◌, ℕ, ◌+◌, min, List, [], ◌∷◌, ◌++◌, length, Option, None, Result, Ok, Err, OnOk, OnErr, refl, sym, ap, ◌∙◌, subst, inl}
use Rattle.std.specs.Int.{w32, to_be_bytes}
use Rattle.std.specs.Io.KnownBytes.{Consumes}
use Rattle.std.proofs.lemmas.List.{length-append}
use Rattle.dp_base.specs.declared.ticks.TheConstants.{LAST}
use Rattle.dp_base.specs.Clocks.{ShowsMoment}
use Rattle.dp_base.specs.Draws.{DrawState}
use Rattle.key_elements.specs.declared.element.Element.{Element}
use Rattle.repo_keeper.specs.Store.{Store}
use Rattle.node_calls.specs.HostState.{HostState}
use Rattle.dp_wire.specs.Frame.{frame, IsBodyLen}
use Rattle.dp_session.specs.declared.serving.Exchange.{Exchange}
use Rattle.dp_answer.specs.declared.trace.Entry.{Entry}
use Rattle.dp_answer.specs.declared.trace.Used.{Used}
use Rattle.dp_answer.specs.declared.trace.Used.TheVariants as used
use Rattle.dp_base.specs.declared.want.Memory.{Memory}
use Rattle.key_elements.specs.Lists.{Extends}
use Rattle.ring_world.specs.declared.step.Step.{Step}
use Rattle.dp_wire.specs.Reading.{request_at}
use Rattle.dp_answer.specs.declared.response.Response.{Response}
use Rattle.dp_answer.specs.Needs.{need_of}
use Rattle.dp_answer.specs.Replies.{reply_to}
use Rattle.dp_answer.specs.Serving.{SessionState, state, Serves, Served, before, after, IsListOf}
use Rattle.dp_session.specs.Exchanges.{exchange_of, list_after, reply_bytes, IsExchange}
use Rattle.dp_session.specs.Session.{outside, IsListAfter, OneServed, OneMore}
use Rattle.dp_session.proofs.Drawing.{drew}

pub answered_exchange : (app bytes : List ℕ) (now need seen : ℕ) (steps : List Step) (drawn : List ℕ) (old new : SessionState) (r : Result Response Memory) → Served app (request_at bytes) now r drawn (before old) (after steps new) → need ≡ need_of (request_at bytes) → seen ≡ length old.host.own → Extends new.host.own old.host.own
    → IsExchange app bytes now (exchange_of r now need seen steps drawn) old new
answered_exchange app bytes now need seen steps drawn old new (Ok a) s n l grows = record {
  moment = refl;
  need = inl n;
  seen = l;
  serves = s.0;
  grows = grows;
  reply = s.1;
  list = s.2;
}
answered_exchange app bytes now need seen steps drawn old new (Err w) s n l grows = record {
  moment = refl;
  need = inl n;
  seen = l;
  serves = s;
  grows = grows;
  reply = refl;
  list = refl;
}

list_is : (u : Used) (l : Option (List Element)) (old own : List Element) → IsListOf u l own → IsListAfter u old own (list_after l old)
list_is (used.Ring front made_at) l old own e = ap (λ (x : Option (List Element)). list_after x old) e
list_is (used.Placed place) l old own e = ap (λ (x : Option (List Element)). list_after x old) e
list_is (used.Refused why) l old own e = ap (λ (x : Option (List Element)). list_after x old) e
list_is (used.BadRequest place) l old own e = ap (λ (x : Option (List Element)). list_after x old) e
list_is used.NoMemory l old own e = ap (λ (x : Option (List Element)). list_after x old) e

abbrev Writing : Type 1
Writing = Option (List ℕ) → Option (List ℕ) → List ℕ → Type 0

-- a turn whose entry was kept, and whose reply was written
pub served_one : (app : List ℕ) (writes : Writing) (bytes : List ℕ) (h h' : HostState) (s s' : Store) (d d' : DrawState) (m m' : Option (List ℕ)) (moment now : ℕ) (t : Exchange) (o o' : Option (List ℕ)) (es es' : List Entry) (l l' : List Element)
    → ShowsMoment m m' moment → now ≡ min moment LAST → IsExchange app bytes now t (state h s d None) (state h' s' d' None) → es' ≡ es ++ t.entry ∷ [] → l' ≡ list_after t.list l → writes o o' (reply_bytes t.reply)
    → OneServed app writes bytes (outside None o (state h s d m) es l) (outside None o' (state h' s' d' m') es' l')
served_one app writes bytes h h' s s' d d' m m' moment now t o o' es es' l l' shows at is added list written = record {
  entry = t.entry;
  added = added;
  is = record {
    moment = moment;
    shown = shows;
    now = is.moment ∙ at;
    need = is.need;
    seen = is.seen;
    serves = subst (λ (n : ℕ). Serves (request_at bytes) n t.entry.used t.entry.drawn (before (state h s d None)) (after t.entry.steps (state h' s' d' None))) (sym is.moment) is.serves;
    drew = drew (request_at bytes) now t.entry.used t.entry.drawn (before (state h s d None)) (after t.entry.steps (state h' s' d' None)) is.serves;
    grows = is.grows;
  };
  list = subst (IsListAfter t.entry.used l h'.own) (sym list) (list_is t.entry.used t.list l h'.own is.list);
  written = subst (writes o o') (is.reply ∙ ap (λ (n : ℕ). frame (reply_to app n (request_at bytes) t.entry.used t.entry.drawn h'.own)) (sym is.moment)) written;
}

pub done : {A E : Type 0} {P Q : Type 0} (r : Result A E) → OnOk r P → (P → Q) → OnOk r Q
done (Ok a) h f = f h
done (Err e) h f = tt

pub failed : {A E : Type 0} {P Q : Type 0} (r : Result A E) → OnErr r P → (P → Q) → OnErr r Q
failed (Ok a) h f = tt
failed (Err e) h f = f h

pub length-frame : (bytes : List ℕ) → length (frame bytes) ≡ 4 + length bytes
unfolding frame
length-frame bytes = length-append (to_be_bytes w32 (length bytes)) bytes

-- a frame that was read, and then served
pub one_more : (app : List ℕ) (writes : Writing) (i i' o o' : Option (List ℕ)) (s s' : SessionState) (es0 es es' : List Entry) (l l' : List Element) (len n : ℕ) (bytes : List ℕ) → IsBodyLen (length bytes) → len ≡ length bytes → Consumes i i' (frame bytes) → n ≡ 4 + len → es ≡ es0
    → OneServed app writes bytes (outside None o s es l) (outside None o' s' es' l') → OneMore app writes (outside i o s es0 l) (outside i' o' s' es' l') n
one_more app writes i i' o o' s s' es0 es es' l l' len n bytes fits same read count kept one = record {
  body = bytes;
  fits = fits;
  read = read;
  served = record {
    entry = one.entry;
    added = one.added ∙ ap (λ (x : List Entry). x ++ one.entry ∷ []) kept;
    is = one.is;
    list = one.list;
    written = one.written;
  };
  count = count ∙ ap (λ (x : ℕ). 4 + x) same ∙ sym (length-frame bytes);
}
