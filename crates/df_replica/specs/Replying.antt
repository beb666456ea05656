-- A reply of a replica: what it makes, what it asks of the disk, and the state that it leads to. No state of the machine is in sight.
use Rattle.std.specs.{Prelude.{◌≡◌, ◌<◌, ◌≤◌, ◌+◌, ℕ, List, [], ◌∷◌, drop, Option, Some, None, Result, Ok, Err, true}, List.{slice_get}}
use Rattle.df_base.specs.{declared.TheConstants.{HEADER, VERSION}, Log.{Event, Sync, Write}}
use Rattle.df_layout.specs.{Spans.{span_of}, declared.layout.Layout.{Layout}, declared.places.Zone.TheVariants.{ClientReplies}}
use Rattle.df_disk.specs.{Told.{Told}, Adds.{AddsPart, after_all}}
use Rattle.df_format.specs.{declared.header.Header.{Header}, declared.kind.Kind.TheVariants.{Reply as AsReply}, Making.{blank_header}, Message.{Message, sectors_of}, Own.{place_in}}
use Rattle.df_format.specs.Spelling.{no_checksum}
use Rattle.df_sessions.specs.{Requests.{sessions_of}, Table.{with_reply_stored}}
use Rattle.df_theory.specs.Units.{Session}
use Rattle.df_model.specs.{Making.{client_of, place_of_op, request_of}, Refusals.{first_refusal, reply_refusals}, declared.errors.ReplyError.{ReplyError}}
use Rattle.df_model.specs.declared.errors.ReplyError.TheVariants as reply
use Rattle.df_opening.specs.Below.{State, memory}
use Rattle.df_replica.specs.{Appending.{unit_made}, Stopping.{stopped}}

-- the place of the session that waits for the next reply
abbrev pub place_waiting : State → ℕ
place_waiting s = place_of_op (s.replies + 1) (sessions_of s.table.sessions)

abbrev pub session_waiting : State → Option Session
session_waiting s = slice_get (sessions_of s.table.sessions) (place_waiting s)

-- the first of the checksums that wait
abbrev pub first_check : List (List ℕ) → List ℕ
first_check [] = no_checksum
first_check (check ∷ checks) = check

-- what the maker of the next reply says of it: its parent is the prepare that waits the longest
abbrev pub reply_given : State → Header
reply_given s = record (blank_header AsReply s.file.cluster) {
  parent = first_check s.waiting;
  client = client_of (session_waiting s);
  op = s.replies + 1;
  request = request_of (session_waiting s);
  mark = s.head;
  checkpoint = s.fields.sequence;
  slot = place_waiting s;
  version = VERSION;
  boot = s.fields.boot;
}

-- the next reply
abbrev pub next_reply : State → List ℕ → Message
next_reply s body = unit_made (reply_given s) body

-- the reply into its client's slot, and a sync
abbrev pub reply_calls : Layout → Message → List Event
reply_calls layout u = Write (span_of layout (place_in ClientReplies u.header.slot)).first (sectors_of u) ∷ Sync ∷ []

abbrev pub reply_events : State → Message → List Event
reply_events s u = reply_calls s.file.layout u

-- the state with a reply more
abbrev pub with_stored_reply : State → Header → State
with_stored_reply s h = record s {
  replies = s.replies + 1;
  waiting = drop 1 s.waiting;
  table = record s.table { sessions = with_reply_stored h.slot h.checksum s.table.sessions };
}

-- a reply that isn't refused, as far as the code needs it
pub record MayReplyNext (s : State) (size : ℕ) : Type 0 where
  pub live : s.live ≡ true
  pub waits : s.replies < s.head
  pub fits : HEADER + size ≤ s.file.layout.message_size

-- what a reply answers, with the state after it and what the disk then tells: exact for a checksum and for each refusal; after a fault the replica isn't live, and nothing else in memory moved
abbrev pub IsReplyCall : (op : ℕ) → List ℕ → (s t : State) → (old new : Option Told) → Result (List ℕ) ReplyError → Type 0
IsReplyCall op body s t old new (Ok check) =
    let u = next_reply s body in
    (first_refusal (reply_refusals (memory s) op body) ≡ None) × (check ≡ u.header.checksum) × (t ≡ with_stored_reply s u.header) × (new ≡ after_all (reply_events s u) old)
IsReplyCall op body s t old new (Err reply.DiskFault) =
    (first_refusal (reply_refusals (memory s) op body) ≡ None) × (t ≡ stopped s) × AddsPart (reply_events s (next_reply s body)) old new
IsReplyCall op body s t old new (Err e) = (first_refusal (reply_refusals (memory s) op body) ≡ Some e) × (t ≡ s) × (new ≡ old)
