-- What a survey finds makes sense: where its log ends, and what waits for replies; and nothing is staged.
use Rattle.{std.proofs.Common.{◌≡◌, List, [], ◌∙◌, arith}, df_format.specs.SuperRules.{IsSuper}, df_sessions.specs.Requests.{sessions_of}}
use Rattle.{df_model.specs.Work.{Request}, df_rooms.{specs.State.{AwaitsReplies, EndsLog, Stages}, proofs.Laws.{staging_none}}}
use Rattle.df_recovery.specs.{Surveying.{IsWellFound, state_found}, declared.surveying.Surveyed.{Surveyed}}

pub found_ends : (s : Surveyed) → IsWellFound s → IsSuper s.scanned.copies.found.content → EndsLog s.scanned.file.layout.slots
    s.scanned.copies.found.content.op s.scanned.copies.found.content.op_checksum s.traces.tail.op s.traces.tail.checksum
found_ends s found super = record {
  parent = found.ends.checksum;
  order = found.ends.from;
  room = found.ends.within;
  head_to = found.ends.most;
  first = λ zero_head.
      found.ends.empty (omega (arith, found.ends.from, zero_head)) ∙ super.op_checksum (omega (arith, found.ends.from, zero_head));
  level = found.ends.empty;
}

pub found_awaits : (s : Surveyed)
    → IsWellFound s → AwaitsReplies s.scanned.file.layout.clients s.traces.tail.op s.traces.replies s.waiting.items s.scanned.sessions
found_awaits s found = record {
  waiting = found.waiting;
  few = omega (arith, found.waiting, found.ends.few);
  places = found.read.places;
  requests = found.sessions.numbered;
  asked = found.sessions.asked;
  tracks = found.sessions.tracks;
}

pub found_staging : (s : Surveyed) (requests : List Request) → requests ≡ [] → IsWellFound s → Stages s.scanned.file.layout
    s.scanned.copies.found.content.op s.traces.tail.op s.traces.replies (sessions_of s.scanned.sessions.sessions) requests
found_staging s requests none found =
    staging_none (record (state_found s) { staged = requests }) none found.ends.few found.ends.within found.ends.most
