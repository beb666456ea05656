use Rattle.std.proofs.Common.{◌∙◌, ℕ, List, get_or, [], take, drop, map, ap, refl}
use Rattle.df_trailer.{specs.{Rooms.{without_reply}, Text.{count, read_sessions, root_size, sessions_at}}, proofs.{Listed.{sessions_listed}, Said.{empty_room, moved_room, parts_said, same_rows, same_words}, Words.{lent_back}}}
use Rattle.df_trailer.proofs.reader.Reader.into_parts.Goals as goal

pub returns-clause-parts : goal.returns-clause-parts
returns-clause-parts c = λ layout op text read. parts_said layout op text c.args.self _ c.requires (record {
  root = c.root_in-parts.ensures ∙ ap (λ (h : List ℕ). take (root_size h) (drop 4 h)) c.deref.ensures.0;
  sessions =
      c.sessions_in-parts.ensures ∙ ap (λ (h : List ℕ). map without_reply (read_sessions (count h) (sessions_at h) h)) c.deref-2.ensures.0;
  bits = refl;
  moved = λ place within one. ap (λ (cs : List (List ℕ)). get_or cs place []) (lent_back
      c.args.self.parts.checks.len c.spread.new.checks c.args.self.parts.checks.items (c.spread.ensures.length ∙ c.deref_mut.ensures.len))
      ∙ moved_room c.args.self c.deref-3.result.now
      c.deref_mut.result.now c.spread.new.checks c.deref-3.ensures.value c.deref_mut.ensures.value c.spread.ensures.moved place within one;
  empty = λ place within unset. ap (λ (cs : List (List ℕ)). get_or cs place []) (lent_back
      c.args.self.parts.checks.len c.spread.new.checks c.args.self.parts.checks.items (c.spread.ensures.length ∙ c.deref_mut.ensures.len))
      ∙ empty_room c.args.self c.deref-3.result.now c.spread.new.checks c.deref-3.ensures.value c.spread.ensures.empty place within unset;
}) read

pub returns-clause-bits : goal.returns-clause-bits
returns-clause-bits c = λ layout op text read. c.args.self.bits_room ∙ same_words c.args.self.layout layout read.of_layout

pub returns-clause-checks : goal.returns-clause-checks
returns-clause-checks c = λ layout op text read. c.args.self.checks_room ∙ same_rows c.args.self.layout layout read.of_layout

pub returns-clause-sessions : goal.returns-clause-sessions
returns-clause-sessions c = λ layout op text read.
    sessions_listed layout op text c.args.self _ c.requires read (returns-clause-parts c layout op text read).sessions
