-- What one line does to a session: it goes on with the line executed, or ends.
use Rattle.std.proofs.Common.{◌≡◌, ◌⊎◌, inl, inr, ◌<◌, ◌+◌, ℕ, true, false, IsTrue, List, [], ◌∷◌, ◌++◌, length, Option, Some, refl, sym, ◌∙◌, ap}
use Rattle.{df_base.specs.Streams.{Appends}, df_inspect.{proofs.Laws.{appends_none}, specs.Opening.{script_text}}}
use Rattle.{df_layout.specs.declared.layout.Layout.{Layout}, df_rows.specs.{declared.line.Line.{Line}, Grammar.{SaysTableLine, said_with}}}
use Rattle.df_lines.specs.{Room.{HasTextToCome, IsAtEnd, ReaderParts, line_bound}, Text.{line_of, unread}, Reads.{RefusesNext, TakesLine}, Lines.{IsLine, IsRefused}}
use Rattle.df_table.{specs.{declared.ending.Ending.{Ending}, declared.ending.Ending.TheVariants.{Disk, Damaged, NotTable, OpsSpent, SequenceSpent}, declared.session.Session.{Session}, declared.status.Status.{Status}, Outside.{Step, Outside, WritesTableText}, Serving.{AnswersLine, ServingEndsIn, TableTurns, state}, Session.{EndsTableText, HoldsTableLine}, Statuses.{ending_text, status_of}}, proofs.Turned.{Takes, ends_between, ends_unanswered, ends_within, executed_more, turn_of}}
use Rattle.df_table.specs.declared.status.Status.TheVariants as status
use Rattle.df_program.specs.declared.turn.Turn.TheVariants.{Ends, GoesOn as Goes}

-- ---- statuses

-- no ending is the script's end
not_done : (ending : Ending) → status_of ending ≡ status.Done → ⊥
not_done Disk is = cc
not_done (Damaged place class) is = cc
not_done (NotTable place) is = cc
not_done OpsSpent is = cc
not_done SequenceSpent is = cc

undone : (ending : Ending) (old new : Option (List ℕ)) (ends : Status)
    → WritesTableText (ending_text ending) (status_of ending) old new ends → ends ≡ status.Done → ⊥
undone ending old new ends (inl told) done = not_done ending (sym told.0 ∙ done)
undone ending old new ends (inr fails) done = let apart : status.WriteFault ≡ status.Done = sym fails.0 ∙ done in cc

undone_script : (text : List ℕ) (old new : Option (List ℕ)) (ends : Status)
    → WritesTableText text status.Script old new ends → ends ≡ status.Done → ⊥
undone_script text old new ends (inl told) done = let apart : status.Script ≡ status.Done = sym told.0 ∙ done in cc
undone_script text old new ends (inr fails) done = let apart : status.WriteFault ≡ status.Done = sym fails.0 ∙ done in cc

-- ---- a line was taken

module _ (layout : Layout) (before after : Outside) (old new : Session) (room : ReaderParts)
    (line : Line) (bound : old.lines.reading.bound ≡ line_bound layout) (at_end : IsTrue old.lines.ended → IsAtEnd before.left)
    (gives : (text : List ℕ) → HasTextToCome old.lines before.left text → TakesLine SaysTableLine old.lines.reading room.reading text (unread room.reading.held after.left) (said_with room.body line)) (kept : new.lines ≡ room) (counted : new.count ≡ old.count + 1) where
  takes : (rest : List ℕ) → (state before old).text ≡ Some rest
      → Takes (line_bound layout) (state before old) (said_with room.body line) (state after new).text (state after new).budget rest
  takes rest is = let taken_is = gives rest (record { is = is; ended = at_end }) in record {
    line = rw bound at taken_is.line;
    rest_is = ap (λ (l : ReaderParts). unread l.reading.held after.left) kept ∙ taken_is.rest;
    budget_is = ap (λ (l : ReaderParts). l.reading.budget) kept ∙ taken_is.budget;
  }

  pub by_turn : (turn : Step) → AnswersLine layout (said_with room.body line) old.replica new.replica before.told
      after.told old.table new.table before.written after.written turn → TableTurns layout (state before old) (state after new) turn
  by_turn Goes did = λ origin turns so_far. (
    turn_of layout (said_with room.body line) old.replica new.replica before.told after.told old.table new.table did.0 ∷ [],
    executed_more layout (state before old) (state after new) (said_with room.body line) takes origin turns so_far did.0 counted did.1,
  )
  by_turn (Ends ends) (inl did) = λ origin turns so_far. ends_unanswered
      layout (state before old) (state after new) (said_with room.body line) takes origin turns so_far did.0 ends did.1 did.2
  by_turn (Ends ends) (inr did) = λ origin turns so_far. ends_within layout (state before old) (state after new) (said_with room.body line)
      takes origin turns so_far did.0 did.1 ends did.2 did.3 (undone did.0 before.written after.written ends did.3) did.4 did.5

-- ---- no line was taken

module _ (layout : Layout) (before after : Outside) (old new : Session) (same : after.told ≡ before.told) (one : new.replica ≡ old.replica) where
  -- the script was read to its end
  pub ends_done : after.written ≡ before.written → ((rest : List ℕ) → (state before old).text ≡ Some rest
      → (rest ≡ []) × (after.left ≡ Some [])) → ServingEndsIn layout (state before old) (state after new) status.Done
  ends_done unwritten finished = ends_between layout (state before old) (state after new) false status.Done same one
      (λ rest is. record { refused = λ no. absurd (cc); held = λ no. absurd (cc); finished = λ done. finished rest is })
      (inl (inl refl, rw unwritten (appends_none before.written)))

  -- the source failed
  pub ends_read : after.written ≡ before.written → ServingEndsIn layout (state before old) (state after new) status.ReadFault
  ends_read unwritten = ends_between layout (state before old) (state after new) false status.ReadFault same one
      (λ rest is. record { refused = λ no. absurd (cc); held = λ no. absurd (cc); finished = λ done. absurd (cc) })
      (inl (inr refl, rw unwritten (appends_none before.written)))

  -- the next line is refused
  pub ends_refused : (room : ReaderParts) → old.lines.reading.bound ≡ line_bound layout
      → room.reading.bound ≡ old.lines.reading.bound → (IsTrue old.lines.ended → IsAtEnd before.left)
      → ((text : List ℕ) → HasTextToCome old.lines before.left text
      → RefusesNext SaysTableLine old.lines.reading room.reading text (unread room.reading.held after.left)) → (ends : Status)
      → WritesTableText (script_text (old.count + 1)) status.Script before.written after.written ends
      → ServingEndsIn layout (state before old) (state after new) ends
  ends_refused room bound bound_kept at_end gives ends wrote =
      ends_between layout (state before old) (state after new) true ends same one text wrote
    where
      refuses : (rest : List ℕ) → (state before old).text ≡ Some rest
          → RefusesNext SaysTableLine old.lines.reading room.reading rest (unread room.reading.held after.left)
      refuses rest is = gives rest (record { is = is; ended = at_end })

      holds : (rest : List ℕ) → (state before old).text ≡ Some rest
          → (remains : List ℕ) → after.left ≡ Some remains → HoldsTableLine (line_bound layout) rest remains
      holds rest is remains has = let no = refuses rest is in
          let whole : Some (room.reading.held ++ remains) ≡ Some rest = rw has at no.rest in record {
            held = room.reading.held;
            is = cc whole;
            line = rw (bound_kept ∙ bound) at no.read;
          }

      text : (rest : List ℕ)
          → (state before old).text ≡ Some rest → EndsTableText (line_bound layout) old.lines.reading.budget rest after.left true ends
      text rest is = record {
        refused = λ yes. rw bound at (refuses rest is).refuses;
        held = λ yes remains has. holds rest is remains has;
        finished = λ done. absurd (undone_script (script_text (old.count + 1)) before.written after.written ends wrote done);
      }
