-- A session goes on by one call, of a line or of the loop, or ends.
use Rattle.std.proofs.{Common.{◌≡◌, ℕ, ◌+◌, true, false, List, [], ◌∷◌, ◌++◌, length, Option, Some, None, refl, sym, ◌∙◌, ap, subst, arith, length-append, append_assoc}, lemmas.List.{append-nil}}
use Rattle.{df_base.{specs.Streams.{Appends, AppendsPart}, proofs.Laws.{appends_more, appends_part}}, df_disk.specs.Told.{Told}}
use Rattle.{df_inspect.{proofs.Laws.{appends_none}, specs.Opening.{script_text}}, df_model.specs.Commands.{Answer, Command}}
use Rattle.df_lines.specs.{Grammar.{Said}, Script.{BeginsWithLines, IsRefused}, Text.{after_line}}
use Rattle.df_pace.specs.{Beats.{command_of_piece as piece_command, next_piece}, declared.beat.Beat.{Beat}, declared.beat.Piece.{Piece}, declared.pace.Pace.{Pace}}
use Rattle.df_session.specs.{Below.{State as Replica}, Session.{Act}, Links.{Calls, Makes}}
use Rattle.df_top.{specs.{Lines.{Asker, ByLine, ByLoop, Turned, all_said, all_text, command_of_line, said_by, told_by}, Pacing.{AreTurns, EndTurns, IsIdleBeat, IsNextCommand, NextTurn, NoTurns, beat_after, runs}, Session.{Ended, EndsText, EndsWith, Executed, HoldsLine, IsDamagedLine, SessionState}, Step.{EndsDamaged, EndsIn, IsAnsweredCall, SessionGoesOn, TakesNextLine}, declared.status.Status.{Status}, declared.status.Status.TheVariants.{Done, Script, Refused, DiskFault, ReadFault, WriteFault}}, proofs.Written.{begins_more, said_more, text_more, turns_join}}

-- ---- on

-- at the start nothing was executed
pub executed_none : (pace : Pace) (bound : ℕ) (origin : SessionState) → Executed pace bound origin origin []
executed_none pace bound origin = record {
  text = λ text is. (text, is, (refl, refl));
  written = appends_none origin.outside.written;
  lines = omega arith;
  calls = NoTurns;
}

-- a call takes the line that asks for it, or no line
abbrev pub TakesFor : (bound : ℕ) → SessionState → Asker → Option (List ℕ) → ℕ → Type 0
TakesFor bound old (ByLine said) text budget = TakesNextLine bound old said text budget
TakesFor bound old (ByLoop p) text budget = (text ≡ old.text) × (budget ≡ old.budget)

-- the text with one call more
text_on : (pace : Pace) (bound : ℕ) (origin old : SessionState) (turns : List Turned) (asker : Asker) (left : Option (List ℕ)) (budget : ℕ)
    → Executed pace bound origin old turns → TakesFor bound old asker left budget → (text : List ℕ) → origin.text ≡ Some text
    → (rest : List ℕ) × (left ≡ Some rest) × BeginsWithLines bound origin.budget text (all_said turns ++ said_by asker) budget rest
text_on pace bound origin old turns (ByLine said) left budget so_far takes text is = let before = so_far.text text is in
    let line = takes before.0 before.1 in (
      after_line before.0,
      line.1,
      rw (sym line.2) at (begins_more bound origin.budget text (all_said turns) old.budget before.0 said before.2 line.0),
    )
text_on pace bound origin old turns (ByLoop p) left budget so_far takes text is = let before = so_far.text text is in (
  before.0,
  takes.0 ∙ before.1,
  rw (sym takes.1) at (rw (sym (append-nil (all_said turns))) at before.2),
)

-- the call was made and answered
module _ (pace : Pace) (bound : ℕ) (old new : SessionState) (asker : Asker) (takes : TakesFor bound old asker new.text new.budget)
    (act : Act) (next : IsNextCommand old.beat old.replica asker act.command) (x : Answer)
    (calls : Calls act old.replica new.replica old.outside.told new.outside.told (Some x))
    (origin : SessionState) (turns : List Turned) (so_far : Executed pace bound origin old turns) where
  abbrev one : Turned
  one = record { asker = asker; exchange = record { act = act; answer = x } }

  abbrev beat_then : Beat
  beat_then = beat_after pace old.beat asker new.replica x

  all_turns : AreTurns pace origin.beat origin.replica origin.outside.told (turns ++ one ∷ []) beat_then new.replica new.outside.told
  all_turns = turns_join pace origin.beat old.beat beat_then origin.replica old.replica new.replica origin.outside.told
      old.outside.told new.outside.told turns (one ∷ []) so_far.calls (NextTurn new.replica new.outside.told next calls NoTurns)

  said_is : all_said (turns ++ one ∷ []) ≡ all_said turns ++ said_by asker
  said_is = said_more turns (one ∷ []) ∙ ap (λ (l : List Said). all_said turns ++ l) (append-nil (said_by asker))

  text_is : all_text (turns ++ one ∷ []) ≡ all_text turns ++ told_by asker x
  text_is = text_more turns (one ∷ []) ∙ ap (λ (l : List ℕ). all_text turns ++ l) (append-nil (told_by asker x))

  said_on : (text : List ℕ) → origin.text ≡ Some text
      → (rest : List ℕ) × (new.text ≡ Some rest) × BeginsWithLines bound origin.budget text (all_said (turns ++ one ∷ [])) new.budget rest
  said_on text is = let more = text_on pace bound origin old turns asker new.text new.budget so_far takes text is in
      (more.0, more.1, rw (sym said_is) at more.2)

  pub call_done : Appends old.outside.written new.outside.written (told_by asker x) → new.lines ≡ old.lines + length (said_by asker)
      → new.beat ≡ beat_then → (more : List Turned) × Executed pace bound origin new (turns ++ more)
  call_done wrote lines beat = (
    one ∷ [],
    record {
      text = said_on;
      written = rw (sym text_is) at
          (appends_more origin.outside.written old.outside.written new.outside.written (all_text turns) (told_by asker x) so_far.written wrote);
      lines = let count = ap length said_is in omega (arith, lines, so_far.lines, count, length-append (all_said turns) (said_by asker));
      calls = rw (sym beat) at all_turns;
    },
  )

  pub call_cut_off : AppendsPart old.outside.written new.outside.written (told_by asker x) → Ended pace bound origin new WriteFault
  call_cut_off wrote = record {
    turns = turns ++ one ∷ [];
    failing = None;
    cut = false;
    text = λ text is. let more = said_on text is in (
      new.budget,
      more.0,
      rw (sym (append-nil (all_said (turns ++ one ∷ [])))) at more.2,
      record { refused = λ no. absurd (cc); held = λ no. absurd (cc); finished = λ no. absurd (cc) },
    );
    written = rw (sym text_is) at
        (appends_part origin.outside.written old.outside.written new.outside.written (all_text turns) (told_by asker x) so_far.written wrote);
    calls = (beat_then, all_turns, λ no. absurd (no refl));
  }

-- a line was executed
pub goes_on : (pace : Pace) (bound : ℕ) (old new : SessionState) (said : Said)
    → TakesNextLine bound old said new.text new.budget → IsIdleBeat old.beat old.replica
    → (done : IsAnsweredCall (command_of_line said) old.replica new.replica old.outside.told new.outside.told (λ line.
    Appends old.outside.written new.outside.written line)) → new.lines ≡ old.lines + 1
    → new.beat ≡ beat_after pace old.beat (ByLine said) new.replica done.0 → SessionGoesOn pace bound old new
goes_on pace bound old new said takes idle done lines beat origin turns so_far = call_done pace bound
    old new (ByLine said) takes done.1.act (done.1.is, idle) done.0 done.1.calls origin turns so_far done.2 (omega (arith, lines)) beat

-- a piece of the loop's work was done
module _ (pace : Pace) (bound : ℕ) (old new : SessionState) (p : Piece)
    (text : new.text ≡ old.text) (budget : new.budget ≡ old.budget) (due : next_piece old.beat.due (runs old.replica) ≡ Some p) where
  pub works_on : (x : Answer) → Makes (piece_command p old.replica.root) old.replica new.replica old.outside.told new.outside.told (Some x)
      → new.outside.written ≡ old.outside.written → new.lines ≡ old.lines → new.beat ≡ beat_after pace old.beat (ByLoop p) new.replica x
      → SessionGoesOn pace bound old new
  works_on x makes wrote lines beat origin turns so_far =
      call_done pace bound old new (ByLoop p) (text, budget) makes.act (makes.is, due) x makes.calls origin turns so_far
      (rw wrote (appends_none old.outside.written)) (omega (arith, lines)) beat

-- ---- some calls and some more

pub on_none : (pace : Pace) (bound : ℕ) (old new : SessionState) → new ≡ old → SessionGoesOn pace bound old new
on_none pace bound old new same origin turns so_far = ([], rw (sym (append-nil turns)) at (rw (sym same) at so_far))

pub on_more : {pace : Pace} {bound : ℕ} {old mid new : SessionState}
    → SessionGoesOn pace bound old mid → SessionGoesOn pace bound mid new → SessionGoesOn pace bound old new
on_more one two origin turns so_far = let first = one origin turns so_far in
    let second = two origin (turns ++ first.0) first.1 in (first.0 ++ second.0, rw (append_assoc turns first.0 second.0) at second.1)

pub on_ends : {pace : Pace} {bound : ℕ} {old mid new : SessionState} {status : Status}
    → SessionGoesOn pace bound old mid → EndsIn pace bound mid new status → EndsIn pace bound old new status
on_ends one two origin turns so_far = let first = one origin turns so_far in two origin (turns ++ first.0) first.1

-- ---- the end

-- nothing more was executed
module _ (pace : Pace) (bound : ℕ) (old new : SessionState) (same_told : new.outside.told ≡ old.outside.told)
    (same_replica : new.replica ≡ old.replica) (idle : IsIdleBeat old.beat old.replica) where
  stays : (status : Status) (origin : SessionState) (turns : List Turned) → Executed pace bound origin old turns
      → EndTurns pace origin.beat origin.replica origin.outside.told turns None status new.replica new.outside.told
  stays status origin turns so_far = (
    old.beat,
    rw (sym same_told) at (rw (sym same_replica) at so_far.calls),
    λ no. rw (sym same_replica) at idle,
  )

  said_all : (origin : SessionState) (turns : List Turned) (text rest : List ℕ) → BeginsWithLines bound
      origin.budget text (all_said turns) old.budget rest → BeginsWithLines bound origin.budget text (all_said turns ++ []) old.budget rest
  said_all origin turns text rest begins =
      subst (λ (l : List Said). BeginsWithLines bound origin.budget text l old.budget rest) (sym (append-nil (all_said turns))) begins

  written_so : (origin : SessionState) (turns : List Turned) → new.outside.written ≡ old.outside.written
      → Executed pace bound origin old turns → Appends origin.outside.written new.outside.written (all_text turns)
  written_so origin turns same so_far =
      subst (λ (o : Option (List ℕ)). Appends origin.outside.written o (all_text turns)) (sym same) so_far.written

  -- the text is at its end
  pub ends_done : new.outside.written ≡ old.outside.written
      → ((rest : List ℕ) → old.text ≡ Some rest → (rest ≡ []) × (new.outside.left ≡ Some [])) → EndsIn pace bound old new Done
  ends_done same at_end origin turns so_far = record {
    turns = turns;
    failing = None;
    cut = false;
    text = λ text is. let before = so_far.text text is in
        (old.budget, before.0, said_all origin turns text before.0 before.2, record { refused = λ no. absurd (cc); held = λ no. absurd (cc); finished = λ yes. at_end before.0 before.1 });
    written = (refl, written_so origin turns same so_far);
    calls = stays Done origin turns so_far;
  }

  -- the source failed
  pub ends_read : new.outside.written ≡ old.outside.written → EndsIn pace bound old new ReadFault
  ends_read same origin turns so_far = record {
    turns = turns;
    failing = None;
    cut = false;
    text = λ text is. let before = so_far.text text is in
        (old.budget, before.0, said_all origin turns text before.0 before.2, record { refused = λ no. absurd (cc); held = λ no. absurd (cc); finished = λ no. absurd (cc) });
    written = (refl, written_so origin turns same so_far);
    calls = stays ReadFault origin turns so_far;
  }

  -- the next line is refused, and was read, and the line that says so is written, or a front of it
  module _ (refused : (rest : List ℕ) → old.text ≡ Some rest → IsRefused bound old.budget rest)
      (holds : (rest : List ℕ) → old.text ≡ Some rest → (remains : List ℕ) → new.outside.left ≡ Some remains → HoldsLine bound rest remains)
    where
      cut_text : (origin : SessionState) (turns : List Turned) (status : Status)
          → (status ≡ Done → ⊥) → Executed pace bound origin old turns → (text : List ℕ) → origin.text ≡ Some text
          → (budget : ℕ) × (rest : List ℕ) × BeginsWithLines bound origin.budget text (all_said turns ++ []) budget rest
          × EndsText bound budget rest new.outside.left true status
      cut_text origin turns status unfinished so_far text is = let before = so_far.text text is in
          (old.budget, before.0, said_all origin turns text before.0 before.2, record { refused = λ yes. refused before.0 before.1; held = λ yes. holds before.0 before.1; finished = λ done. absurd (unfinished done) })

      ends_cut : (status : Status) → (status ≡ Done → ⊥) → (origin : SessionState) (turns : List Turned) → Executed pace bound
          origin old turns → EndsWith origin.lines origin.outside new.outside turns None true status → Ended pace bound origin new status
      ends_cut status unfinished origin turns so_far written = record {
        turns = turns;
        failing = None;
        cut = true;
        text = cut_text origin turns status unfinished so_far;
        written = written;
        calls = stays status origin turns so_far;
      }

      pub ends_script : Appends old.outside.written new.outside.written (script_text (old.lines + 1)) → EndsIn pace bound old new Script
      ends_script wrote origin turns so_far = ends_cut Script (λ no. cc) origin turns so_far (
        refl,
        appends_more origin.outside.written old.outside.written new.outside.written (all_text turns) _ so_far.written
            (rw so_far.lines at wrote),
      )

      pub ends_script_fault : AppendsPart old.outside.written new.outside.written (script_text (old.lines + 1))
          → EndsIn pace bound old new WriteFault
      ends_script_fault wrote origin turns so_far = ends_cut WriteFault (λ no. cc) origin turns so_far
          (appends_part origin.outside.written old.outside.written new.outside.written (all_text turns) _ so_far.written
          (rw so_far.lines at wrote))

-- the session ends within a call
module _ (pace : Pace) (bound : ℕ) (old new : SessionState) (asker : Asker) (command : Command) (takes : TakesFor
    bound old asker new.text new.budget) (next : (c : Command) → c ≡ command → IsNextCommand old.beat old.replica asker c) where
  last_text : (origin : SessionState) (turns : List Turned) (status : Status)
      → (status ≡ Done → ⊥) → Executed pace bound origin old turns → (text : List ℕ) → origin.text ≡ Some text
      → (budget : ℕ) × (rest : List ℕ) × BeginsWithLines bound origin.budget text (all_said turns ++ said_by asker) budget rest
      × EndsText bound budget rest new.outside.left false status
  last_text origin turns status unfinished so_far text is =
      let more = text_on pace bound origin old turns asker new.text new.budget so_far takes text is in
      (new.budget, more.0, more.2, record { refused = λ no. absurd (cc); held = λ no. absurd (cc); finished = λ done. absurd (unfinished done) })

  -- it wasn't answered
  ends_failing : (status : Status) → (status ≡ Done → ⊥) → (makes : Makes command old.replica new.replica
      old.outside.told new.outside.told None) (origin : SessionState) (turns : List Turned) → Executed pace bound origin old turns
      → EndsWith origin.lines origin.outside new.outside turns (Some makes.act) false status → Ended pace bound origin new status
  ends_failing status unfinished makes origin turns so_far written = record {
    turns = turns;
    failing = Some (record { asker = asker; act = makes.act });
    cut = false;
    text = last_text origin turns status unfinished so_far;
    written = written;
    calls = (old.beat, old.replica, old.outside.told, so_far.calls, next makes.act.command makes.is, makes.calls);
  }

  -- the disk failed
  pub ends_disk : Makes command old.replica new.replica old.outside.told new.outside.told None × (new.outside.written ≡ old.outside.written)
      → EndsIn pace bound old new DiskFault
  ends_disk failed origin turns so_far =
      ends_failing DiskFault (λ no. cc) failed.0 origin turns so_far (refl, rw (sym failed.1) at so_far.written)

  -- its step is damaged
  damaged_step : (makes : Makes command old.replica new.replica old.outside.told new.outside.told None) (line : List ℕ)
      → IsDamagedLine command new.outside.told line → IsDamagedLine makes.act.command new.outside.told line
  damaged_step makes line damaged = subst (λ (c : Command). IsDamagedLine c new.outside.told line) (sym makes.is) damaged

  -- the line that says so is written, or a front of it
  pub ends_damaged : EndsDamaged command old.replica new.replica old.outside.told new.outside.told (λ line.
      Appends old.outside.written new.outside.written line) → EndsIn pace bound old new Refused
  ends_damaged failed origin turns so_far = ends_failing Refused (λ no. cc) failed.1 origin turns so_far
      (refl, failed.0, damaged_step failed.1 failed.0 failed.2, appends_more origin.outside.written old.outside.written new.outside.written (all_text turns) failed.0 so_far.written failed.3)

  pub ends_damaged_fault : EndsDamaged command old.replica new.replica old.outside.told new.outside.told (λ line.
      AppendsPart old.outside.written new.outside.written line) → EndsIn pace bound old new WriteFault
  ends_damaged_fault failed origin turns so_far = ends_failing WriteFault (λ no. cc) failed.1 origin turns so_far
      (refl, failed.0, damaged_step failed.1 failed.0 failed.2, appends_part origin.outside.written old.outside.written new.outside.written (all_text turns) failed.0 so_far.written failed.3)

-- the sink failed with the answer to a line
pub ends_answer : (pace : Pace) (bound : ℕ) (old new : SessionState) (said : Said)
    → TakesNextLine bound old said new.text new.budget → IsIdleBeat old.beat old.replica
    → IsAnsweredCall (command_of_line said) old.replica new.replica old.outside.told new.outside.told (λ line.
    AppendsPart old.outside.written new.outside.written line) → EndsIn pace bound old new WriteFault
ends_answer pace bound old new said takes idle done origin turns so_far =
    call_cut_off pace bound old new (ByLine said) takes done.1.act (done.1.is, idle) done.0 done.1.calls origin turns so_far done.2
