-- A session's answers are the result, its text is the machine's, and its calls are those of the script and of the loop.
use Rattle.std.proofs.{Common.{◌≡◌, ℕ, ◌-◌, Bool, if◌then◌else◌, List, [], ◌∷◌, ◌++◌, map, Option, Some, None, refl, sym, ◌∙◌, ap, subst, arith}, lemmas.List.{append-nil}}
use Rattle.{df_base.specs.Image.{IsImage}, df_disk.specs.Told.{Told}, df_theory.specs.{Shape.{Shape}, View.{head}}}
use Rattle.df_model.specs.{Commands.{Answer, Command}, Memory.{Memory, memory_of}, Sense.{IsWork}, Supply.{Codec, Shown}, Work.{Work}}
use Rattle.df_pace.{specs.{Beats.{IsHeadCounted, command_of_piece as piece_command, due_at, is_begun, next_piece, rest_due, runs_at, started, without}, Loop.{Stand, all_by_loop, all_commands, answer_at, by_loop, by_script, commands_due, paced, passed, start}, declared.beat.Beat.{Beat}, declared.beat.Piece.{Piece}, declared.pace.Due.{Due}, declared.pace.Pace.{Pace}}, proofs.Laws.{line_counts, nothing_due, piece_counts, piece_due, starts_idle, whole_due}}
use Rattle.df_session.{specs.{Below.{DataFile, State as Replica, is_running, memory, shape, spelling, told_after}, Opened.{MendsAll}, Reading.{shown_of}, Serving.{Firm, IsCall, Keeps}, Codec.{codec}, Results.{IsResult}, Agreeing.{AgreeShown}, Resulting.{AnswersResult}, Session.{Act, acts_in, command_in}}, proofs.Laws.{one_more_is_result, opened_agrees, opened_answers}}
use Rattle.df_script_model.specs.Script.{answer_text}
use Rattle.df_top.specs.{Lines.{Asker, ByLine, ByLoop, Failing, Turned, all_said, all_text, command_of_line, exchanges_in}, Outside.{IsThrough}, Pacing.{AreTurns, EndTurns, IsIdleBeat, IsNextCommand, NextTurn, NoTurns, all_calls, beat_after, runs}, Resulting.{IsResultOf, joined}, declared.status.Status.{Status}, declared.status.Status.TheVariants.{WriteFault}}

module _ (pace : Pace) (file : DataFile) where
  abbrev sh : Shape
  sh = shape file

  abbrev cd : Codec
  cd = codec file

  -- after all that is left of the work
  abbrev from : Due → Stand → Stand
  from d x = all_by_loop sh cd x (rest_due sh cd d x)

  abbrev lines_in : List Turned → List Command
  lines_in turns = map command_of_line (all_said turns)

  -- from a stand on, where so much is left, these calls print the script's text, and are the first of what is left and of all that comes
  -- after it
  record Over (d : Due) (x : Stand) (turns : List Turned) (idle : Type 0) : Type 0 where
    pub text : all_text turns ≡ joined (paced sh cd pace (from d x) (lines_in turns))
    pub rest : List Command
    pub commands : rest_due sh cd d x
        ++ all_commands sh cd pace (from d x) (lines_in turns) ≡ map command_in (acts_in (exchanges_in turns)) ++ rest
    pub whole : idle → rest ≡ []

  -- ---- what the replica has is the machine's

  record Stands (s : Replica) (x : Stand) : Type 0 where
    pub sense : IsWork sh cd.spell x.work
    pub memory_is : memory s ≡ memory_of sh cd.spell x.work

  stands : (s : Replica) (x : Stand) → s.file ≡ file → Keeps Firm s x.work None → Stands s x
  stands s x of k =
      let here = subst (λ (f : DataFile). IsWork (shape f) (spelling f) x.work × (memory s ≡ memory_of (shape f) (spelling f) x.work)) of k in
      record { sense = here.0; memory_is = here.1 }

  runs_is : (s : Replica) (x : Stand) → Stands s x → runs s ≡ runs_at sh cd x
  runs_is s x here = ap (λ (m : Memory). is_running m.running) here.memory_is

  root_is : (s : Replica) (x : Stand) → Stands s x → s.root ≡ x.work.view.checkpoint.parts.root
  root_is s x here = ap (λ (m : Memory). m.root) here.memory_is

  head_is : (s : Replica) (x : Stand) → Stands s x → s.head ≡ head x.work.view
  head_is s x here = ap (λ (m : Memory). m.head) here.memory_is

  -- ---- no call, or one more

  over_none : (d : Due) (x : Stand) (idle : Type 0) → (idle → next_piece d (runs_at sh cd x) ≡ None) → Over d x [] idle
  over_none d x idle none = record { text = refl; rest = rest_due sh cd d x; commands = append-nil (rest_due sh cd d x); whole = λ is. nothing_due sh cd d x (none is) }

  -- a line's, where nothing was left
  module _ (d e : Due) (x : Stand) (act : Act) (answer : Answer) (turns : List Turned) (idle : Type 0) (none : rest_due sh cd d x ≡ []) where
    line_over : (c : Command) → act.command ≡ c → answer ≡ answer_at sh cd x c → e ≡ due_at
        pace (by_script sh cd x c).appended (runs_at sh cd (by_script sh cd x c)) → (more : Over e (by_script sh cd x c) turns idle)
        → (answer_text c answer ++ all_text turns ≡ joined (paced sh cd pace (from d x) (c ∷ lines_in turns)))
        × (rest_due sh cd d x ++ all_commands sh cd pace (from d x) (c ∷ lines_in turns)
        ≡ act.command ∷ (map command_in (acts_in (exchanges_in turns)) ++ more.rest))
    line_over c is said due more = let z : Stand = by_script sh cd x c in
        let rest : rest_due sh cd e z ≡ commands_due sh cd pace z = ap (λ (d : Due). rest_due sh cd d z) due ∙ sym (whole_due sh cd pace z) in
        let later_is : from e z ≡ passed sh cd pace x c = ap (λ (cs : List Command). all_by_loop sh cd z cs) rest in
        let here : from d x ≡ x = ap (λ (cs : List Command). all_by_loop sh cd x cs) none in
        let text : all_text turns ≡ joined (paced sh cd pace (passed sh cd pace x c) (lines_in turns)) =
        more.text ∙ ap (λ (u : Stand). joined (paced sh cd pace u (lines_in turns))) later_is in let commands : commands_due sh cd pace z
        ++ all_commands sh cd pace (passed sh cd pace x c) (lines_in turns) ≡ map command_in (acts_in (exchanges_in turns)) ++ more.rest =
        sym (λ i. rest i ++ all_commands sh cd pace (later_is i) (lines_in turns)) ∙ more.commands in (
          (λ i. answer_text c (said i) ++ text i) ∙ sym (ap (λ (u : Stand). joined (paced sh cd pace u (c ∷ lines_in turns))) here),
          (λ i. none i ++ all_commands sh cd pace (here i) (c ∷ lines_in turns)) ∙ (λ i. sym is i ∷ commands i),
        )

  -- a piece's, which was next
  piece_over : (d : Due) (p : Piece) (x : Stand) (act : Act) (turns : List Turned) (idle : Type 0) → let c =
      piece_command p x.work.view.checkpoint.parts.root in
      next_piece d (runs_at sh cd x) ≡ Some p → act.command ≡ c → (more : Over (without p d) (by_loop sh cd x c) turns idle)
      → (all_text turns ≡ joined (paced sh cd pace (from d x) (lines_in turns))) × (rest_due sh cd d x
      ++ all_commands sh cd pace (from d x) (lines_in turns) ≡ act.command ∷ (map command_in (acts_in (exchanges_in turns)) ++ more.rest))
  piece_over d p x act turns idle due is more = let c : Command = piece_command p x.work.view.checkpoint.parts.root in
      let left : rest_due sh cd d x ≡ c ∷ rest_due sh cd (without p d) (by_loop sh cd x c) = piece_due sh cd d x p due in
      let later_is : from d x ≡ from (without p d) (by_loop sh cd x c) = ap (λ (cs : List Command). all_by_loop sh cd x cs) left in (
        more.text ∙ sym (ap (λ (u : Stand). joined (paced sh cd pace u (lines_in turns))) later_is),
        (λ i. left i ++ all_commands sh cd pace (later_is i) (lines_in turns)) ∙ (λ i. sym is i ∷ more.commands i),
      )

  -- ---- all calls

  -- what was accepted since the loop's last begin is what is counted
  grown : (x : Stand) (since last : ℕ) → IsHeadCounted x since → last ≡ head x.work.view → last - since ≡ x.appended
  grown x since last counted is = omega (arith, counted, is)

  -- what goes on from after a call is so
  abbrev Later : (e : Beat) → (v : Replica) → Told → List Turned → Type 0 → Type 0
  Later e v n turns idle = (z : Stand) → Keeps Firm v z.work None
      → AgreeShown file.layout (shown_of file n.shown) z.shown → IsHeadCounted z e.since → Over e.due z turns idle

  module _ (act : Act) (answer : Answer) (turns : List Turned) (s v : Replica) (b : Beat) (x : Stand) (idle : Type 0) (n : Told)
      (here : Stands s x) (counted : IsHeadCounted x b.since) (result : IsResult file x.shown x.work act.command answer v n) where
    call_over : (asker : Asker) → IsNextCommand b s asker act.command → Later (beat_after pace b asker v answer) v n turns idle
        → Over b.due x (record { asker = asker; exchange = record { act = act; answer = answer } } ∷ turns) idle
    call_over (ByLine said) next later = let c : Command = command_of_line said in
        let is : IsResult file x.shown x.work c answer v n = rw (← next.0) result in let z : Stand = by_script sh cd x c in
        let there : Stands v z = stands v z is.file_is is.keeps in
        let count : IsHeadCounted z b.since = line_counts sh cd x c b.since here.sense counted in
        let more = later z is.keeps is.shown_is count in let none : rest_due sh cd b.due x ≡ [] =
        nothing_due sh cd b.due x (ap (λ (r : Bool). next_piece b.due r) (sym (runs_is s x here)) ∙ next.1) in
        let due : due_at pace (v.head - b.since) (runs v) ≡ due_at pace z.appended (runs_at sh cd z) =
        λ i. due_at pace (grown z b.since v.head count (head_is v z there) i) (runs_is v z there i) in
        let both = line_over b.due (due_at pace (v.head - b.since) (runs v)) x act answer turns idle none c next.0 is.answer_is due more in
        record { text = both.0; rest = more.rest; commands = both.1; whole = more.whole }
    call_over (ByLoop p) next later = let c : Command = piece_command p x.work.view.checkpoint.parts.root in
        let asked : act.command ≡ c = next.0 ∙ ap (piece_command p) (root_is s x here) in
        let is : IsResult file x.shown x.work c answer v n = rw (← asked) result in let z : Stand = by_loop sh cd x c in
        let there : Stands v z = stands v z is.file_is is.keeps in
        let count : IsHeadCounted z (if is_begun answer then v.head else b.since) =
        subst (λ (k : ℕ). IsHeadCounted z k) (λ i.
        if is_begun (sym is.answer_is i) then sym (head_is v z there) i else b.since) (piece_counts sh cd x p b.since here.sense counted) in
        let more = later z is.keeps is.shown_is count in
        let both = piece_over b.due p x act turns idle (ap (λ (r : Bool). next_piece b.due r) (sym (runs_is s x here)) ∙ next.1) asked more in
        record { text = both.0; rest = more.rest; commands = both.1; whole = more.whole }

  -- one call more, over what is shown
  one_more : (act : Act) (answer : Answer) (s v : Replica) (old mid : Option Told) (t : Told) (x : Stand) → s.file ≡ file
      → old ≡ Some t → (call : IsCall act.given act.command s v old mid (Some answer)) → Keeps Firm s x.work None → IsImage t.shown
      → AgreeShown file.layout (shown_of file t.shown) x.shown
      → (n : Told) × (mid ≡ Some n) × IsResult file x.shown x.work act.command answer v n
  one_more act answer s v old mid t x of told call k whole agree =
      let here : IsCall act.given act.command s v (Some t) mid (Some answer) = rw (← told) call in
      let one = one_more_is_result act.given act.command s v t mid answer x.work x.shown here k whole (rw of agree) in
      (told_after here.events t, one.0, rw (← of) one.1)

  turns_over : (turns : List Turned) (s u : Replica) (old new : Option Told) (b c : Beat) (t : Told) (x : Stand)
      → s.file ≡ file → old ≡ Some t → AreTurns pace b s old turns c u new → Keeps Firm s x.work None → IsImage t.shown
      → AgreeShown file.layout (shown_of file t.shown) x.shown → IsHeadCounted x b.since → Over b.due x turns (IsIdleBeat c u)
  turns_over [] s u old new b c t x of told NoTurns k whole agree counted =
      over_none b.due x (IsIdleBeat b s) (λ idle. ap (λ (r : Bool). next_piece b.due r) (sym (runs_is s x (stands s x of k))) ∙ idle)
  turns_over (y ∷ turns) s u old new b c t x of told (NextTurn v mid next call rest) k whole agree counted =
      let one = one_more y.exchange.act y.exchange.answer s v old mid t x of told call.call k whole agree in
      call_over y.exchange.act y.exchange.answer turns s v b x (IsIdleBeat c u) one.0 (stands s x of k) counted one.2 y.asker next
      (λ z keeps shown count. turns_over
      turns v u mid new (beat_after pace b y.asker v y.exchange.answer) c one.0 z one.2.file_is one.1 rest keeps one.2.whole shown count)

-- ---- a session that was opened

module _ (pace : Pace) (s : Replica) (t : Told) (mended : Option Told) (over : MendsAll t s mended)
    (whole : IsImage t.shown) (w : Work) (k : Keeps Firm s w None) (last : Replica) (new : Option Told) (shown : Shown)
    (agree : AgreeShown s.file.layout (shown_of s.file t.shown) shown) where
  abbrev x : Stand
  x = start shown w

  abbrev b : Beat
  b = started s.head

  none : rest_due (shape s.file) (codec s.file) b.due x ≡ []
  none = nothing_due (shape s.file) (codec s.file) b.due x (starts_idle s.head (runs_at (shape s.file) (codec s.file) x))

  counted : IsHeadCounted x s.head
  counted = let same = head_is pace s.file s x (stands pace s.file s x refl k) in omega (arith, same)

  over_all : (turns : List Turned) (c : Beat) (u : Replica) (mid : Option Told)
      → AreTurns pace b s mended turns c u mid → Over pace s.file b.due x turns (IsIdleBeat c u)
  over_all turns c u mid are = let here = opened_agrees s t mended over shown whole agree in
      turns_over pace s.file turns s u mended mid b c here.first x refl here.told are k here.whole here.agrees counted

  -- its calls are the result
  result_is : (turns : List Turned) (status : Status) (idle : Type 0) → AnswersResult s.file shown w (exchanges_in turns)
      → Over pace s.file b.due x turns idle → (IsThrough status → idle) → IsResultOf pace s.file shown w turns status
  result_is turns status idle answers is through =
      let here : all_by_loop (shape s.file) (codec s.file) x (rest_due (shape s.file) (codec s.file) b.due x) ≡ x =
      ap (λ (cs : List Command). all_by_loop (shape s.file) (codec s.file) x cs) none in
      let says : List Command = map command_of_line (all_said turns) in record {
        answers = answers;
        text = is.text ∙ ap (λ (u : Stand). joined (paced (shape s.file) (codec s.file) pace u says)) here;
        rest = is.rest;
        commands = sym (λ i. none i ++ all_commands (shape s.file) (codec s.file) pace (here i) says) ∙ is.commands;
        whole = λ yes. is.whole (through yes);
      }

  pub opened_prints : (turns : List Turned) (failing : Option Failing) (status : Status) → (IsThrough status → (failing ≡ None)
      × (status ≡ WriteFault → ⊥)) → EndTurns pace b s mended turns failing status last new → IsResultOf pace s.file shown w turns status
  opened_prints turns None status through ends =
      result_is turns status (IsIdleBeat ends.0 last) (opened_answers s t mended over whole w k last new None
      shown agree (exchanges_in turns) (all_calls pace b s mended turns None status last new ends)) (over_all turns ends.0 last new ends.1)
      (λ yes. ends.2 (through yes).1)
  opened_prints turns (Some f) status through ends = result_is turns status (IsIdleBeat ends.0 ends.1) (opened_answers s t mended
      over whole w k last new (Some f.act) shown agree (exchanges_in turns) (all_calls pace b s mended turns (Some f) status last new ends))
      (over_all turns ends.0 ends.1 ends.2 ends.3) (λ yes. absurd (let no = (through yes).0 in cc))
