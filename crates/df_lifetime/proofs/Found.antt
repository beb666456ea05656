-- What was acknowledged in any session of a life is in the view that is found.
use Rattle.std.proofs.Common.{◌≡◌, ◌<◌, ◌^◌, inl, inr, List, [], ◌∷◌, ◌++◌, append_assoc, sym, ◌∙◌, ap, subst}
use Rattle.{df_base.specs.{Image.{Image, IsImage}, Log.{now}}, df_trailer.specs.Text.{parse_of}}
use Rattle.df_theory.{specs.{Found.{IsFound}, View.{View, boot_of}}, proofs.Laws.{one_found_law}}
use Rattle.df_units.{specs.{Bytes.{unit_at}, Meaning.{layout_of}}, proofs.Laws.{of_places}}
use Rattle.df_model.{specs.{Commands.{Answer, Command, Given}, Sense.{IsWork}, Memory.{memory_of}, Supply.{boot_sum}, Work.{Work, kept, opened}}, proofs.Laws.{found_law, next_law, raised_law, sense_law}}
use Rattle.df_session.{specs.{Below.{shape, spelling, DataFile}, HeldBlocks.{AreInputs}, Serving.{next}, Session.{Act, Exchange, acts_in, answers_in, answers_of, work_after}, Begun.{begun_work}, Codec.{codec}}, proofs.Laws.{codec_of, second_found}}
use Rattle.df_lifetime.{specs.{Acknowledged.{AcknowledgedIsFound, AllThere, AreThere}, Life.{Chapter, GoesBy, LeadsTo, MayHave}, There.{IsAnswerThere, Promised, promised_by, promised_in}}, proofs.{Done.{just_there}, Haves.{are_there, begun_bare}, Lives.{every_life_goes_on}, Next.{stays}, Promises.{promised_on}}}

-- ---- a state that is found makes sense, after its boot update

begun_makes_sense : (file : DataFile) (image : Image) (view : View) → file.version ≡ 2 → IsImage image → IsFound (shape file)
    (unit_at file.layout file.cluster image) view → boot_of view < 2 ^ 62 → IsWork (shape file) (spelling file) (begun_work file image view)
begun_makes_sense file image view version whole found unspent =
    let w : Work = opened (shape file) (unit_at file.layout file.cluster image) view in let before : IsWork (shape file) (spelling file) w =
    found_law (shape file)
    (spelling file) (unit_at file.layout file.cluster image) view (codec_of file) (second_found file image view whole version found)
    (of_places file.layout file.cluster file.named (parse_of (layout_of file.layout)) image whole) found in
    (raised_law (shape file) (spelling file) w (boot_sum (codec file) (memory_of (shape file) (spelling file) w)) before unspent).sense

-- ---- what was answered stays, whatever is done next

module _ (file : DataFile) where
  stays_behind : (acts : List Act) (w : Work) (rs : List Promised) (given : Given) (command : Command) (x : Answer) → IsWork (shape file) (spelling file) w → AreInputs acts → IsAnswerThere (kept w) rs given command x → IsAnswerThere (kept (work_after file w acts)) rs given command x
  stays_behind [] w rs given command x work inputs there = there
  stays_behind (a ∷ acts) w rs given command x work inputs there = stays_behind acts (next file w a.given a.command).0
      rs given command x (sense_law (shape file) (spelling file) w a.given a.command inputs.0 work) inputs.1
      (stays (shape file) (kept w) (kept (next file w a.given a.command).0)
      rs given command x work.view (next_law (shape file) (spelling file) w a.given a.command work) there)

  all_stay : (acts : List Act) (w : Work) (rs : List Promised) (done : List Exchange) → IsWork (shape file) (spelling file) w
      → AreInputs acts → AreThere (kept w) rs done → AreThere (kept (work_after file w acts)) rs done
  all_stay acts w rs [] work inputs there = tt
  all_stay acts w rs (x ∷ done) work inputs there =
      (stays_behind acts w rs x.act.given x.act.command x.answer work inputs there.0, all_stay acts w (promised_by rs x.act.command x.answer) done work inputs there.1)

  -- of the acts that came through the first ones were answered
  pub front_there : (xs : List Exchange) (more : List Act) (w : Work) → IsWork (shape file) (spelling file) w → AreInputs (acts_in xs ++ more) → answers_in xs ≡ answers_of file w (acts_in xs) → AreThere (kept (work_after file w (acts_in xs ++ more))) (promised_in w) xs
  front_there [] more w work inputs are = tt
  front_there (x ∷ xs) more w work inputs are = let a : Act = x.act in
      let then : IsWork (shape file) (spelling file) (next file w a.given a.command).0 =
      sense_law (shape file) (spelling file) w a.given a.command inputs.0 work in
      let v : View = kept (work_after file w (acts_in (x ∷ xs) ++ more)) in
      let one : x.answer ≡ (next file w x.act.given x.act.command).1 = cc in
      let rest : answers_in xs ≡ answers_of file (next file w x.act.given x.act.command).0 (acts_in xs) = cc in subst (λ (y : Answer).
      IsAnswerThere v (promised_in w) a.given a.command y × AreThere v (promised_by (promised_in w) a.command y) xs) (sym one) (
        stays_behind (acts_in xs ++ more) (next file w a.given a.command).0 (promised_in w) a.given
            a.command (next file w a.given a.command).1 then inputs.1 (just_there (shape file) (spelling file) w a.given a.command work),
        rw (sym (promised_on (shape file) (spelling file) w a.given work a.command)) at
            (front_there xs more (next file w a.given a.command).0 then inputs.1 rest),
      )

  pub front_inputs : (acts more : List Act) → AreInputs (acts ++ more) → AreInputs acts
  front_inputs [] more inputs = tt
  front_inputs (a ∷ acts) more inputs = (inputs.0, front_inputs acts more inputs.1)

  -- ---- a session

  module _ (version : file.version ≡ 2) (c : Chapter) (acts : List Act) (v u : View) (goes : GoesBy file c acts v u) where
    abbrev start : Work
    start = begun_work file c.shown v

    work : IsWork (shape file) (spelling file) start
    work = begun_makes_sense file c.shown v version goes.whole goes.found goes.unspent

    inputs : AreInputs (acts_in c.answered ++ goes.came.more)
    inputs = front_inputs (acts_in c.answered ++ goes.came.more) goes.came.rest
        (subst AreInputs (ap (λ (l : List Act). acts_in c.answered ++ l) goes.came.some
        ∙ sym (append_assoc (acts_in c.answered) goes.came.more goes.came.rest)) goes.inputs)

    -- what is there after the acts that came through is in the view that it came to
    came_there : (done : List Exchange)
        → AreThere (kept (work_after file start (acts_in c.answered ++ goes.came.more))) [] done → AreThere u [] done
    came_there done there = are_there (kept (work_after file start acts)) u goes.view [] done (rw (sym goes.came.are) at there)

    -- so is what was answered in it
    answered_there : AreThere u [] c.answered
    answered_there = came_there c.answered (front_there c.answered goes.came.more start work inputs goes.answers_are)

    -- and what was answered before
    before_there : (done : List Exchange) → AreThere v [] done → AreThere u [] done
    before_there done there = came_there done (all_stay (acts_in c.answered
        ++ goes.came.more) start [] done work inputs (are_there v (kept start) (begun_bare file c.shown v) [] done there))

  -- what was answered in earlier sessions
  all_before : file.version ≡ 2
      → (c : Chapter) (v u : View) (chapters : List Chapter) → LeadsTo file c v u → AllThere v chapters → AllThere u chapters
  all_before version c v u [] leads there = tt
  all_before version c v u (d ∷ chapters) (inl is) there =
      (are_there v u is.same [] d.answered there.0, all_before version c v u chapters (inl is) there.1)
  all_before version c v u (d ∷ chapters) (inr goes) there =
      (before_there version c goes.0 v u goes.1 d.answered there.0, all_before version c v u chapters (inr goes) there.1)

  own_there : file.version ≡ 2 → (c : Chapter) (v u : View) → LeadsTo file c v u → AreThere u [] c.answered
  own_there version c v u (inl is) = subst (AreThere u []) (sym is.none) tt
  own_there version c v u (inr goes) = answered_there version c goes.0 v u goes.1

  all_there : file.version ≡ 2 → (first : View) (chapters : List Chapter) (u : View) → MayHave file first chapters u → AllThere u chapters
  all_there version first [] u had = tt
  all_there version first (c ∷ chapters) u had =
      (own_there version c had.0 u had.2, all_before version c had.0 u chapters had.2 (all_there version first chapters had.0 had.1))

pub acknowledged_is_found : AcknowledgedIsFound
acknowledged_is_found file first t chapters view life chance found = let goes = every_life_goes_on file first t chapters life chance in
    let shows : now t.log ≡ t.shown = λ i sector. sym (goes.may.honest.shows sector) i in
    let there : IsFound (shape file) (unit_at file.layout file.cluster t.shown) goes.view = rw shows at goes.may.found in
    let one : goes.view ≡ view = one_found_law (shape file) (unit_at file.layout file.cluster t.shown) goes.view view there found in
    rw one at (all_there file goes.may.version first chapters goes.view goes.had)
