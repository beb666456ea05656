-- A script with the work beside it is one session.
use Rattle.{std.proofs.Common.{◌≡◌, List, [], ◌∷◌, ◌++◌, refl, sym, ◌∙◌}, df_theory.specs.Shape.{Shape}}
use Rattle.df_model.specs.{Work.{Work}, Memory.{memory_of}, Commands.{Command}, Supply.{Codec, Shown, last_shown, last_work, next, shown_after}}
use Rattle.df_pace.specs.{declared.pace.Pace.{Pace}, Loop.{Stand, all_by_loop, by_script, all_commands, stand_after, by_loop, commands_due, passed}, Laws.{IsOneSession, SessionLaw}}

module _ (sh : Shape) (codec : Codec) where
  work_join : (shown : Shown) (w : Work) (cs ds : List Command)
      → last_work sh codec shown w (cs ++ ds) ≡ last_work sh codec (last_shown sh codec shown w cs) (last_work sh codec shown w cs) ds
  work_join shown w [] ds = refl
  work_join shown w (c ∷ cs) ds = work_join (shown_after codec shown (memory_of sh codec.spell w) c) (next sh codec shown w c).0 cs ds

  shown_join : (shown : Shown) (w : Work) (cs ds : List Command)
      → last_shown sh codec shown w (cs ++ ds) ≡ last_shown sh codec (last_shown sh codec shown w cs) (last_work sh codec shown w cs) ds
  shown_join shown w [] ds = refl
  shown_join shown w (c ∷ cs) ds = shown_join (shown_after codec shown (memory_of sh codec.spell w) c) (next sh codec shown w c).0 cs ds

  loop_work : (x : Stand) (cs : List Command) → (all_by_loop sh codec x cs).work ≡ last_work sh codec x.shown x.work cs
  loop_work x [] = refl
  loop_work x (c ∷ cs) = loop_work (by_loop sh codec x c) cs

  loop_shown : (x : Stand) (cs : List Command) → (all_by_loop sh codec x cs).shown ≡ last_shown sh codec x.shown x.work cs
  loop_shown x [] = refl
  loop_shown x (c ∷ cs) = loop_shown (by_loop sh codec x c) cs

  -- the work after a line, and then all the rest
  rest_work : (pace : Pace) (y : Stand) (cs : List Command) → last_work sh codec (stand_after sh codec pace y).shown
      (stand_after sh codec pace y).work cs ≡ last_work sh codec y.shown y.work (commands_due sh codec pace y ++ cs)
  rest_work pace y cs = let due = commands_due sh codec pace y in
      (λ i. last_work sh codec (loop_shown y due i) (loop_work y due i) cs) ∙ sym (work_join y.shown y.work due cs)

  rest_shown : (pace : Pace) (y : Stand) (cs : List Command) → last_shown sh codec (stand_after sh codec pace y).shown
      (stand_after sh codec pace y).work cs ≡ last_shown sh codec y.shown y.work (commands_due sh codec pace y ++ cs)
  rest_shown pace y cs = let due = commands_due sh codec pace y in
      (λ i. last_shown sh codec (loop_shown y due i) (loop_work y due i) cs) ∙ sym (shown_join y.shown y.work due cs)

  one_session : (pace : Pace) (lines : List Command) (x : Stand) → IsOneSession sh codec pace x lines
  one_session pace [] x = record { image = refl; work = refl }
  one_session pace (c ∷ more) x = let y = by_script sh codec x c in let z = passed sh codec pace x c in
      let rest = one_session pace more z in
      record { image = rest.image ∙ rest_shown pace y (all_commands sh codec pace z more); work = rest.work ∙ rest_work pace y (all_commands sh codec pace z more) }

pub session_law : SessionLaw
session_law sh codec pace x lines = one_session sh codec pace lines x
