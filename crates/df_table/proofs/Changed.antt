-- The commands of a put or a drop: those that make room, the append, and the reply to it.
use Rattle.std.{proofs.Common.{◌≡◌, ℕ, ◌+◌, Bool, true, false, if◌then◌else◌, List, [], ◌∷◌, Option, Result, Ok, Err, ◌∙◌, ap, subst}, specs.Prelude.{IfErr, OnOk}}
use Rattle.{df_disk.specs.Told.{Told}, df_layout.specs.declared.layout.Layout.{Layout}, df_theory.specs.Units.{Session}}
use Rattle.df_model.specs.{Commands.{Append, Command, Reply}, Refusals.{next_request, session_of_client}}
use Rattle.df_rows.specs.{declared.command.Command.{Command as Change}, Commands.{Map, body_of}}
use Rattle.df_session.specs.Below.{State as Replica, memory}
use Rattle.df_table.{specs.{declared.ending.Ending.{Ending}, Calls.{Changes, Checkpoints, Comes, GoesOrEnds, MakesRoom}, Policy.{checkpoint, is_full, request, room_for, the_client}, Ready.{HasRingRoom}, Turns.{EndIn, IsOfCall, MakeAll}}, proofs.Joined.{comes_more, end_front, end_more, make_more, make_none}}

-- ---- room

pub room_made : {T : Type 0} (layout : Layout) (rows : Map) (s t : Replica) (old new : Option Told) (r : Result T Ending)
    → is_full (memory s) ≡ true → Checkpoints layout rows s t old new r → MakesRoom layout rows s t old new r
room_made layout rows s t old new r full comes = (comes.0, rw full comes.1)

pub room_left : (layout : Layout) (rows : Map) (s : Replica) (told : Option Told)
    → is_full (memory s) ≡ false → MakesRoom {T = Unit {0}} layout rows s s told told (Ok tt)
room_left layout rows s told room = (0, rw room (make_none s told))

-- ---- the request and its reply

module _ (c : Change) (s : Replica)
    (n : ℕ) (body : List ℕ) (asks : n ≡ next_request (session_of_client the_client (memory s).sessions)) (spells : body ≡ body_of c) where
  -- with this number and this body
  abbrev by_parts : ℕ → List ℕ → List Command
  by_parts k bytes = Append the_client k bytes ∷ Reply (s.head + 1) [] ∷ []

  same_parts : by_parts n body ≡ request (memory s) c
  same_parts = ap (λ (k : ℕ). by_parts k body) asks ∙ ap (by_parts (next_request (session_of_client the_client (memory s).sessions))) spells

  -- nothing was appended
  pub append_ends : (t : Replica) (old new : Option Told) (ending : Ending)
      → EndIn (Append the_client n body ∷ []) s t old new ending → EndIn (request (memory s) c) s t old new ending
  append_ends t old new ending ends = subst (λ (l : List Command). EndIn l s t old new ending)
      same_parts (end_front (Append the_client n body ∷ []) (Reply (s.head + 1) [] ∷ []) s t old new ending ends)

  module _ (v t : Replica)
      (old one new : Option Told) (appends : MakeAll (Append the_client n body ∷ []) s v old one) (op : ℕ) (next : op ≡ s.head + 1) where
    -- no reply was stored
    pub reply_ends : (ending : Ending) → EndIn (Reply op [] ∷ []) v t one new ending → EndIn (request (memory s) c) s t old new ending
    reply_ends ending ends = subst (λ (l : List Command). EndIn l s t old new ending) same_parts
        (end_more (Append the_client n body ∷ []) (Reply (s.head + 1) [] ∷ []) s v t old one new appends ending (rw next at ends))

    -- both were made
    pub both_made : MakeAll (Reply op [] ∷ []) v t one new → MakeAll (request (memory s) c) s t old new
    both_made replies = subst (λ (l : List Command). MakeAll l s t old new) same_parts
        (make_more (Append the_client n body ∷ []) (Reply (s.head + 1) [] ∷ []) s v t old one new appends (rw next at replies))

-- ---- a put or a drop

module _ (layout : Layout) (rows : Map) (c : Change) (s : Replica) where
  -- no room was made
  pub room_ends : (T : Type 0) (t : Replica) (old new : Option Told) (ending : Ending)
      → MakesRoom {T = Unit {0}} layout rows s t old new (Err ending) → Changes {T = T} layout rows c s t old new (Err ending)
  room_ends T t old new ending ends =
      (ends.0, end_front (room_for layout (memory s) rows ends.0) (request (memory s) c) s t old new ending ends.1)

  -- after it, the head and the sessions are those of before
  same_request : (u : Replica) → HasRingRoom layout s u → request (memory u) c ≡ request (memory s) c
  same_request u room = ap (λ (ss : List Session).
      Append the_client (next_request (session_of_client the_client ss)) (body_of c) ∷ Reply (u.head + 1) [] ∷ []) room.sessions
      ∙ ap (λ (h : ℕ).
      Append the_client (next_request (session_of_client the_client (memory s).sessions)) (body_of c) ∷ Reply (h + 1) [] ∷ []) room.head

  pub change_comes : {T : Type 0} (u t : Replica) (old one new : Option Told) (r : Result T Ending) → MakesRoom {T = Unit {0}} layout
      rows s u old one (Ok tt) → HasRingRoom layout s u → Comes (request (memory u) c) u t one new r → Changes layout rows c s t old new r
  change_comes u t old one new r makes room comes =
      (makes.0, comes_more (room_for layout (memory s) rows makes.0) (request (memory s) c) s u t old one new makes.1 r (rw (same_request u room) at comes))

-- calls may go on, or not: as it ended
pub goes_or_ends : {T : Type 0} (result : Result T Ending) (t : Replica) (new : Option Told)
    → OnOk result (t.live ≡ true) → IfErr result (IsOfCall new) → GoesOrEnds result t new
goes_or_ends (Ok x) t new live ends = live
goes_or_ends (Err ending) t new live ends = ends

-- of one that goes on they may
pub goes_on : {T : Type 0} (result : Result T Ending) (t : Replica) (new : Option Told) → GoesOrEnds result t new → OnOk result (t.live ≡ true)
goes_on (Ok x) t new goes = goes
goes_on (Err ending) t new goes = tt
