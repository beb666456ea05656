-- Commands that were made one after the other are joined: all of some, and then others, or the first of them.
use Rattle.std.proofs.{Common.{◌≡◌, inl, inr, List, [], ◌∷◌, ◌++◌, All, map, Option, Some, None, Result, Ok, Err, refl, sym, ◌∙◌, ap, append_assoc}, lemmas.List.{map-append}, lemmas.List.Elements.{All-append, All-cons, All-head, All-nil, All-tail}}
use Rattle.{df_disk.specs.Told.{Told}, df_layout.specs.declared.places.Place.{Place}, df_model.specs.Commands.{Answer, Command}}
use Rattle.df_session.{specs.{Below.{State as Replica}, Endings.{EndsBy, IsDamagedStep}, Links.{AreCalls, EndsCalls, Makes, More, NoCalls, list_of}, Session.{Act, Exchange, act_in, acts_in, answer_in, answers_in, command_in}, declared.hearing.Fault.{Fault}}, proofs.Laws.{calls_join}}
use Rattle.df_session.specs.declared.hearing.Fault.TheVariants as faults
use Rattle.df_table.specs.{declared.ending.Ending.{Ending}, declared.ending.Ending.TheVariants.{Disk, Damaged, NotTable, OpsSpent, SequenceSpent}, Calls.{Comes}, Statuses.{ended_by}, Turns.{AreAccepted, EndIn, EndsFor, IsAccepted, LastIs, MakeAll, WasAccepted}}

-- ---- lists of calls

pub ends_join : (s u t : Replica) (old mid new : Option Told) (xs ys : List Exchange) (failed : Option Act)
    → AreCalls s old xs u mid → EndsCalls u t mid new ys failed → EndsCalls s t old new (xs ++ ys) failed
ends_join s u t old mid new xs ys None calls ends = calls_join s u t old mid new xs ys calls ends
ends_join s u t old mid new xs ys (Some a) calls ends = (ends.0, ends.1, calls_join s u ends.0 old mid ends.1 xs ys calls ends.2, ends.3)

-- the last answer is the last of more
last_more : (x : Answer) (xs ys : List Exchange) → LastIs x (answers_in ys) → LastIs x (answers_in (xs ++ ys))
last_more x xs ys is =
    (answers_in xs ++ is.0, map-append answer_in xs ys ∙ ap (λ (l : List Answer). answers_in xs ++ l) is.1 ∙ sym (append_assoc (answers_in xs) is.0 (x ∷ [])))

why_more : (ending : Ending) (new : Option Told) (xs ys : List Exchange) (failed : Option Act)
    → EndsFor ending new (answers_in ys) failed → EndsFor ending new (answers_in (xs ++ ys)) failed
why_more Disk new xs ys failed why = why
why_more (Damaged place class) new xs ys failed (inl stepped) = inl stepped
why_more (Damaged place class) new xs ys failed (inr shown) = inr (shown.0, (shown.1.0, last_more shown.1.0 xs ys shown.1.1, shown.1.2))
why_more (NotTable place) new xs ys failed why = why
why_more OpsSpent new xs ys failed why = (why.0, last_more _ xs ys why.1)
why_more SequenceSpent new xs ys failed why = (why.0, last_more _ xs ys why.1)

accepted_more : (xs ys : List Exchange) (failed : Option Act) → All WasAccepted xs → AreAccepted ys failed → AreAccepted (xs ++ ys) failed
accepted_more [] ys failed all more = more
accepted_more (x ∷ xs) ys failed all more =
    (inl (All-head WasAccepted x xs all), accepted_more xs ys failed (All-tail WasAccepted x xs all) more)

-- ---- commands

pub make_none : (s : Replica) (told : Option Told) → MakeAll [] s s told told
make_none s told = record { exchanges = []; calls = NoCalls; are = refl; accepted = All-nil WasAccepted }

-- nothing was made, since what was seen before shows that the file is no table's
pub end_none : (commands : List Command) (s : Replica) (told : Option Told) (place : Place) → EndIn commands s s told told (NotTable place)
end_none commands s told place =
    record { exchanges = []; failed = None; calls = NoCalls; rest = commands; are = refl; accepted = tt; why = refl }

-- what these ask for, and then others
asks_join : (xs ys : List Exchange) (last : List Act)
    → map command_in (acts_in (xs ++ ys) ++ last) ≡ map command_in (acts_in xs) ++ map command_in (acts_in ys ++ last)
asks_join [] ys last = refl
asks_join (x ∷ xs) ys last = ap (λ (l : List Command). x.act.command ∷ l) (asks_join xs ys last)

module _ (cs ds : List Command) (s u t : Replica) (old mid new : Option Told) (one : MakeAll cs s u old mid) where
  pub make_more : MakeAll ds u t mid new → MakeAll (cs ++ ds) s t old new
  make_more two = record {
    exchanges = one.exchanges ++ two.exchanges;
    calls = calls_join s u t old mid new one.exchanges two.exchanges one.calls two.calls;
    are = ap (map command_in) (map-append act_in one.exchanges two.exchanges)
        ∙ map-append command_in (acts_in one.exchanges) (acts_in two.exchanges) ∙ (λ i. one.are i ++ two.are i);
    accepted = All-append WasAccepted one.exchanges two.exchanges one.accepted two.accepted;
  }

  pub end_more : (ending : Ending) → EndIn ds u t mid new ending → EndIn (cs ++ ds) s t old new ending
  end_more ending two = let last = list_of two.failed in record {
    exchanges = one.exchanges ++ two.exchanges;
    failed = two.failed;
    calls = ends_join s u t old mid new one.exchanges two.exchanges two.failed one.calls two.calls;
    rest = two.rest;
    are = ap (λ (l : List Command). l ++ two.rest) (asks_join one.exchanges two.exchanges last)
        ∙ append_assoc (map command_in (acts_in one.exchanges)) (map command_in (acts_in two.exchanges ++ last)) two.rest
        ∙ (λ i. one.are i ++ two.are i);
    accepted = accepted_more one.exchanges two.exchanges two.failed one.accepted two.accepted;
    why = why_more ending new one.exchanges two.exchanges two.failed two.why;
  }

  pub comes_more : {T : Type 0} (r : Result T Ending) → Comes ds u t mid new r → Comes (cs ++ ds) s t old new r
  comes_more (Ok x) two = make_more two
  comes_more (Err ending) two = end_more ending two

-- what ends some commands ends more
pub end_front : (cs ds : List Command) (s t : Replica) (old new : Option Told) (ending : Ending)
    → EndIn cs s t old new ending → EndIn (cs ++ ds) s t old new ending
end_front cs ds s t old new ending ends = record {
  exchanges = ends.exchanges;
  failed = ends.failed;
  calls = ends.calls;
  rest = ends.rest ++ ds;
  are = sym (append_assoc (map command_in (acts_in ends.exchanges ++ list_of ends.failed)) ends.rest ds)
      ∙ ap (λ (l : List Command). l ++ ds) ends.are;
  accepted = ends.accepted;
  why = ends.why;
}

-- ---- one command

module _ (command : Command) (s t : Replica) (old new : Option Told) where
  -- it was made and accepted
  pub one_made : (x : Answer) → Makes command s t old new (Some x) → IsAccepted x → MakeAll (command ∷ []) s t old new
  one_made x made accepted = let one : Exchange = record { act = made.act; answer = x } in
      record { exchanges = one ∷ []; calls = More t new made.calls NoCalls; are = ap (λ (c : Command). c ∷ []) made.is; accepted = All-cons WasAccepted one [] accepted (All-nil WasAccepted) }

  -- it was made, and has no answer
  why_failed : (act : Act) → act.command ≡ command → (fault : Fault) → EndsBy fault command new → EndsFor (ended_by fault) new [] (Some act)
  why_failed act is faults.Disk ends = (act, refl)
  why_failed act is (faults.Damaged place class) ends = inl (act, refl, rw (sym is) at ends)

  pub one_failed : (fault : Fault)
      → Makes command s t old new None × EndsBy fault command new → EndIn (command ∷ []) s t old new (ended_by fault)
  one_failed fault made = record {
    exchanges = [];
    failed = Some made.0.act;
    calls = (s, old, NoCalls, made.0.calls);
    rest = [];
    are = ap (λ (c : Command). c ∷ []) made.0.is;
    accepted = tt;
    why = why_failed made.0.act made.0.is fault made.1;
  }

  -- it was made, and its answer ends what is asked for
  pub one_spent : (x : Answer) (ending : Ending)
      → Makes command s t old new (Some x) → EndsFor ending new (x ∷ []) None → EndIn (command ∷ []) s t old new ending
  one_spent x ending made why = record {
    exchanges = record { act = made.act; answer = x } ∷ [];
    failed = None;
    calls = More t new made.calls NoCalls;
    rest = [];
    are = ap (λ (c : Command). c ∷ []) made.is;
    accepted = (inr (refl, refl), tt);
    why = why;
  }
