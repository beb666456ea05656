-- Every call: whose device calls are the machine's has good moments, and where it answered what is kept goes on.
use Rattle.std.proofs.{Common.{◌≡◌, inl, inr, true, false, List, [], ◌∷◌, Option, Some, None, refl, sym, ap, subst}, lemmas.Option.{same_Some}}
use Rattle.df_base.{specs.{Log.{Event, IsLog, Log, now}, Moments.{EachMoment, Extends, adds}}, proofs.Laws.{extends_self, extends_on}}
use Rattle.df_disk.{specs.{Told.{Told, did}, Adds.{AddsPart, after_all}}, proofs.Laws.{all_is_part, tells_on}}
use Rattle.df_opening.{specs.Below.{IsWritten, DataFile, Represents, State, shape, spelling}, proofs.Laws.{front_of, all_front, good_safe, firmly}}
use Rattle.{df_format.specs.declared.header.Header.{Header}, df_journal.specs.Append.{ShowsRing}}
use Rattle.df_theory.specs.{Device.{Format, units_log}, Shape.{Shape}, Units.{AnyUnit, BlockPlace, BlockUnit, Place}}
use Rattle.df_units.proofs.Laws.{all_added, is_format, part_moments, steps_within}
use Rattle.df_model.{specs.{Commands.{Answer, Command, Given, IsInput}, OnDisk.{BacksOnDisk, DoesOnDisk, LeadsOnDisk}, Sense.{IsBacked, IsWork}, Work.{Work, kept}}, proofs.Laws.{disk_command_law, sense_law}}
use Rattle.df_replica.{specs.{Serving.{EachIsGood, Firm, GoesOnTo, Grade, IsCall, IsGoodFor, IsKept, Keeps, KeptFor, Whole, format, next}, Supply.{IsSupplied}, WrittenFor.{IsWrittenFor, WritesOn}}, proofs.{Leaves.{others_spared, Makes, leaves_copies, leaves_shown, settles_on, spares_held}, Makes.{HasEach, OfMade, after_has, made_weaker}, WritesOn.{StandsIn, brought_is_written, stays_written}}}

-- ---- logs that go on

tells_none : (events : List Event) (n : Told) → AddsPart events None (Some n) → ⊥
tells_none [] n part = cc
tells_none (e ∷ es) n (inl same) = cc
tells_none (e ∷ es) n (inr more) = tells_none es n more

-- the log that a call leaves goes on from the one before it
grows : (events : List Event) (t n : Told) → AddsPart events (Some t) (Some n) → Extends n.log t.log
grows [] t n is = subst (λ (x : Told). Extends x.log t.log) (sym (same_Some _ _ is)) (extends_self t.log)
grows (e ∷ es) t n (inl is) = subst (λ (x : Told). Extends x.log t.log) (sym (same_Some _ _ is)) (extends_self t.log)
grows (e ∷ es) t n (inr more) = extends_on n.log (did e t).log t.log (grows es (did e t) n more) (e ∷ [], refl, refl)

-- ---- a call whose device calls are the machine's

-- its device calls are the machine's, from each state that is kept
abbrev pub AreCalls : Given → Command → State → List Event → Type 0
AreCalls given command s events = (g : Grade) (w : Work) (t : Told)
    → IsKept g s w t.log → DoesOnDisk (format s.file) (shape s.file) (spelling s.file) t.log w given command events

-- and it answered: its answer is the machine's, the state after it stands for the machine's, the unit that the command makes is one that a
-- device call wrote, and the header
-- ring shows its table
pub record Answered (given : Given) (command : Command) (s t : State) (events : List Event) (answer : Answer) : Type 0 where
  pub file : t.file ≡ s.file
  pub live : t.live ≡ true
  pub stands : (w : Work) → IsWork (shape s.file) (spelling s.file) w → Represents s w
      → (answer ≡ (next s.file w given command).1) × Represents t (next s.file w given command).0
  pub made : (w : Work) → IsWork (shape s.file) (spelling s.file) w
      → Represents s w → OfMade (shape s.file) (spelling s.file) (StandsIn (format s.file) events) w given command
  pub ring : (g : Grade) (w : Work) (a b : Told)
      → IsKept g s w a.log → Some b ≡ after_all events (Some a) → ShowsRing s.file.layout s.file.cluster (now b.log) t.headers

-- a call that asks nothing of the device answers so, where it keeps the file and the table of the header ring
pub answered_quiet : (s t : State) (given : Given) (command : Command) (answer : Answer)
    → t.file ≡ s.file → t.headers ≡ s.headers → t.live ≡ true → ((w : Work) → IsWork (shape s.file) (spelling s.file) w
    → Represents s w → (answer ≡ (next s.file w given command).1) × Represents t (next s.file w given command).0)
    → ((w : Work) → IsWork (shape s.file) (spelling s.file) w
    → Represents s w → OfMade (shape s.file) (spelling s.file) (StandsIn (format s.file) []) w given command)
    → Answered given command s t [] answer
answered_quiet s t given command answer file headers live stands made = record {
  file = file;
  live = live;
  stands = stands;
  made = made;
  ring = λ g w a b k all. subst (λ (hs : List Header). ShowsRing s.file.layout s.file.cluster (now b.log) hs) (sym headers)
      (subst (λ (x : Told). ShowsRing s.file.layout s.file.cluster (now x.log) s.headers) (sym (same_Some _ _ all)) k.ring);
}

-- and one that keeps all, where the machine's state and its answer are these
pub answered_still :
    (s : State) (given : Given) (command : Command) (answer : Answer)
    → s.live ≡ true → ((w : Work) → Represents s w → next s.file w given command ≡ (w, answer))
    → ((w : Work) → Represents s w → OfMade (shape s.file) (spelling s.file) (StandsIn (format s.file) []) w given command)
    → Answered given command s s [] answer
answered_still s given command answer live same made = answered_quiet s s given command answer refl refl live
    (λ w work rep. (ap (λ (x : Work × Answer). x.1) (sym (same w rep)), subst (λ (x : Work × Answer). Represents s x.0) (sym (same w rep)) rep))
    (λ w work rep. made w rep)

module _ (given : Given)
    (command : Command) (s : State) (events : List Event) (input : IsInput given command) (does : AreCalls given command s events) where
  module _ (g : Grade) (w : Work) (t : Told) (k : IsKept g s w t.log) where
    abbrev u : Work
    u = (next s.file w given command).0

    abbrev f : Format
    f = format s.file

    abbrev sh : Shape
    sh = shape s.file

    firm : KeptFor Firm sh (spelling s.file) (units_log f t.log) w
        → LeadsOnDisk f sh (spelling s.file) t.log w u events × (IsBacked (units_log f t.log) w → BacksOnDisk f sh t.log w u events)
    firm by = disk_command_law
        f sh (spelling s.file) t.log w given command events (is_format s.file.layout s.file.cluster) k.log_is input by (does g w t k)

    moments_for : (g : Grade)
        → KeptFor g sh (spelling s.file) (units_log f t.log) w → EachMoment t.log (adds events t.log) (IsGoodFor g f sh (kept w) (kept u))
    moments_for Firm by = (firm by).0.moments
    moments_for Whole by = ((firm by.0).1 by.1).moments

    ends_for : (g : Grade)
        → KeptFor g sh (spelling s.file) (units_log f t.log) w → KeptFor g sh (spelling s.file) (units_log f (adds events t.log)) u
    ends_for Firm by = (firm by).0.keeps
    ends_for Whole by = ((firm by.0).0.keeps, ((firm by.0).1 by.1).backed)

    pub moments : (n : Told) → AddsPart events (Some t) (Some n) → EachMoment t.log n.log (IsGoodFor g f sh (kept w) (kept u))
    moments n part = part_moments events t n (IsGoodFor g f sh (kept w) (kept u)) part (moments_for g k.kept_by)

    -- the last moment is the log at the end
    log_then : (n : Told) → AddsPart events (Some t) (Some n) → IsLog n.log
    log_then n part = (good_safe s.file
        g (kept w) (kept u) n.log (moments n part n.log (record { since = grows events t n part; until = extends_self n.log }))).is_log

    kept_then : (n : Told) → Some n ≡ after_all events (Some t) → KeptFor g sh (spelling s.file) (units_log f n.log) u
    kept_then n all =
        subst (λ (l : Log). KeptFor g sh (spelling s.file) (units_log f l) u) (sym (all_added events t n all)) (ends_for g k.kept_by)

  good_part : (old new : Option Told) → AddsPart events old new
      → (g : Grade) (w : Work) → Keeps g s w old → EachIsGood g s (kept w) (kept (next s.file w given command).0) old new
  good_part None None part g w k = tt
  good_part None (Some n) part g w k = absurd (tells_none events n part)
  good_part (Some t) None part g w k = absurd (tells_on events t part)
  good_part (Some t) (Some n) part g w k = (grows events t n part, moments g w t k n part)

  -- one that ended in a fault
  pub stopped_call : Makes given command s events → (t : State) (old new : Option Told)
      → IsSupplied s old command given → t.live ≡ false → AddsPart events old new → IsCall given command s t old new None
  stopped_call makes t old new supplied dead part = let front = front_of events old new part in
      let done = front.steps (format s.file) makes.steps makes.are in record {
        file = tt;
        input = input;
        supplied = supplied;
        live = dead;
        events = front.part;
        told = front.is;
        within = steps_within s.file.layout s.file.cluster front.part done.steps done.are;
        answers = λ g w k. tt;
        keeps = λ g w base k. (good_part base (after_all front.part base) (front.again base) g w k, tt);
        leaves = tt;
        others = others_spared given command s events makes front.part done;
        copies = λ w k. tt;
        spares = λ w k a held other sector here. front.dry sector (spares_held given command s events makes w k a held other sector here);
        settles = λ w log k settled. tt;
        written = λ w k. tt;
      }

  module _ (makes : Makes given command s events) (t : State) (answer : Answer) (call : Answered given command s t events answer) where
    sense_then : (w : Work) → IsWork (shape s.file) (spelling s.file) w → IsWork (shape t.file) (spelling t.file) (next s.file w given command).0
    sense_then w work = subst (λ (file : DataFile). IsWork (shape file) (spelling file) (next s.file w given command).0)
        (sym call.file) (sense_law (shape s.file) (spelling s.file) w given command input work)

    alone : (g : Grade) (w : Work) → Keeps g s w None → GoesOnTo g t None (next s.file w given command) (Some answer)
    alone g w k = ((call.stands w k.0 k.1).0, (sense_then w k.0, (call.stands w k.0 k.1).1))

    goes_on : (old new : Option Told) → new ≡ after_all events old
        → (g : Grade) (w : Work) → Keeps g s w old → GoesOnTo g t new (next s.file w given command) (Some answer)
    goes_on None None all g w k = alone g w k
    goes_on None (Some n) all g w k = absurd (tells_none events n (all_is_part events None (Some n) all))
    goes_on (Some a) None all g w k = absurd (tells_on events a (all_is_part events (Some a) None all))
    goes_on (Some a) (Some n) all g w k = let k_is : IsKept g s w a.log = k in let work = (firmly g s w a.log k_is).sense in
        let kept_on : IsKept g t (next s.file w given command).0 n.log = record {
          log_is = log_then g w a k_is n (all_is_part events (Some a) (Some n) all);
          stands = (call.stands w work k_is.stands).1;
          kept_by = subst (λ (file : DataFile). KeptFor g (shape file)
              (spelling file) (units_log (format file) n.log) (next s.file w given command).0) (sym call.file) (kept_then g w a k_is n all);
          ring = subst (λ (file : DataFile).
              ShowsRing file.layout file.cluster (now n.log) t.headers) (sym call.file) (call.ring g w a n k_is all);
        } in ((call.stands w work k_is.stands).0, kept_on)

    -- where all was written that the state before has, all was that the one after it has
    leads_on : (w : Work) → Keeps Firm s w None → (a b : Told)
        → Some b ≡ after_all events (Some a) → IsWrittenFor s.file a.log w → IsWrittenFor s.file b.log (next s.file w given command).0
    leads_on w k a b all was = let f = format s.file in let sh = shape s.file in let spell = spelling s.file in
        let P : Place → AnyUnit → Type 0 = λ place x. IsWritten (units_log f (adds events a.log)) place x in
        let had : HasEach sh P w = record {
          needs = λ place x need. stays_written f events a.log place x (was.view.needs place x need);
          trailer = λ r running address b at.
              stays_written f events a.log (BlockPlace address) (BlockUnit b) (was.trailer r running address b at);
        } in let made = made_weaker sh spell (StandsIn f events) P (λ place x.
        brought_is_written f events a.log place x) w given command (call.made w k.0 k.1) in
        let has = after_has sh spell P w had given command made in
        subst (λ (l : Log). IsWrittenFor s.file l (next s.file w given command).0) (sym (all_added events a b all)) (record {
          view = record { sound = (sense_law sh spell w given command input k.0).view; needs = has.needs };
          trailer = has.trailer;
        })

    writes_on : (old new : Option Told)
        → new ≡ after_all events old → (w : Work) → Keeps Firm s w None → WritesOn s.file old new w (next s.file w given command).0
    writes_on None None all w k = λ was. tt
    writes_on None (Some b) all w k = absurd (tells_none events b (all_is_part events None (Some b) all))
    writes_on (Some a) None all w k = λ was. tt
    writes_on (Some a) (Some b) all w k = λ was. leads_on w k a b all was

    -- one that answered
    pub answered_call : (old new : Option Told)
        → IsSupplied s old command given → new ≡ after_all events old → IsCall given command s t old new (Some answer)
    answered_call old new supplied all = record {
      file = call.file;
      input = input;
      supplied = supplied;
      live = call.live;
      events = events;
      told = all;
      within = steps_within s.file.layout s.file.cluster events makes.steps makes.are;
      answers = λ g w k. alone g w k;
      keeps = λ g w base k. (good_part base (after_all events base) (all_is_part events base (after_all events base) refl) g w k, goes_on base (after_all events base) refl g w k);
      leaves = λ image whole. leaves_shown given command s events makes image whole;
      others = others_spared given command s events makes events (all_front (format s.file) events makes.steps makes.are);
      copies = λ w k image whole. leaves_copies given command s events makes w k image whole;
      spares = λ w k. spares_held given command s events makes w k;
      settles = λ w log k settled. settles_on given command s events makes w log k settled;
      written = λ w k. writes_on old new all w k;
    }
