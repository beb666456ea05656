-- What the work beside a script leaves as it was.
use Rattle.std.specs.Prelude.{◌≡◌, ℕ, Bool, true, false, List, [], ◌∷◌, map, None, Ok, Err}
use Rattle.df_theory.specs.{Shape.{Shape}, View.{head, sessions}}
use Rattle.df_model.specs.{Work.{Work}, Commands.{Answer, Append, Command, Flush, ReadReply, Recent, Reply, Scrub, Stage, ToAppend, ToReadReply, ToStage}, Supply.{Codec, Shown, last_shown, last_work}}
use Rattle.df_model.specs.declared.errors.AppendError.{AppendError}
use Rattle.df_model.specs.declared.errors.AppendError.TheVariants as append
use Rattle.df_script_model.specs.Script.{printed, texts}
use Rattle.df_pace.specs.{declared.pace.Pace.{Pace}, Loop.{Stand, all_commands, answered, ended, paced, start}}

-- ---- what a paced script is

-- where nothing is due a script prints what it prints alone
abbrev pub IdleLaw : Type 0
IdleLaw = (sh : Shape) (codec : Codec) (shown : Shown) (w : Work) (lines : List Command) → paced sh codec (record { scrub = 0; every = 0; steps = 0 }) (start shown w) lines ≡ printed sh codec shown w lines

-- a script prints the texts of its answers
abbrev pub AnsweredLaw : Type 0
AnsweredLaw = (sh : Shape) (codec : Codec) (pace : Pace) (x : Stand) (cs : List Command) → paced sh codec pace x cs ≡ texts cs (answered sh codec pace x cs)

-- a script with the work beside it is one session of all these commands: it ends where they lead
pub record IsOneSession (sh : Shape) (codec : Codec) (pace : Pace) (x : Stand) (lines : List Command) : Type 0 where
  pub image : (ended sh codec pace x lines).shown ≡ last_shown sh codec x.shown x.work (all_commands sh codec pace x lines)
  pub work : (ended sh codec pace x lines).work ≡ last_work sh codec x.shown x.work (all_commands sh codec pace x lines)

abbrev pub SessionLaw : Type 0
SessionLaw = (sh : Shape) (codec : Codec) (pace : Pace) (x : Stand) (lines : List Command) → IsOneSession sh codec pace x lines

-- ---- a fact of each

abbrev pub EachOf : {X : Type 0} → (X → Type 0) → List X → Type 0
EachOf P [] = Unit {0}
EachOf P (x ∷ xs) = P x × EachOf P xs

-- ---- the scrubber

-- a line neither scrubs nor asks what scrubbing found
abbrev pub AsksOfOthers : Command → Type 0
AsksOfOthers Scrub = ⊥
AsksOfOthers Recent = ⊥
AsksOfOthers command = Unit {0}

-- two runs of a script with as much scrubbing as they please print the same, and end with the same image and the same view
pub record AreUnscrubbed (sh : Shape) (codec : Codec) (pace other : Pace) (x : Stand) (lines : List Command) : Type 0 where
  pub texts : paced sh codec pace x lines ≡ paced sh codec other x lines
  pub image : (ended sh codec pace x lines).shown ≡ (ended sh codec other x lines).shown
  pub view : (ended sh codec pace x lines).work.view ≡ (ended sh codec other x lines).work.view

abbrev pub ScrubbingLaw : Type 0
ScrubbingLaw = (sh : Shape) (codec : Codec) (pace : Pace) (scrub : ℕ) (x : Stand) (lines : List Command) → EachOf AsksOfOthers lines → AreUnscrubbed sh codec pace (record pace { scrub = scrub }) x lines

-- ---- the log

-- a line of the log alone
abbrev pub IsOfLog : Command → Type 0
IsOfLog (Append client request body) = Unit {0}
IsOfLog (Stage client request body) = Unit {0}
IsOfLog Flush = Unit {0}
IsOfLog (Reply op body) = Unit {0}
IsOfLog (ReadReply client) = Unit {0}
IsOfLog command = ⊥

abbrev pub is_ring_full : AppendError → Bool
is_ring_full (append.WalFull op checkpoint_op) = true
is_ring_full e = false

-- the ring has no slot for a request, whether it is appended or staged, before a checkpoint is done
abbrev pub is_full : Answer → Bool
is_full (ToAppend (Err e)) = is_ring_full e
is_full (ToStage (Err e)) = is_ring_full e
is_full answer = false

abbrev pub IsNotFull : Answer → Type 0
IsNotFull answer = is_full answer ≡ false

-- a reply that was read, with 0 for the number of the checkpoint that it was made after
abbrev pub unnumbered : Answer → Answer
unnumbered (ToReadReply (Ok r)) = ToReadReply (Ok (record r { header = record r.header { checkpoint = 0 } }))
unnumbered answer = answer

-- what is printed, these numbers aside
abbrev pub bare_texts : List Command → List Answer → List (List ℕ)
bare_texts cs answers = texts cs (map unnumbered answers)

-- two runs of a script print the same but for these numbers, and end with the same head, replies and sessions
pub record AreOneLog (sh : Shape) (codec : Codec) (pace other : Pace) (x : Stand) (cs : List Command) : Type 0 where
  pub texts : bare_texts cs (answered sh codec pace x cs) ≡ bare_texts cs (answered sh codec other x cs)
  pub head : head (ended sh codec pace x cs).work.view ≡ head (ended sh codec other x cs).work.view
  pub replies : (ended sh codec pace x cs).work.view.replies ≡ (ended sh codec other x cs).work.view.replies
  pub sessions : sessions (ended sh codec pace x cs).work.view ≡ sessions (ended sh codec other x cs).work.view

-- from a state in which no checkpoint runs, as after an open, and where neither run finds the ring full
abbrev pub PacingLaw : Type 0
PacingLaw =
    (sh : Shape) (codec : Codec) (pace other : Pace) (x : Stand) (cs : List Command) → x.work.running ≡ None → EachOf IsOfLog cs → EachOf IsNotFull (answered sh codec pace x cs) → EachOf IsNotFull (answered sh codec other x cs)
    → AreOneLog sh codec pace other x cs
