-- Which sessions lack their reply, and which replies are found stored.
use Rattle.std.specs.Prelude.{◌≡◌, ◌<◌, ◌≤◌, ℕ, List, length, slice_get, if◌then◌else◌, nat_le, Option, Some, None, Result, Ok, Err}
use Rattle.df_disk.specs.Told.{Told}
use Rattle.df_layout.specs.{declared.damage.Class.{Class}, declared.damage.Class.TheVariants.{Stale}, declared.layout.Layout.{Layout}}
use Rattle.df_format.specs.{declared.header.Header.{Header}, declared.superblock.SuperFields.{SuperFields}}
use Rattle.df_sessions.specs.{declared.session.Session.{Session}, Requests.{sessions_of}}
use Rattle.df_theory.specs.Units
use Rattle.df_theory.specs.{Units.{AnyUnit, Content, Message, ReplyPlace, ReplyUnit}, Opens.{IsAnswered, LacksReply}, Found.{IsStored}, View.{View, sessions}}
use Rattle.df_units.specs.Wanted.{class_at}
use Rattle.df_replies.specs.{declared.answers.Lacking.{Lacking}, Named.{IsNamedBy}, Shown.{AreRepliesScanned}}

-- ---- in the table

-- the header is that of the reply to the session's last request
pub record IsReplyOf (s : Session) (h : Header) : Type 0 where
  pub client : h.client ≡ s.client
  pub request : h.request ≡ s.request
  pub op : h.op ≡ s.op

-- so the slot of a place answers the session, where the superblock takes what it shows
abbrev pub AnswersIn : SuperFields → ℕ → Session → Result Header Class → Type 0
AnswersIn f place s (Ok h) = IsReplyOf s h × IsNamedBy f place h
AnswersIn f place s (Err class) = ⊥

-- the class of a slot where another unit is wanted
abbrev pub class_of_reply : Result Header Class → Class
class_of_reply (Ok h) = Stale
class_of_reply (Err class) = class

-- a slot answers the session, or it has this class, where the reply is stored
abbrev pub TestsStored : SuperFields → ℕ → Session → ℕ → Result Header Class → Option Class → Type 0
TestsStored f place s n reply None = s.op ≤ n → AnswersIn f place s reply
TestsStored f place s n reply (Some class) = (s.op ≤ n) × (AnswersIn f place s reply → ⊥) × (class ≡ class_of_reply reply)

-- each of the first k sessions whose reply is stored is answered
abbrev pub AnsweredTo : SuperFields → List Session → ℕ → List (Result Header Class) → ℕ → Type 0
AnsweredTo f ss n replies k = (j : ℕ) (s : Session) → j < k → slice_get ss j ≡ Some s → s.op ≤ n → (reply : Result Header Class) × (slice_get replies j ≡ Some reply) × AnswersIn f j s reply

-- the first session whose reply is stored and isn't in the table
pub record IsFirstLacking (f : SuperFields) (ss : List Session) (n : ℕ) (replies : List (Result Header Class)) (lacking : Lacking) : Type 0 where
  pub session : Session
  pub at : slice_get ss lacking.place ≡ Some session
  pub stored : session.op ≤ n
  pub reply : Result Header Class
  pub there : slice_get replies lacking.place ≡ Some reply
  pub lacks : AnswersIn f lacking.place session reply → ⊥
  pub class : lacking.class ≡ class_of_reply reply
  pub first : AnsweredTo f ss n replies lacking.place

abbrev pub LacksHere : SuperFields → List Session → ℕ → List (Result Header Class) → Option Lacking → Type 0
LacksHere f ss n replies None = AnsweredTo f ss n replies (length ss)
LacksHere f ss n replies (Some lacking) = IsFirstLacking f ss n replies lacking

-- ---- in the theory

-- each stored reply is shown
abbrev pub AllAnswered : Units.Units → Content → List Units.Session → ℕ → Type 0
AllAnswered image c ss n = (k : ℕ) (s : Units.Session) → slice_get ss k ≡ Some s → s.op ≤ n → IsAnswered image c k s

-- the first session that lacks its reply, or none
abbrev pub Lacks : Units.Units → Content → List Session → ℕ → Option Lacking → Type 0
Lacks image c ss n None = AllAnswered image c (sessions_of ss) n
Lacks image c ss n (Some lacking) = LacksReply image c (sessions_of ss) n lacking.place

-- with the class of what its slot shows, where that was scanned
abbrev pub HasClass : List (Result Header Class) → Lacking → Type 0
HasClass replies lacking = (layout : Layout) (cluster : ℕ) (t : Told) → AreRepliesScanned layout cluster (Some t) replies → lacking.class ≡ class_at layout cluster t.shown (ReplyPlace lacking.place)

-- the reply that counts as stored: the one that is shown at the place of a session whose op is at most n
abbrev pub stored_by : ℕ → Option Units.Session → Option AnyUnit → Option Message
stored_by n (Some s) (Some (ReplyUnit r)) = if nat_le s.op n then Some r else None
stored_by n session x = None

-- where each stored reply is shown, these and no others are found stored
abbrev pub StoredAreFound : Type 0
StoredAreFound =
    (image : Units.Units) (v : View) → AllAnswered image v.checkpoint.content (sessions v) v.replies → ((k : ℕ) → v.stored k ≡ stored_by v.replies (slice_get (sessions v) k) (image (ReplyPlace k))) → IsStored image v

-- and where they are found, each is shown
abbrev pub FoundAreStored : Type 0
FoundAreStored =
    (image : Units.Units) (v : View) → IsStored image v
    → AllAnswered image v.checkpoint.content (sessions v) v.replies × ((k : ℕ) → v.stored k ≡ stored_by v.replies (slice_get (sessions v) k) (image (ReplyPlace k)))
