-- How one view follows another: by an append, a reply, a finished checkpoint or a boot update.
use Rattle.std.specs.{Prelude.{◌≡◌, ◌<◌, ◌≤◌, ◌+◌, ◌-◌, ◌==◌, ℕ, nat_lt, if◌then◌else◌, List, [], ◌∷◌, ◌++◌, length, drop, slice_index, take, Option, Some, None}, List.{slice_get}}
use Rattle.df_base.specs.declared.TheConstants.{GREATEST}
use Rattle.df_theory.specs.{Units.{Content, Header, Message, Session, IsAlone}, Sessions.{noted, sessions_after, MayAsk, Answers}, Tails.{EndsAt, In, last_checksum}, Shape.{Shape, slots, clients}}
use Rattle.df_theory.specs.{Trailer.{IsTrailer}, View.{Checkpoint, IsOfVersion, View, boot_of, head, sequence, sessions}}

-- what is stored for a session: nothing where its op is above this one
abbrev pub kept : Option Session → ℕ → Option Message → Option Message
kept None op old = None
kept (Some s) op old = if nat_lt op s.op then None else old

-- with a group of prepares more
abbrev pub appended : View → List Message → View
appended v ps = record v { tail = v.tail ++ ps; stored = λ k. kept (slice_get (sessions_after v.checkpoint.parts.sessions (v.tail ++ ps)) k) (head v) (v.stored k) }

-- with a reply more
abbrev pub replied : View → ℕ → Message → View
replied v place r = record v { replies = v.replies + 1; stored = λ k. if k == place then Some r else v.stored k }

-- with this checkpoint, whose prepares leave the tail
abbrev pub checkpointed : View → Checkpoint → View
checkpointed v c = record v { checkpoint = c; tail = drop (c.content.op - v.checkpoint.content.op) v.tail }

-- ops one after the other from this one on, and each prepare names the one before it
abbrev pub AreInTurn : ℕ → ℕ → List Message → Type 0
AreInTurn op parent [] = Unit {0}
AreInTurn op parent (p ∷ ps) = (p.header.op ≡ op) × (p.header.parent ≡ parent) × AreInTurn (op + 1) p.header.checksum ps

-- a prepare carries the other counters of the view that it is appended to, and the last op of its group
pub record IsStamped (v : View) (last : ℕ) (h : Header) : Type 0 where
  pub mark : h.mark ≡ v.replies
  pub checkpoint : h.checkpoint ≡ sequence v
  pub boot : h.boot ≡ boot_of v
  pub group : h.group ≡ head v + 1
  pub group_last : h.group_last ≡ last

-- a group of prepares is appended; one prepare is a group of one
pub record IsAppend (v : View) (ps : List Message) : Type 0 where
  pub some : 0 < length ps
  pub turn : AreInTurn (head v + 1) (last_checksum v.checkpoint.content.op_checksum v.tail) ps
  pub stamped : (p : Message) → In p ps → IsStamped v (head v + length ps) p.header

-- the reply to the next op is stored; it carries the other counters of the view
pub record IsReply (v : View) (place : ℕ) (r : Message) : Type 0 where
  pub op : r.header.op ≡ v.replies + 1
  pub mark : r.header.mark ≡ head v
  pub checkpoint : r.header.checkpoint ≡ sequence v
  pub boot : r.header.boot ≡ boot_of v
  pub alone : IsAlone r.header
  pub session : (s : Session) × (slice_get (sessions v) place ≡ Some s) × Answers s r

-- what the next content records of the view: the prepares up to its pin, by the checksum of that one, and the stored replies below its `answered`, by theirs; where none is stored there are zeros
pub record Records (v : View) (d : Content) : Type 0 where
  pub pin_from : (v.checkpoint.content.pin ≤ d.pin) × (d.op ≤ d.pin)
  pub pin_to : d.pin ≤ head v
  pub checksum : last_checksum d.op_checksum (take (d.pin - d.op) (drop (d.op - v.checkpoint.content.op) v.tail)) ≡ d.pin_checksum
  pub answered : (v.checkpoint.content.answered ≤ d.answered) × (d.answered ≤ v.replies + 1)
  pub stored : (k : ℕ) (r : Message) → v.stored k ≡ Some r → r.header.op < d.answered → slice_index d.reply_checksums k ≡ r.header.checksum
  pub unstored : (k : ℕ) → v.stored k ≡ None → slice_index d.reply_checksums k ≡ 0
  pub spare : (k : ℕ) → v.checkpoint.content.layout.clients ≤ k → slice_index d.reply_checksums k ≡ 0

-- a checkpoint of the file is finished: of any op that the tail reaches, with the counters as they are
pub record IsFinish (v : View) (c : Checkpoint) : Type 0 where
  pub file : (c.content.version ≡ v.checkpoint.content.version) × (c.content.cluster ≡ v.checkpoint.content.cluster) × (c.content.layout ≡ v.checkpoint.content.layout) × (c.content.rest ≡ v.checkpoint.content.rest)
  pub sequence : c.content.sequence ≡ sequence v + 1
  pub boot : c.content.boot ≡ boot_of v
  pub op_from : v.checkpoint.content.op ≤ c.content.op
  pub op_to : c.content.op ≤ head v
  pub op_checksum : c.content.op_checksum ≡ last_checksum v.checkpoint.content.op_checksum (take (c.content.op - v.checkpoint.content.op) v.tail)
  pub sessions : c.parts.sessions ≡ sessions_after v.checkpoint.parts.sessions (take (c.content.op - v.checkpoint.content.op) v.tail)
  pub head : c.content.head ≡ head v
  pub replies : c.content.replies ≡ v.replies
  pub records : Records v c.content
  pub of : IsOfVersion c.content

-- with this content, of the same checkpoint
abbrev pub booted : View → Content → View
booted v d = record v { checkpoint = record { content = d; chain = v.checkpoint.chain; parts = v.checkpoint.parts } }

-- all that a boot update keeps of the content
pub record SameCheckpoint (c d : Content) : Type 0 where
  pub file : (d.version ≡ c.version) × (d.cluster ≡ c.cluster) × (d.layout ≡ c.layout) × (d.rest ≡ c.rest)
  pub sequence : d.sequence ≡ c.sequence
  pub op : (d.op ≡ c.op) × (d.op_checksum ≡ c.op_checksum)
  pub trailer : (d.trailer ≡ c.trailer) × (d.trailer_checksum ≡ c.trailer_checksum) × (d.trailer_size ≡ c.trailer_size)

-- a boot update: the boot is raised by one, and the content records the state as it is
pub record IsBoot (v : View) (d : Content) : Type 0 where
  pub same : SameCheckpoint v.checkpoint.content d
  pub boot : d.boot ≡ boot_of v + 1
  pub pin : d.pin ≡ head v
  pub head : d.head ≡ head v
  pub replies : d.replies ≡ v.replies
  pub answered : d.answered ≡ v.replies + 1
  pub records : Records v d
  pub of : IsOfVersion d

-- the view stays, or one thing happens to it
pub data Next (v : View) : View → Type 0 where
  Same : Next v v
  Append : (ps : List Message) → IsAppend v ps → Next v (appended v ps)
  Reply : (place : ℕ) (r : Message) → IsReply v place r → Next v (replied v place r)
  Finish : (c : Checkpoint) → IsFinish v c → Next v (checkpointed v c)
  Boot : (d : Content) → IsBoot v d → Next v (booted v d)

-- the same state, but for the boot and what the content records of it: the bare view is the same
pub record IsSameBare (v u : View) : Type 0 where
  pub content : SameCheckpoint v.checkpoint.content u.checkpoint.content
  pub chain : u.checkpoint.chain ≡ v.checkpoint.chain
  pub parts : u.checkpoint.parts ≡ v.checkpoint.parts
  pub tail : u.tail ≡ v.tail
  pub replies : u.replies ≡ v.replies
  pub stored : (k : ℕ) → u.stored k ≡ v.stored k

-- a boot update that isn't refused
pub record MayBoot (v : View) (d : Content) : Type 0 where
  pub is : IsBoot v d
  pub unspent : boot_of v < GREATEST

-- each client of the group may make its request
abbrev pub MayAskInTurn : ℕ → List Session → List Message → Type 0
MayAskInTurn clients ss [] = Unit {0}
MayAskInTurn clients ss (p ∷ ps) = MayAsk clients p.header ss × MayAskInTurn clients (noted p.header ss) ps

-- an append that isn't refused: slots are left, at most 8 prepares wait, ops are left, and the clients may ask
pub record MayAppend (sh : Shape) (v : View) (ps : List Message) : Type 0 where
  pub is : IsAppend v ps
  pub room : length v.tail + length ps ≤ slots sh
  pub pipeline : head v + length ps ≤ v.replies + 8
  pub unspent : head v + length ps ≤ GREATEST
  pub asks : MayAskInTurn (clients sh) (sessions v) ps

-- a reply that isn't refused
pub record MayReply (v : View) (place : ℕ) (r : Message) : Type 0 where
  pub is : IsReply v place r
  pub waits : v.replies < head v

-- a checkpoint that isn't refused, with its trailer: it and its pin end groups
pub record MayFinish (sh : Shape) (v : View) (c : Checkpoint) : Type 0 where
  pub is : IsFinish v c
  pub trailer : IsTrailer sh c.content c.chain c.parts
  pub ends : EndsAt c.content.op v.tail
  pub pin_ends : EndsAt c.content.pin v.tail
  pub unspent : sequence v < GREATEST
