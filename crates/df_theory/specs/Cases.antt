-- The table of recovery: what a slot's two rings show, and what is decided of it.
use Rattle.std.specs.Prelude.{◌≡◌, ◌⊎◌, ◌<◌, ◌%◌, ◌==◌, nat_lt, ℕ, Bool, true, false, if◌then◌else◌, Option, Some}
use Rattle.df_theory.specs.Units.{HeaderPlace, PreparePlace, Content, Header, Message, AnyUnit, HeaderUnit, PrepareUnit, Units}

-- what one ring shows, where an op is wanted: nothing valid, a lower op or a reserved header, this op, or a greater one
pub data Seen : Type 0 where
  Nothing : Seen
  Old : Seen
  Current : (checksum : ℕ) → Seen
  Far : Seen

-- the slot is of a later file; its prepare is taken; its prepare was lost; it is empty. mend: the header is to be written anew
pub data Decision : Type 0 where
  Behind : Decision
  Take : (mend : Bool) → Decision
  Lost : Decision
  Empty : (mend : Bool) → Decision

-- the decision by what the header ring and the prepare ring show
abbrev pub case : Seen → Seen → Decision
case Far prepare = Behind
case (Current a) Far = Behind
case (Current a) (Current b) = if a == b then Take false else Lost
case (Current a) Old = Lost
case (Current a) Nothing = Lost
case Old Far = Behind
case Old (Current b) = Take true
case Old Old = Empty false
case Old Nothing = Empty false
case Nothing Far = Behind
case Nothing (Current b) = Take true
case Nothing Old = Empty true
case Nothing Nothing = Empty true

-- a unit of an earlier boot proves nothing
abbrev pub seen : ℕ → ℕ → Header → Seen
seen b o h = if h.op == o then (if h.boot == b then Current h.checksum else Old) else (if nat_lt h.op o then Old else Far)

abbrev pub seen_header : ℕ → ℕ → Option AnyUnit → Seen
seen_header b o (Some (HeaderUnit h)) = seen b o h
seen_header b o x = Nothing

abbrev pub seen_prepare : ℕ → ℕ → Option AnyUnit → Seen
seen_prepare b o (Some (PrepareUnit p)) = seen b o p.header
seen_prepare b o x = Nothing

-- the decision on the slot of an op, in this boot
abbrev pub decision : ℕ → ℕ → Units → ℕ → Decision
decision n b image o = case (seen_header b o (image (HeaderPlace (o % n)))) (seen_prepare b o (image (PreparePlace (o % n))))

abbrev pub is_nothing : Seen → Bool
is_nothing Nothing = true
is_nothing Old = false
is_nothing (Current a) = false
is_nothing Far = false

-- a prepare above the head that would be taken is cut: its slot is empty
abbrev pub cut : Seen → Decision → Decision
cut header (Take mend) = if mend then Empty (is_nothing header) else Take false
cut header Behind = Behind
cut header Lost = Lost
cut header (Empty mend) = Empty mend

-- the decision on a slot once the head is known
abbrev pub decided : ℕ → ℕ → ℕ → Units → ℕ → Decision
decided n b top image o = if nat_lt top o then cut (seen_header b o (image (HeaderPlace (o % n)))) (decision n b image o) else decision n b image o

abbrev pub IsTake : Decision → Type 0
IsTake (Take mend) = Unit {0}
IsTake d = ⊥

-- this prepare is taken from its slot; up to the pin its checksum is known, and the table isn't asked
pub record Takes (n : ℕ) (image : Units) (c : Content) (p : Message) : Type 0 where
  pub shown : image (PreparePlace (p.header.op % n)) ≡ Some (PrepareUnit p)
  pub take : c.pin < p.header.op → IsTake (decision n c.boot image p.header.op)

abbrev pub IsEmpty : Decision → Type 0
IsEmpty (Empty mend) = Unit {0}
IsEmpty d = ⊥

-- a header of this op and boot
abbrev pub IsNow : ℕ → ℕ → Header → Type 0
IsNow b o h = (h.op ≡ o) × (h.boot ≡ b)

-- what a decision says of the slot: of what its header ring and its prepare ring show, where this op and boot are wanted
abbrev pub SaysOfSlot : ℕ → ℕ → Option AnyUnit → Option AnyUnit → Decision → Type 0
SaysOfSlot b o header prepare Behind = ((h : Header) × (header ≡ Some (HeaderUnit h)) × (o < h.op)) ⊎ ((p : Message) × (prepare ≡ Some (PrepareUnit p)) × (o < p.header.op))
SaysOfSlot b o header prepare (Take mend) =
    (p : Message) × (prepare ≡ Some (PrepareUnit p)) × IsNow b o p.header
    × (((mend ≡ false) × ((h : Header) × (header ≡ Some (HeaderUnit h)) × IsNow b o h × (h.checksum ≡ p.header.checksum))) ⊎ ((mend ≡ true) × ((h : Header) → header ≡ Some (HeaderUnit h) → IsNow b o h → ⊥)))
SaysOfSlot b o header prepare Lost = (h : Header) × (header ≡ Some (HeaderUnit h)) × IsNow b o h × ((p : Message) → prepare ≡ Some (PrepareUnit p) → IsNow b o p.header → h.checksum ≡ p.header.checksum → ⊥)
SaysOfSlot b o header prepare (Empty mend) =
    ((h : Header) → header ≡ Some (HeaderUnit h) → IsNow b o h → ⊥) × ((p : Message) → prepare ≡ Some (PrepareUnit p) → IsNow b o p.header → ⊥)
    × (((mend ≡ false) × ((h : Header) × (header ≡ Some (HeaderUnit h)))) ⊎ ((mend ≡ true) × ((h : Header) → header ≡ Some (HeaderUnit h) → ⊥)))
