-- Lists of prepares, each of which fits what precedes it.
use Rattle.std.specs.Prelude.{◌≡◌, ◌⊎◌, ◌<◌, ◌≤◌, ◌+◌, ℕ, List, [], ◌∷◌}
use Rattle.df_theory.specs.{Units.{Header, Message, Session}, Sessions.{noted, MayAsk}}

abbrev pub In : Message → List Message → Type 0
In p [] = ⊥
In p (q ∷ qs) = (p ≡ q) ⊎ In p qs

-- a prepare that fits, where this op, parent and least mark are wanted
pub record Fits (clients op parent mark : ℕ) (ss : List Session) (h : Header) : Type 0 where
  pub op_is : h.op ≡ op
  pub parent_is : h.parent ≡ parent
  pub mark_from : mark ≤ h.mark
  pub mark_below : h.mark < op
  pub mark_near : op ≤ h.mark + 8
  pub group : op ≤ h.group_last
  pub asks : MayAsk clients h ss

-- each prepare fits what precedes it
abbrev pub Chain : ℕ → ℕ → ℕ → ℕ → List Session → List Message → Type 0
Chain clients op parent mark ss [] = Unit {0}
Chain clients op parent mark ss (p ∷ ps) = Fits clients op parent mark ss p.header × Chain clients (op + 1) p.header.checksum p.header.mark (noted p.header ss) ps

-- the mark of the last, or this one where there is none
abbrev pub last_mark : ℕ → List Message → ℕ
last_mark m [] = m
last_mark m (p ∷ ps) = last_mark p.header.mark ps

-- the checksum of the last, or this one where there is none
abbrev pub last_checksum : ℕ → List Message → ℕ
last_checksum c [] = c
last_checksum c (p ∷ ps) = last_checksum p.header.checksum ps

-- the group of a prepare that fits: it begins one where the group before it is over, and else goes on with that one
abbrev pub FitsGroup : ℕ → ℕ → ℕ → Header → Type 0
FitsGroup first last op h = ((last < op) × (h.group ≡ op) × (op ≤ h.group_last)) ⊎ ((op ≤ last) × (h.group ≡ first) × (h.group_last ≡ last))

-- groups one after the other from this op on, where this one is the group before them
abbrev pub AreGroups : ℕ → ℕ → ℕ → List Message → Type 0
AreGroups first last op [] = Unit {0}
AreGroups first last op (p ∷ ps) = FitsGroup first last op p.header × AreGroups p.header.group p.header.group_last (op + 1) ps

-- a prepare of a group of several that begins right above this op: it counts only with its whole group. There are none in version 1
pub record IsCutOff (top : ℕ) (h : Header) : Type 0 where
  pub boot : 0 < h.boot
  pub first : h.group ≡ top + 1
  pub several : h.group < h.group_last
  pub above : top < h.op

-- what a prepare that is shown says of the head: its op isn't above it, or its group was cut off there
abbrev pub BindsHead : ℕ → Header → Type 0
BindsHead top h = (h.op ≤ top) ⊎ IsCutOff top h

-- a group ends at this op, or none is there
abbrev pub EndsAt : ℕ → List Message → Type 0
EndsAt op ps = (p : Message) → In p ps → p.header.op ≤ op → p.header.group_last ≤ op

-- no group goes on past this op
abbrev pub AreWholeGroups : ℕ → List Message → Type 0
AreWholeGroups top ps = (p : Message) → In p ps → p.header.group_last ≤ top
