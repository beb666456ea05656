-- The same rules case by case, as an open is told of: by the prepare that is reached last, and by the headers that are shown of its group.
use Rattle.std.specs.Prelude.{◌≡◌, ◌⊎◌, ◌↔◌, ◌<◌, ◌≤◌, ◌+◌, ℕ, List, [], ◌∷◌, ◌++◌, length, Option, Some, None}
use Rattle.df_theory.specs.{Units.{Content, Header, HeaderPlace, HeaderUnit, Message, PreparePlace, PrepareUnit, ReplyPlace, ReplyUnit, Units}, Shape.{Shape}, Tails.{IsCutOff}, View.{Checkpoint}}
use Rattle.df_theory.specs.{Found.{NotLost}, GroupLaws.{HaveGroups, IsSurvivorOf, ShowsGroup, Walks}}

-- no header of this boot has an op above the head
abbrev pub NoHeaderAbove : Units → Content → ℕ → Type 0
NoHeaderAbove image c top = (s : ℕ) (h : Header) → image (HeaderPlace s) ≡ Some (HeaderUnit h) → h.boot ≡ c.boot → h.op ≤ top

-- there a prepare above the head survived of its group, of which no header is shown, exactly where its group was cut off: that no header is shown is then so by itself
abbrev pub SurvivorLaw : Type 0
SurvivorLaw =
    (image : Units) (c : Content) (top s : ℕ) (p : Message) → HaveGroups image → NoHeaderAbove image c top → image (PreparePlace s) ≡ Some (PrepareUnit p) → top < p.header.op
    → IsSurvivorOf image c top p ↔ IsCutOff top p.header

-- the last of some prepares, if there is one
abbrev pub last_prepare : Option Message → List Message → Option Message
last_prepare q [] = q
last_prepare q (p ∷ ps) = last_prepare (Some p) ps

-- a group that isn't over with this prepare, above the head that the superblock names
pub record IsOpenGroup (c : Content) (q : Message) : Type 0 where
  pub above : c.pin < q.header.op
  pub open_yet : q.header.group_last ≡ q.header.op → ⊥

-- it is cut off where no header of it is shown
pub record IsCut (image : Units) (c : Content) (q : Message) : Type 0 where
  pub is_open : IsOpenGroup c q
  pub untold : ShowsGroup image c q.header.group → ⊥

-- the head as it is told by the prepare that is reached last: the op before its group, where that is cut off, and else the reach
abbrev pub IsHeadBy : Units → Content → ℕ → Option Message → ℕ → Type 0
IsHeadBy image c reach None top = top ≡ reach
IsHeadBy image c reach (Some q) top = (IsCut image c q × (top + 1 ≡ q.header.group)) ⊎ ((IsCut image c q → ⊥) × (top ≡ reach))

-- the prepare that is reached last is of a group that isn't over, and which isn't cut off either
abbrev pub IsTornAt : Content → ℕ → ℕ → Option Message → Type 0
IsTornAt c reach top None = ⊥
IsTornAt c reach top (Some q) = IsOpenGroup c q × (top ≡ reach)

-- what is lost after such a head, case by case: none of them is so
pub record NoneLostBy (image : Units) (c : Content) (reach top : ℕ) (last : Option Message) : Type 0 where
  pub torn : IsTornAt c reach top last → ⊥
  pub header : NoHeaderAbove image c top
  pub prepare : (s : ℕ) (p : Message) → image (PreparePlace s) ≡ Some (PrepareUnit p) → p.header.boot ≡ c.boot → top < p.header.op → IsSurvivorOf image c top p
  pub superblock : c.head ≤ top
  pub reply : (k : ℕ) (r : Message) → image (ReplyPlace k) ≡ Some (ReplyUnit r) → r.header.boot ≡ c.boot → (r.header.op ≤ top) × (r.header.mark ≤ top)

-- so nothing is lost by these cases exactly where nothing is after the last whole group, and the head is then the same
abbrev pub HeadLaw : Type 0
HeadLaw =
    (sh : Shape) (image : Units) (b : Checkpoint) (tail more : List Message) (top : ℕ) → HaveGroups image → Walks sh image b tail more
    → IsHeadBy image b.content (b.content.op + length tail + length more) (last_prepare None (tail ++ more)) top
    → NoneLostBy image b.content (b.content.op + length tail + length more) top (last_prepare None (tail ++ more)) ↔ (NotLost image b.content (b.content.op + length tail) × (top ≡ b.content.op + length tail))
