-- What holds of all that a history ever settled, and so of an image that shows any of it.
use Rattle.std.specs.Prelude.{◌≡◌, ◌≤◌, ℕ, List, Some}
use Rattle.df_theory.specs.{Units.{AnyUnit, Content, CopyPlace, CopyUnit, Message, Place, PreparePlace, PrepareUnit, ReplyPlace, ReplyUnit, Units}, Shape.{Shape}, Copies.{rank_of}, View.{View, head}}
use Rattle.df_theory.specs.{UnitLog.{UnitLog, settled}, Chance.{Distinct, InImages, InWrites, NoChance}, Grown.{Grows, HasGrown}, Found.{IsFound}, Past.{FromEmpty, Was}}

-- the settled prepares of one op and one boot are one
abbrev pub OnePrepareLaw : Type 0
OnePrepareLaw =
    (sh : Shape) (images : List Units) (v : View) (grows : Grows sh images v) → FromEmpty sh images v grows → (s t : ℕ) (p q : Message)
    → InImages images (PreparePlace s) (PrepareUnit p) → InImages images (PreparePlace t) (PrepareUnit q) → p.header.op ≡ q.header.op → p.header.boot ≡ q.header.boot → p ≡ q

-- the settled replies of one op are one
abbrev pub OneReplyLaw : Type 0
OneReplyLaw =
    (sh : Shape) (images : List Units) (v : View) (grows : Grows sh images v) → FromEmpty sh images v grows → (j k : ℕ) (r q : Message)
    → InImages images (ReplyPlace j) (ReplyUnit r) → InImages images (ReplyPlace k) (ReplyUnit q) → r.header.op ≡ q.header.op → r ≡ q

-- a content that copies 1 to 3 ever showed was that of a view, and one of a rank is one; a content that never got its second vote was at copy 0 alone
abbrev pub OneContentLaw : Type 0
OneContentLaw =
    (sh : Shape) (images : List Units) (v : View) (grows : Grows sh images v) → FromEmpty sh images v grows → (m n : ℕ) (c d : Content)
    → (m ≡ 0 → ⊥) → InImages images (CopyPlace m) (CopyUnit c) → (n ≡ 0 → ⊥) → InImages images (CopyPlace n) (CopyUnit d)
    → ((w : View) × Was sh images v grows w × (w.checkpoint.content ≡ c)) × (rank_of c ≡ rank_of d → c ≡ d)

-- three views, of which each has one of the three counters and none has more of the others: one view has all three
abbrev pub StampLaw : Type 0
StampLaw =
    (sh : Shape) (images : List Units) (v : View) (grows : Grows sh images v) (s top replies : ℕ) (a b c : View)
    → Was sh images v grows a → (rank_of a.checkpoint.content ≡ s) × (head a ≤ top) × (a.replies ≤ replies)
    → Was sh images v grows b → (rank_of b.checkpoint.content ≤ s) × (head b ≡ top) × (b.replies ≤ replies)
    → Was sh images v grows c → (rank_of c.checkpoint.content ≤ s) × (head c ≤ top) × (c.replies ≡ replies)
    → (w : View) × Was sh images v grows w × (rank_of w.checkpoint.content ≡ s) × (head w ≡ top) × (w.replies ≡ replies)

-- one checksum, one unit, of all that was settled
abbrev pub AreDistinct : List Units → Type 0
AreDistinct images = (place other : Place) (x y : AnyUnit) → InImages images place x → InImages images other y → Distinct x y

-- the image shows nothing but what was settled at its place, of any time
abbrev pub ShowsSettled : List Units → Units → Type 0
ShowsSettled images shown = (place : Place) (x : AnyUnit) → shown place ≡ Some x → InImages images place x

-- what is found was had: whatever of the settled units an image shows, and whatever it lost, an open that finds a state finds one that the file really had
abbrev pub FoundWasLaw : Type 0
FoundWasLaw =
    (sh : Shape) (images : List Units) (v : View) (grows : Grows sh images v) → FromEmpty sh images v grows → AreDistinct images
    → (shown : Units) → ShowsSettled images shown → (w : View) → IsFound sh shown w → Was sh images v grows w

-- the same of a log of which nothing is being written, as after the barrier of an open: any image that shows its pool alone
abbrev pub FoundWasOfLogLaw : Type 0
FoundWasOfLogLaw =
    (sh : Shape) (log : UnitLog) (v : View) (grown : HasGrown sh log v) → FromEmpty sh (settled log) v grown.grows → ((place : Place) (x : AnyUnit) → InWrites log.events place x → ⊥)
    → (shown : Units) → NoChance log shown → (w : View) → IsFound sh shown w → Was sh (settled log) v grown.grows w
