-- What holds of all that a history of several logs ever settled.
use Rattle.std.specs.Prelude.{◌≡◌, ◌≤◌, ℕ, List}
use Rattle.df_theory.specs.{Units.{Content, CopyPlace, CopyUnit, Message, PreparePlace, PrepareUnit, ReplyPlace, ReplyUnit, Units}, Shape.{Shape}, Copies.{rank_of}, View.{View, boot_of}}
use Rattle.df_theory.specs.{Chance.{InImages}, HistoryLaws.{AreDistinct, ShowsSettled}, Found.{IsFound}}
use Rattle.df_history.specs.Lives.{Awake, Lived, Lives, Turn, first_view_of}

-- the settled prepares of one op and one boot are one
abbrev pub OnePrepareLaw : Type 0
OnePrepareLaw =
    (sh : Shape) (images : List Units) (v : View) (t : Turn) (lives : Lives sh images v t) → (i j : ℕ) (p q : Message)
    → InImages images (PreparePlace i) (PrepareUnit p) → InImages images (PreparePlace j) (PrepareUnit q)
    → boot_of (first_view_of sh images v t lives) ≤ p.header.boot → p.header.boot ≡ q.header.boot → p.header.op ≡ q.header.op → p ≡ q

-- the settled replies of one op and one boot are one
abbrev pub OneReplyLaw : Type 0
OneReplyLaw =
    (sh : Shape) (images : List Units) (v : View) (t : Turn) (lives : Lives sh images v t) → (j k : ℕ) (r q : Message)
    → InImages images (ReplyPlace j) (ReplyUnit r) → InImages images (ReplyPlace k) (ReplyUnit q)
    → boot_of (first_view_of sh images v t lives) ≤ r.header.boot → r.header.boot ≡ q.header.boot → r.header.op ≡ q.header.op → r ≡ q

-- a content that copies 1 to 3 ever showed was that of a view, and one of a rank is one
abbrev pub OneContentLaw : Type 0
OneContentLaw =
    (sh : Shape) (images : List Units) (v : View) (t : Turn) (lives : Lives sh images v t) → (m n : ℕ) (c d : Content)
    → (m ≡ 0 → ⊥) → InImages images (CopyPlace m) (CopyUnit c) → (n ≡ 0 → ⊥) → InImages images (CopyPlace n) (CopyUnit d)
    → rank_of (first_view_of sh images v t lives).checkpoint.content ≤ rank_of c
    → ((w : View) × (a : Turn) × Lived sh images v t lives w a × (w.checkpoint.content ≡ c)) × (rank_of c ≡ rank_of d → c ≡ d)

-- what is found was had: whatever of the settled units an image shows, and whatever it lost, an open that finds a state finds one that an awake log really had
abbrev pub FoundLivedLaw : Type 0
FoundLivedLaw =
    (sh : Shape) (images : List Units) (v : View) (t : Turn) (lives : Lives sh images v t) → AreDistinct images
    → (shown : Units) → ShowsSettled images shown → (w : View) → IsFound sh shown w
    → rank_of (first_view_of sh images v t lives).checkpoint.content ≤ rank_of w.checkpoint.content
    → Lived sh images v t lives w Awake
