-- Settled images of several logs, one after the other. Each has a view; a log that was restarted sleeps until its boot is raised.
use Rattle.std.specs.Prelude.{◌≡◌, ◌⊎◌, ◌<◌, ℕ, List, [], ◌∷◌}
use Rattle.std.proofs.Common.{inl, inr}
use Rattle.df_theory.specs.{Units.{Content, CopyPlace, CopyUnit, Message, PreparePlace, PrepareUnit, ReplyPlace, ReplyUnit, Units}, Shape.{Shape}, Copies.{rank_of}, View.{View, boot_of, head}}
use Rattle.df_theory.specs.{Holds.{Holds}, Next.{IsBoot, booted}, Chance.{InImages}, Grown.{AllInHistory, GoesOn}, HistoryLaws.{ShowsSettled}}

-- a log that was restarted sleeps: its view stays until its boot is raised. From then on it is awake
pub data Turn : Type 0 where
  Asleep : Turn
  Awake : Turn

-- how a view follows another in one log, after these images
abbrev pub TurnFollows : List Units → View → Turn → View → Turn → Type 0
TurnFollows images u Awake v Awake = GoesOn images u v
TurnFollows images u Awake v Asleep = ⊥
TurnFollows images u Asleep v Asleep = v ≡ u
TurnFollows images u Asleep v Awake = (d : Content) × IsBoot u d × (v ≡ booted u d)

-- the next settled image: of the same log, or the first of a log that is restarted, which shows any of the units that were settled before, and has the same superblock
abbrev pub Steps : List Units → Units → View → Turn → View → Turn → Type 0
Steps images image u s v t = (AllInHistory images image v × TurnFollows images u s v t) ⊎ (ShowsSettled images image × (t ≡ Asleep) × (v.checkpoint.content ≡ u.checkpoint.content))

-- the first image with a view: what was settled until then is older than its superblock, or this one
pub record Starts (image : Units) (images : List Units) (v : View) : Type 0 where
  pub prepares : (s : ℕ) (p : Message) → InImages (image ∷ images) (PreparePlace s) (PrepareUnit p) → p.header.boot < boot_of v
  pub replies : (k : ℕ) (r : Message) → InImages (image ∷ images) (ReplyPlace k) (ReplyUnit r) → r.header.boot < boot_of v
  pub copies : (n : ℕ) (c : Content) → (n ≡ 0 → ⊥) → InImages (image ∷ images) (CopyPlace n) (CopyUnit c) → (c ≡ v.checkpoint.content) ⊎ (rank_of c < rank_of v.checkpoint.content)
  pub counted : (head v ≡ v.checkpoint.content.head) × (v.replies ≡ v.checkpoint.content.replies)

-- the images have views, each next to the one before it; v is the view of the newest, and t says whether it is awake
abbrev pub Lives : Shape → List Units → View → Turn → Type 0
Lives sh [] v t = ⊥
Lives sh (image ∷ images) v t = Holds sh image v × (((t ≡ Awake) × Starts image images v) ⊎ ((u : View) × (s : Turn) × Steps images image u s v t × Lives sh images u s))

-- one of them had this view, at this turn
abbrev pub Lived : (sh : Shape) (images : List Units) (v : View) (t : Turn) → Lives sh images v t → View → Turn → Type 0
Lived sh [] v t lives w a = ⊥
Lived sh (image ∷ images) v t (holds, inl starts) w a = (w ≡ v) × (a ≡ t)
Lived sh (image ∷ images) v t (holds, inr (u, s, step, lives)) w a = ((w ≡ v) × (a ≡ t)) ⊎ Lived sh images u s lives w a

-- the first view
abbrev pub first_view_of : (sh : Shape) (images : List Units) (v : View) (t : Turn) → Lives sh images v t → View
first_view_of sh [] v t lives = v
first_view_of sh (image ∷ images) v t (holds, inl starts) = v
first_view_of sh (image ∷ images) v t (holds, inr (u, s, step, lives)) = first_view_of sh images u s lives
