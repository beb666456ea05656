-- What steps put, and what their device calls leave as it was.
use Rattle.std.proofs.{Common.{◌≡◌, ℕ, ◌+◌, ◌<◌, ◌||◌, Bool, true, false, List, [], ◌∷◌, Option, Some, None, refl, sym, ◌∙◌, ap, arith, ◌++◌}, lemmas.Bool.{and_from, le-leb, lt-ltb, or_parts}}
use Rattle.df_base.{specs.{Image.{Image, IsImage, covers, written}, Log.{Event, Log, Stop, Sync, Write, add, loose, now}, Moments.{adds}}, proofs.Laws.{written_is_image, written_else}}
use Rattle.{df_disk.specs.Told.{Told, did}, df_damage.specs.{Anew.{told_after}, Below.{DataFile}}, df_format.proofs.Laws.{same_shown}}
use Rattle.df_layout.specs.declared.layout.Layout.{Layout}
use Rattle.df_theory.specs.{Units.{AnyUnit, BlockPlace, CopyPlace, HeaderPlace, Place, PreparePlace, ReplyPlace, is_some, or_else}, Device.{AreSteps}, Runs.{Puts, Step, Syncs}}
use Rattle.df_units.{specs.{Bytes.{has, has_place, span_at, unit_at}, Format.{format_of}, Meaning.{place_of}, Wanted.{class_at}}, proofs.Laws.{is_format}}
use Rattle.df_opening.specs.{Sparing.{IsReadPlace, SparesReads, image_after, writes_to}, Keeping.{format}}

-- the unit at a place after these steps
abbrev pub unit_after : List Step → Place → Option AnyUnit → Option AnyUnit
unit_after [] place o = o
unit_after ((Puts put) ∷ ss) place o = unit_after ss place (or_else (put place) o)
unit_after (Syncs ∷ ss) place o = unit_after ss place o

-- what is put is there at their end
pub some_stays : (ss : List Step) (place : Place) (x : AnyUnit) → unit_after ss place (Some x) ≡ None → ⊥
some_stays [] place x none = cc
some_stays ((Puts put) ∷ ss) place x none = go (put place) (λ y. some_stays ss place y) none
  where
    go : (o : Option AnyUnit)
        → ((y : AnyUnit) → unit_after ss place (Some y) ≡ None → ⊥) → unit_after ss place (or_else o (Some x)) ≡ None → ⊥
    go None on there = on x there
    go (Some y) on there = on y there
some_stays (Syncs ∷ ss) place x none = some_stays ss place x none

-- they begin with a sync
abbrev pub StartSynced : List Step → Type 0
StartSynced [] = ⊥
StartSynced ((Puts put) ∷ ss) = ⊥
StartSynced (Syncs ∷ ss) = Unit {0}

-- the sectors of a place of the layout
has_inside : (layout : Layout) (place : Place) (k : ℕ)
    → has_place layout place ≡ true → k < (span_at layout place).count → has layout place ((span_at layout place).first + k) ≡ true
has_inside layout place k there inside = let sector = (span_at layout place).first + k in
    and_from _ _ there (and_from _ _ (le-leb (span_at layout place).first sector (omega arith))
    (lt-ltb sector ((span_at layout place).first + (span_at layout place).count) (omega arith)))

-- what a disk that tells shows after events, and the log that it tells
pub shown_after : (events : List Event) (t : Told) → (told_after events t).shown ≡ image_after events t.shown
shown_after [] t = refl
shown_after (e ∷ es) t = shown_after es (did e t)

-- what isn't loose stays so where nothing is written
pub stays_firm : (events : List Event) (log : Log) (sector : ℕ)
    → loose log sector ≡ false → writes_to events sector ≡ false → loose (adds events log) sector ≡ false
stays_firm [] log sector firm dry = firm
stays_firm ((Write at bytes) ∷ es) log sector firm dry = let parts = or_parts (covers at bytes sector) (writes_to es sector) dry in
    stays_firm es (add (Write at bytes) log) sector (ap (λ (b : Bool). b || loose log sector) parts.0 ∙ firm) parts.1
stays_firm (Sync ∷ es) log sector firm dry = stays_firm es (add Sync log) sector refl dry
stays_firm ((Stop cs) ∷ es) log sector firm dry = stays_firm es (add (Stop cs) log) sector refl dry

module _ (layout : Layout) (cluster : ℕ) where
  -- a place shows what the steps make of what it showed
  pub shown_by : (events : List Event) (steps : List Step) (image : Image)
      → AreSteps (format_of layout cluster) events steps → IsImage image → (place : Place)
      → unit_at layout cluster (image_after events image) place ≡ unit_after steps place (unit_at layout cluster image place)
  shown_by [] [] image are whole place = refl
  shown_by [] (p ∷ ss) image are whole place = absurd are
  shown_by ((Write at bytes) ∷ es) ((Puts put) ∷ ss) image are whole place =
      shown_by es ss (written at bytes image) are.1 (written_is_image at bytes image are.0.piece whole) place
      ∙ ap (unit_after ss place) (are.0.shows image place whole)
  shown_by ((Write at bytes) ∷ es) [] image are whole place = absurd are
  shown_by ((Write at bytes) ∷ es) (Syncs ∷ ss) image are whole place = absurd are
  shown_by (Sync ∷ es) (Syncs ∷ ss) image are whole place = shown_by es ss image are whole place
  shown_by (Sync ∷ es) [] image are whole place = absurd are
  shown_by (Sync ∷ es) ((Puts put) ∷ ss) image are whole place = absurd are
  shown_by ((Stop cs) ∷ es) ss image are whole place = absurd are

  -- and the image stays whole
  pub stays_whole : (events : List Event) (steps : List Step) (image : Image)
      → AreSteps (format_of layout cluster) events steps → IsImage image → IsImage (image_after events image)
  stays_whole [] [] image are whole = whole
  stays_whole [] (p ∷ ss) image are whole = absurd are
  stays_whole ((Write at bytes) ∷ es) ((Puts put) ∷ ss) image are whole =
      stays_whole es ss (written at bytes image) are.1 (written_is_image at bytes image are.0.piece whole)
  stays_whole ((Write at bytes) ∷ es) [] image are whole = absurd are
  stays_whole ((Write at bytes) ∷ es) (Syncs ∷ ss) image are whole = absurd are
  stays_whole (Sync ∷ es) (Syncs ∷ ss) image are whole = stays_whole es ss image are whole
  stays_whole (Sync ∷ es) [] image are whole = absurd are
  stays_whole (Sync ∷ es) ((Puts put) ∷ ss) image are whole = absurd are
  stays_whole ((Stop cs) ∷ es) ss image are whole = absurd are

  -- no sector is written of a place at which they put nothing
  pub unwritten : (events : List Event) (steps : List Step) → AreSteps (format_of layout cluster) events steps
      → (place : Place) → unit_after steps place None ≡ None → (sector : ℕ) → has layout place sector ≡ true
      → writes_to events sector ≡ false
  unwritten [] [] are place none sector here = refl
  unwritten [] (p ∷ ss) are place none sector here = absurd are
  unwritten ((Write at bytes) ∷ es) ((Puts put) ∷ ss) are place none sector here =
      by (put place) refl (λ behind. unwritten es ss are.1 place behind sector here)
    where
      by : (o : Option AnyUnit) → put place ≡ o
          → (unit_after ss place None ≡ None → writes_to es sector ≡ false) → (covers at bytes sector || writes_to es sector) ≡ false
      by None is on = let apart : covers at bytes sector ≡ false =
          (is_format layout cluster).apart at bytes place sector (are.0.touches place ∙ ap is_some is) here in
          ap (λ (b : Bool). b || writes_to es sector) apart
          ∙ on (sym (ap (λ (o : Option AnyUnit). unit_after ss place (or_else o None)) is) ∙ none)
      by (Some x) is on = absurd (some_stays ss place x (sym (ap (λ (o : Option AnyUnit). unit_after ss place (or_else o None)) is) ∙ none))
  unwritten ((Write at bytes) ∷ es) [] are place none sector here = absurd are
  unwritten ((Write at bytes) ∷ es) (Syncs ∷ ss) are place none sector here = absurd are
  unwritten (Sync ∷ es) (Syncs ∷ ss) are place none sector here = unwritten es ss are place none sector here
  unwritten (Sync ∷ es) [] are place none sector here = absurd are
  unwritten (Sync ∷ es) ((Puts put) ∷ ss) are place none sector here = absurd are
  unwritten ((Stop cs) ∷ es) ss are place none sector here = absurd are

  -- a sector that isn't written stays
  pub same_sector : (events : List Event) (steps : List Step) → AreSteps (format_of layout cluster) events steps
      → (image : Image) (sector : ℕ) → writes_to events sector ≡ false → image_after events image sector ≡ image sector
  same_sector [] [] are image sector dry = refl
  same_sector [] (p ∷ ss) are image sector dry = absurd are
  same_sector ((Write at bytes) ∷ es) ((Puts put) ∷ ss) are image sector dry =
      let parts = or_parts (covers at bytes sector) (writes_to es sector) dry in
      same_sector es ss are.1 (written at bytes image) sector parts.1 ∙ written_else at bytes image sector parts.0
  same_sector ((Write at bytes) ∷ es) [] are image sector dry = absurd are
  same_sector ((Write at bytes) ∷ es) (Syncs ∷ ss) are image sector dry = absurd are
  same_sector (Sync ∷ es) (Syncs ∷ ss) are image sector dry = same_sector es ss are image sector dry
  same_sector (Sync ∷ es) [] are image sector dry = absurd are
  same_sector (Sync ∷ es) ((Puts put) ∷ ss) are image sector dry = absurd are
  same_sector ((Stop cs) ∷ es) ss are image sector dry = absurd are

  -- after a sync nothing is loose but what was written since
  pub synced_first : (events : List Event) (steps : List Step) → AreSteps (format_of layout cluster) events steps
      → StartSynced steps → (log : Log) (sector : ℕ) → writes_to events sector ≡ false → loose (adds events log) sector ≡ false
  synced_first [] [] are starts log sector dry = absurd starts
  synced_first [] (p ∷ ss) are starts log sector dry = absurd are
  synced_first ((Write at bytes) ∷ es) ((Puts put) ∷ ss) are starts log sector dry = absurd starts
  synced_first ((Write at bytes) ∷ es) [] are starts log sector dry = absurd are
  synced_first ((Write at bytes) ∷ es) (Syncs ∷ ss) are starts log sector dry = absurd are
  synced_first (Sync ∷ es) (Syncs ∷ ss) are starts log sector dry = stays_firm es (add Sync log) sector refl dry
  synced_first (Sync ∷ es) [] are starts log sector dry = absurd are
  synced_first (Sync ∷ es) ((Puts put) ∷ ss) are starts log sector dry = absurd are
  synced_first ((Stop cs) ∷ es) ss are starts log sector dry = absurd are

  -- the class of what is shown at a place is a matter of its sectors
  module _ (a b : Image) where
    abbrev AreSame : Place → Type 0
    AreSame place = (sector : ℕ) → has layout place sector ≡ true → a sector ≡ b sector

    pub same_class : (place : Place)
        → IsReadPlace layout place → AreSame place → class_at layout cluster a place ≡ class_at layout cluster b place
    same_class (CopyPlace n) there same = absurd there
    same_class (HeaderPlace n) there same = absurd there
    same_class (PreparePlace n) there same = (same_shown layout cluster (place_of (PreparePlace n)) a b (λ k inside.
        same ((span_at layout (PreparePlace n)).first + k) (has_inside layout (PreparePlace n) k there inside))).class
    same_class (ReplyPlace n) there same = (same_shown layout cluster (place_of (ReplyPlace n)) a b (λ k inside.
        same ((span_at layout (ReplyPlace n)).first + k) (has_inside layout (ReplyPlace n) k there inside))).class
    same_class (BlockPlace n) there same = (same_shown layout cluster (place_of (BlockPlace n)) a b (λ k inside.
        same ((span_at layout (BlockPlace n)).first + k) (has_inside layout (BlockPlace n) k there inside))).class

-- steps that put nothing at a place that a call reads leave each of them as it was
pub spared_by : (file : DataFile) (events : List Event) (steps : List Step) → AreSteps (format file) events steps → ((k : ℕ)
    (o : Option AnyUnit) → unit_after steps (PreparePlace k) o ≡ o) → ((k : ℕ) (o : Option AnyUnit) → unit_after steps (ReplyPlace k) o ≡ o)
    → ((k : ℕ) (o : Option AnyUnit) → unit_after steps (BlockPlace k) o ≡ o)
    → (image : Image) → IsImage image → SparesReads file image (image_after events image)
spared_by file events steps are prepare reply block image whole = record {
  whole = stays_whole file.layout file.cluster events steps image are whole;
  units = record {
    prepare = λ k. shown_by file.layout file.cluster events steps image are whole (PreparePlace k)
        ∙ prepare k (unit_at file.layout file.cluster image (PreparePlace k));
    reply = λ k. shown_by file.layout file.cluster events steps image are whole (ReplyPlace k)
        ∙ reply k (unit_at file.layout file.cluster image (ReplyPlace k));
    block = λ k. shown_by file.layout file.cluster events steps image are whole (BlockPlace k)
        ∙ block k (unit_at file.layout file.cluster image (BlockPlace k));
  };
  classes = λ place read. same_class file.layout file.cluster (image_after events image) image place read (λ sector here.
      same_sector file.layout
      file.cluster events steps are image sector (unwritten file.layout file.cluster events steps are place (none place read) sector here));
}
  where
    none : (place : Place) → IsReadPlace file.layout place → unit_after steps place None ≡ None
    none (CopyPlace k) read = absurd read
    none (HeaderPlace k) read = absurd read
    none (PreparePlace k) read = prepare k None
    none (ReplyPlace k) read = reply k None
    none (BlockPlace k) read = block k None

-- of steps, and of events, one after the other
pub after_join : (ss ts : List Step) (place : Place) (o : Option AnyUnit)
    → unit_after (ss ++ ts) place o ≡ unit_after ts place (unit_after ss place o)
after_join [] ts place o = refl
after_join ((Puts put) ∷ ss) ts place o = after_join ss ts place (or_else (put place) o)
after_join (Syncs ∷ ss) ts place o = after_join ss ts place o

pub now_adds : (es : List Event) (log : Log) → now (adds es log) ≡ image_after es (now log)
now_adds [] log = refl
now_adds (e ∷ es) log = now_adds es (add e log)
