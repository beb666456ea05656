-- The replies that the superblock records: which of them are known, what makes one due, and the walk one place further.
use Rattle.std.{proofs.{Common.{◌≡◌, ◌⊎◌, ℕ, ◌<◌, ◌==◌, if◌then◌else◌, List, [], length, map, Option, Some, None, refl, sym, ◌∙◌, ap, subst, inl, inr}, lemmas.Option.{get_or_from_slice_get, same_Some, slice_get-map}}, specs.{List.{slice_get}, Prelude.{Result, Ok, Err, IfOk, OnOk, option_map, slice_index}}}
use Rattle.{df_disk.specs.Told.{Told}, df_layout.specs.declared.damage.Class.{Class}, df_places.specs.Units.{IsSeen, header_at}}
use Rattle.df_format.specs.{declared.header.Header.{Header}, declared.kind.Kind.{Kind}, declared.kind.Kind.TheVariants.{Block as AsBlock, Prepare, Reply, Trailer}, Shown.{class_at, header_or_class, unit_at}, Spelling.{IsCheck}}
use Rattle.df_format.specs.Message as format
use Rattle.df_buffers.specs.{declared.identity.Identity.{Identity}, declared.identity.Wanted.TheVariants.{Checksum}, Sounds.{Holding}}
use Rattle.{df_theory.specs.Units.{BlockPlace, Message, Place, PreparePlace, ReplyPlace, ReplyUnit, Units}, df_opening.specs.Below.{shape}}
use Rattle.df_units.specs.{Bytes.{message_unit}, Meaning.{message_of, number_of, place_of}}
use Rattle.df_mirror.{specs.{declared.ending.Ending.{Ending}, declared.ending.Ending.TheVariants.{First}, declared.superblock.Superblock.{Superblock}, Known.{AreShownBefore, IsDue, IsKnownAt, IsRecordedReply, IsShownAs, PassesTrailer}, Mends.{AnswersMending, AreAt}, Outside.{Outside, Tell, around}, Taking.{HoldsShown, IsFor, MendsUnit, ShowsHeld}, Walks.{content_of_superblock, superblock_units}}, proofs.{Joined.{none_came, none_failed}, Turns.{holds}}}

-- ---- what is seen in a slot

-- what is seen in a slot is a reply of the superblock's boot above those that it records
abbrev pub IsNewer : Superblock → Result Header Class → Type 0
IsNewer b (Ok h) = (h.boot ≡ b.content.boot) × (b.content.replies < h.op)
IsNewer b (Err class) = ⊥

-- the slot shows such a reply
abbrev pub HasNewer : Superblock → Units → ℕ → Type 0
HasNewer b image k = (r : Message) × (image (ReplyPlace k) ≡ Some (ReplyUnit r)) × (r.header.boot ≡ (content_of_superblock b).boot) ×
    ((content_of_superblock b).replies < r.header.op)

-- the reply with this checksum is mended, where it is known if its slot shows nothing newer, all that come before it are shown, and the
-- trailer isn't refused: it is shown then, or something newer is
pub record MendsRecorded (b : Superblock) (k : ℕ) (check : List ℕ) (t o : Told) (old new : Outside)
    (answer : Result ℕ Ending) : Type 0 where
  pub answers : ((HasNewer b (superblock_units b t.shown) k → ⊥)
      → IsRecordedReply (shape b.file) (superblock_units b t.shown) (content_of_superblock b) k (number_of check))
      → AreShownBefore (shape b.file) (superblock_units b t.shown) (content_of_superblock b) Reply (ReplyPlace k)
      → PassesTrailer (shape b.file) (superblock_units b t.shown) (content_of_superblock b)
      → AnswersMending b.file (content_of_superblock b) (AreAt Reply (ReplyPlace k)) t o new.first old.written new.written answer
  pub shown : (u : Told) → new.first ≡ Some u → OnOk answer
      (HasNewer b (superblock_units b u.shown) k ⊎ IsShownAs (superblock_units b u.shown) Reply (ReplyPlace k) (number_of check))

newer_in : (b : Superblock) (k : ℕ) (o : Option format.Message) (class : Class) → IsNewer b (header_or_class o class) → (r : Message) × (message_unit (ReplyPlace k) o ≡ Some (ReplyUnit r)) × (r.header.boot ≡ (content_of_superblock b).boot) × ((content_of_superblock b).replies < r.header.op)
newer_in b k None class newer = absurd newer
newer_in b k (Some u) class newer = (message_of u, refl, newer.0, newer.1)

newer_out : (b : Superblock) (k : ℕ) (o : Option format.Message) (class : Class) (r : Message) → message_unit (ReplyPlace k) o ≡ Some (ReplyUnit r) → r.header.boot ≡ (content_of_superblock b).boot → (content_of_superblock b).replies < r.header.op → IsNewer b (header_or_class o class)
newer_out b k None class r is boot above = absurd (cc)
newer_out b k (Some u) class r is boot above = let same : message_of u ≡ r = cc in
    (ap (λ (m : Message). m.header.boot) same ∙ boot, rw (sym same) at above)

module _ (b : Superblock) (t : Told)
    (k : ℕ) (seen : Result Header Class) (is : seen ≡ header_at b.file.layout b.file.cluster t.shown (place_of (ReplyPlace k))) where
  abbrev Shown : Option format.Message
  Shown = unit_at b.file.layout b.file.cluster t.shown (place_of (ReplyPlace k))

  abbrev AsClass : Class
  AsClass = class_at b.file.layout b.file.cluster t.shown (place_of (ReplyPlace k))

  pub newer_shown : IsNewer b seen → HasNewer b (superblock_units b t.shown) k
  newer_shown newer = newer_in b k Shown AsClass (subst (IsNewer b) is newer)

  pub newer_seen : HasNewer b (superblock_units b t.shown) k → IsNewer b seen
  newer_seen newer = subst (IsNewer b) (sym is) (newer_out b k Shown AsClass newer.0 newer.1 newer.2 newer.3)

-- ---- a reply that is recorded

pub recorded_sum : (b : Superblock) (k : ℕ) (check : List ℕ)
    → slice_get b.content.reply_checksums k ≡ Some check → slice_index (content_of_superblock b).reply_checksums k ≡ number_of check
recorded_sum b k check at = ap (λ (v : ℕ). slice_index (if v == 2 then map number_of b.content.reply_checksums else []) k) b.second
    ∙ get_or_from_slice_get (map number_of b.content.reply_checksums)
    k (number_of check) 0 (slice_get-map number_of b.content.reply_checksums k ∙ ap (option_map number_of) at)

pub reply_due : (b : Superblock) (t : Told) (k sum : ℕ) → IsRecordedReply (shape b.file) (superblock_units b t.shown) (content_of_superblock b) k sum → AreShownBefore (shape b.file) (superblock_units b t.shown) (content_of_superblock b) Reply (ReplyPlace k) → PassesTrailer (shape b.file) (superblock_units b t.shown) (content_of_superblock b)
    → IsDue (shape b.file) (superblock_units b t.shown) (content_of_superblock b) Reply (ReplyPlace k) sum
reply_due b t k sum recorded first passes = record { known = recorded; first = first; trailer = passes; spare = λ lacks. at_kind lacks }
  where
    at_kind : (IsShownAs (superblock_units b t.shown) Reply (ReplyPlace k) sum → ⊥) → (kind : Kind) (at : Place) (other : ℕ) → IsKnownAt (shape b.file) (superblock_units b t.shown) (content_of_superblock b) kind at other → IsShownAs (superblock_units b t.shown) kind at other → at ≡ ReplyPlace k → ⊥
    at_kind lacks Reply (ReplyPlace p) other known shown same = let place : p ≡ k = cc in let sums : other ≡ sum =
        known.sum_is ∙ ap (λ (n : ℕ). slice_index (content_of_superblock b).reply_checksums n) place ∙ sym recorded.sum_is in
        lacks (rw sums at (rw same at shown))
    at_kind lacks Trailer (BlockPlace a) other known shown same = cc
    at_kind lacks AsBlock (BlockPlace a) other known shown same = cc
    at_kind lacks Prepare (PreparePlace s) other known shown same = cc
    at_kind lacks kind at other known shown same = absurd known

module _ (b : Superblock)
    (k : ℕ) (check : List ℕ) (t o : Told) (old : Outside) (tell : Tell t o old) (told : Option Told) (same : told ≡ old.first) where
  abbrev mid : Outside
  mid = around told old.second old.written

  -- the place can't be read
  pub recorded_unread : MendsRecorded b k check t o old mid (Err First)
  recorded_unread = record { answers = λ known first passes. none_failed b.file (content_of_superblock b) (AreAt Reply (ReplyPlace k)) tt t o told old.written old.written First (same ∙ tell.first, refl); shown = λ u is. tt }

  module _ (seen : Result Header Class) (sees : IsSeen b.file.layout b.file.cluster old.first (place_of (ReplyPlace k)) seen) where
    seen_is : seen ≡ header_at b.file.layout b.file.cluster t.shown (place_of (ReplyPlace k))
    seen_is = subst (λ (x : Option Told). IsSeen b.file.layout b.file.cluster x (place_of (ReplyPlace k)) seen) tell.first sees

    -- something newer is shown
    pub recorded_newer : IsNewer b seen → MendsRecorded b k check t o old mid (Ok 0)
    recorded_newer newer = record {
      answers = λ known first passes. none_came b.file (content_of_superblock b)
          (AreAt Reply (ReplyPlace k)) tt t o told old.written old.written (same ∙ tell.first) refl (λ ms n. 0 ≡ length ms) refl;
      shown = λ u there. inl (rw (same_Some _ _ (sym (same ∙ tell.first) ∙ there)) at (newer_shown b t k seen seen_is newer));
    }

    module _ (none : IsNewer b seen → ⊥) (identity : Identity)
        (is : identity ≡ record { layout = b.file.layout; cluster = b.file.cluster; place = place_of (ReplyPlace k); wanted = Checksum check }) (fits : IsCheck check) (new : Outside) where
      on : Tell t o mid
      on = record { first = same ∙ tell.first; second = tell.second; whole = tell.whole; other = tell.other }

      for : IsFor b.file Reply (ReplyPlace k) check identity
      for = record { is = is; stands = tt; fits = fits }

      is_shown : (m : Told) (shelf : Option Holding) (result : Result ℕ Ending)
          → IfOk result (λ n. ShowsHeld b.file Reply (ReplyPlace k) check m.shown shelf) → OnOk
          result (HasNewer b (superblock_units b m.shown) k ⊎ IsShownAs (superblock_units b m.shown) Reply (ReplyPlace k) (number_of check))
      is_shown m shelf (Ok n) it = inr (record { unit = it.2.unit; shown = it.2.shown; of_kind = it.2.of_kind; sum_is = it.2.sum_is })
      is_shown m shelf (Err e) it = tt

      -- nothing newer is, and it is mended
      pub recorded_mended : (shelf : Option Holding) (result : Result ℕ Ending) → MendsUnit Reply identity mid new result
          → IfOk result (λ n. HoldsShown Reply identity told new.first shelf) → MendsRecorded b k check t o old new result
      recorded_mended shelf result mends shown = record {
        answers = λ known first passes. mends b.file (content_of_superblock b) (ReplyPlace k)
            check t o for on (reply_due b t k (number_of check) (known (λ newer. none (newer_seen b t k seen seen_is newer))) first passes);
        shown = λ m there. is_shown m shelf result (holds b Reply (ReplyPlace k) check identity for t o mid new on shelf result shown m there);
      }
