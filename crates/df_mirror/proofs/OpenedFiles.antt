-- A mended file is opened as it was left.
use Rattle.{std.proofs.Common.{◌≡◌, ◌⊎◌, inl, inr, ℕ, List, [], ◌∷◌, Some, refl, sym, ◌∙◌, ap, arith}, df_disk.specs.Told.{Told, did}}
use Rattle.{df_base.specs.{Image.{Image}, Log.{Log, Sync}}, df_format.specs.declared.kind.Kind.{Kind}, df_checkpoint.specs.Below.{parse_of}}
use Rattle.df_base.specs.Log as logs
use Rattle.df_layout.specs.declared.places.Zone.TheVariants.{ClientReplies, Superblock, WalHeaders, WalPrepares}
use Rattle.df_theory.{specs.{Chance.{InPool}, Copies.{IsChosen}, Found.{IsFound}, Holds.{Holds}, UnitLog.{UnitLog, now}, Units.{Content, CopyPlace, HeaderPlace, Message, Place, PreparePlace, ReplyPlace, ReplyUnit, Units}, View.{View, boot_of}}, proofs.Laws.{chosen_same, holds_found, now_units, one_found_law}}
use Rattle.df_units.{specs.{Format.{format_of}, Meaning.{layout_of}, Wanted.{IsOfKind, checksum_of}}, proofs.Laws.{of_places}}
use Rattle.df_history.{specs.Histories.{InHistoryPool, IsLived, MayHurtCopies, MayStart}, proofs.Laws.{choice_stays_law, synced_settled}}
use Rattle.df_damage.specs.Histories as histories
use Rattle.df_damage.{specs.Histories.{MayReopen, units_logs}, proofs.Laws.{found_is_not_refused_as}}
use Rattle.df_opening.specs.Below.{DataFile, shape}
use Rattle.df_mirror.{specs.{Known.{AllShown, IsNamedPrepare, IsRecordedReply}, Laws.{HasWoken, IsHurtKnown, MirroredIsOpened, NoneCameBack}, Mends.{units_shown}}, proofs.{OpenedKnown.{reply_of}, OpenedPasts.{raised_own}, OpenedPlaces.{IsMendedAt, known_prepare, known_reply, mends_left, no_copy, no_header, place_left}, OpenedViews.{IsNamedSlot, IsRecordedAnew, ShowsLeft, ShowsOwn, left_holds}}}

-- after mends a place shows what it did, or a unit that was mended there
abbrev IsMendedOr : DataFile → Content → (old new : Image) → Place → Type 0
IsMendedOr file c old new place = (units_shown file new place ≡ units_shown file old place)
    ⊎ IsMendedAt file c place (units_shown file old place) (units_shown file new place)

named_slot : (file : DataFile) (image : Units) (c : Content) (s sum : ℕ)
    → IsNamedPrepare (shape file) image c s sum → IsNamedSlot (shape file) c s
named_slot file image c s sum named = (named.op, named.above, omega (arith, named.count), named.slot_is)

-- ---- what was left

module _ (file : DataFile) (c : Content)
    (t : Told) (hurt : IsHurtKnown file c t) (shown : Image) (mended : (place : Place) → IsMendedOr file c t.shown shown place) where
  abbrev was : Units
  was = units_shown file (logs.now t.log)

  header_left : (s : ℕ) → units_shown file shown (HeaderPlace s) ≡ was (HeaderPlace s)
  header_left s = elim (mended (HeaderPlace s)) [
    | inl same ↦ elim (place_left file c t hurt (HeaderPlace s) (λ zone. let both : WalHeaders ≡ Superblock = zone in cc)) [
      | inl left ↦ same ∙ left
      | inr known ↦ absurd (no_header (shape file) was c known.0 s known.1 known.2)
    ]
    | inr m ↦ absurd (no_header (shape file) (units_shown file m.first.image) c m.first.kind s m.first.sum m.first.known)
  ]

  prepare_left : (s : ℕ) → (units_shown file shown (PreparePlace s) ≡ was (PreparePlace s)) ⊎ IsNamedSlot (shape file) c s
  prepare_left s = elim (mended (PreparePlace s)) [
    | inl same ↦ elim (place_left file c t hurt (PreparePlace s) (λ zone. let both : WalPrepares ≡ Superblock = zone in cc)) [
      | inl left ↦ inl (same ∙ left)
      | inr known ↦ inr (named_slot file was c s known.1 (known_prepare (shape file) was c known.0 s known.1 known.2))
    ]
    | inr m ↦ inr (named_slot file (units_shown file m.first.image)
        c s m.first.sum (known_prepare (shape file) (units_shown file m.first.image) c m.first.kind s m.first.sum m.first.known))
  ]

  reply_place : (k : ℕ) → (units_shown file t.shown (ReplyPlace k) ≡ was (ReplyPlace k)) ⊎ ((sum : ℕ) × IsRecordedReply (shape file) was c k sum)
  reply_place k = elim (place_left file c t hurt (ReplyPlace k) (λ zone. let both : ClientReplies ≡ Superblock = zone in cc)) [
    | inl left ↦ inl left
    | inr known ↦ inr (known.1, (known_reply (shape file) was c known.0 k known.1 known.2).1)
  ]

  recorded_anew : (k : ℕ) → IsMendedAt file c (ReplyPlace k)
      (units_shown file t.shown (ReplyPlace k)) (units_shown file shown (ReplyPlace k)) → IsRecordedAnew was (units_shown file shown) c k
  recorded_anew k m = let first = known_reply (shape file) (units_shown file m.first.image) c m.first.kind k m.first.sum m.first.known in
      let last = known_reply (shape file) (units_shown file m.last.image) c m.last.kind k (checksum_of m.last.unit) m.last.known in
      let r = reply_of m.last.unit (rw last.0 at m.last.of_kind) in record {
        reply = r.0;
        shown = m.last.new_is ∙ ap Some r.1;
        sum = ap checksum_of (sym r.1) ∙ last.1.sum_is;
        no_reply = λ q at boot. elim (reply_place k) [
          | inl left ↦ first.1.no_reply q (m.first.old_is ∙ left ∙ at) boot
          | inr known ↦ known.1.no_reply q at boot
        ];
      }

  reply_left : (k : ℕ) → (units_shown file shown (ReplyPlace k) ≡ was (ReplyPlace k))
      ⊎ IsRecordedAnew was (units_shown file shown) c k ⊎ ((sum : ℕ) × IsRecordedReply (shape file) was c k sum)
  reply_left k = elim (mended (ReplyPlace k)) [
    | inl same ↦ elim (reply_place k) [ inl left ↦ inl (same ∙ left) | inr known ↦ inr (inr known) ]
    | inr m ↦ inr (inl (recorded_anew k m))
  ]

  pub shows_left : ShowsLeft (shape file) was (units_shown file shown) c
  shows_left = record { headers = header_left; prepares = prepare_left; replies = reply_left }

-- ---- what is found

module _ (file : DataFile) (view : View) (t : Told) (older : List Log)
    (shown : Image) (found : IsFound (shape file) (units_shown file (logs.now t.log)) view) (may : MayReopen file t.log older shown) where
  abbrev log : UnitLog
  log = histories.unit_log_in file (logs.add Sync t.log)

  now_is : now log ≡ units_shown file (logs.now t.log)
  now_is = now_units (format_of file.layout file.cluster) t.log.start (Sync ∷ t.log.events)

  starts : MayStart log (units_logs file older) (units_shown file shown)
  starts = record {
    settled_is = synced_settled (histories.unit_log_in file t.log);
    chance = may.chance;
    copies = rw now_is may.copies;
  }

  -- the superblock that is chosen is the view's, which the log left
  pub stays : (c : Content) → IsChosen (units_shown file shown) c → (c ≡ view.checkpoint.content) × Holds (shape file) (now log) view
  stays c chosen =
      let from = choice_stays_law (shape file) log (units_logs file older) (units_shown file shown) c may.lived starts chosen in
      let same : from.view ≡ view = one_found_law (shape file) (units_shown file (logs.now t.log))
      from.view view (holds_found (shape file) (units_shown file (logs.now t.log)) from.view (rw now_is at from.holds)) found in
      (from.content ∙ ap (λ (v : View). v.checkpoint.content) same, rw same at from.holds)

  own_by : (rest : List Log) → IsLived (shape file) (log ∷ units_logs file rest)
      → HasWoken file t.log rest → Holds (shape file) (now log) view → (k : ℕ) (r : Message) → r.header.boot ≡ boot_of view
      → InHistoryPool (log ∷ units_logs file rest) (ReplyPlace k) (ReplyUnit r) → InPool log (ReplyPlace k) (ReplyUnit r)
  own_by [] lived woken holds k r boot (inl pool) = pool
  own_by [] lived woken holds k r boot (inr none) = absurd none
  own_by (before ∷ rest) lived woken holds k r boot pool = raised_own (shape file)
      (histories.unit_log_in file t.log) (histories.unit_log_in file before) (units_logs file rest) view woken lived holds k r boot pool

  module _ (hurt : IsHurtKnown file view.checkpoint.content t) (own : HasWoken file t.log older ⊎ NoneCameBack view (units_shown file shown)) (mended : (place : Place) → IsMendedOr file view.checkpoint.content t.shown shown place)
      (chosen : IsChosen (units_shown file shown) view.checkpoint.content)
      (all : AllShown (shape file) (units_shown file shown) view.checkpoint.content) where
    own_replies : ShowsOwn log (units_shown file shown) view ⊎ NoneCameBack view (units_shown file shown)
    own_replies = elim own [
      | inl woken ↦ inl (λ k r at boot. own_by
          older may.lived woken (stays view.checkpoint.content chosen).1 k r boot (may.chance.pooled (ReplyPlace k) (ReplyUnit r) at))
      | inr none ↦ inr none
    ]

    pub mended_found : IsFound (shape file) (units_shown file shown) view
    mended_found = holds_found (shape file) (units_shown file shown) view
        (left_holds (shape file) may.version log (units_logs file older) view (units_shown file shown) may.lived starts (stays view.checkpoint.content chosen).1 (of_places file.layout file.cluster file.named (parse_of (layout_of file.layout)) shown may.whole) chosen all
        (rw (sym now_is) at (shows_left file view.checkpoint.content t hurt shown mended)) own_replies)

-- ---- the law

-- the copies are those that were shown before the mends
copy_same : (file : DataFile) (c : Content) (old new : Image) → ((place : Place) → IsMendedOr file c old new place)
    → (n : ℕ) → units_shown file new (CopyPlace n) ≡ units_shown file old (CopyPlace n)
copy_same file c old new mended n = elim (mended (CopyPlace n)) [
  | inl same ↦ same
  | inr m ↦ absurd (no_copy (shape file) (units_shown file m.first.image) c m.first.kind n m.first.sum m.first.known)
]

pub mirrored_is_opened : MirroredIsOpened
mirrored_is_opened file view c second t n older ms found unspent hurt may own whole chosen are is all = let mended : (place : Place)
    → IsMendedOr file c t.shown n.shown place = λ place. rw (sym is) at (mends_left file c second (did Sync t) ms are whole place) in
    let stays_chosen : IsChosen (units_shown file n.shown) c =
    chosen_same (units_shown file t.shown) (units_shown file n.shown) c (copy_same file c t.shown n.shown mended) chosen in
    let same : c ≡ view.checkpoint.content = (stays file view t older n.shown found may c stays_chosen).0 in
    let opened : IsFound (shape file) (units_shown file n.shown) view =
    mended_found file view t older n.shown found may hurt own (rw same at mended) (rw same at stays_chosen) (rw same at all) in
    (opened, found_is_not_refused_as 2 file n.shown view (inr refl) may.version unspent may.whole opened)
