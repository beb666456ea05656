-- Each run of `filemirror` over a sound file is a run that makes no calls.
use Rattle.std.proofs.Common.{◌≡◌, inl, inr, ℕ, List, [], ◌∷◌, ◌++◌, Option, Some, None, Result, Ok, Err, refl, sym, ◌∙◌, ap, subst}
use Rattle.{df_base.specs.{Image.{Image, IsImage}, Log.{Sync, now}}, df_disk.specs.{Adds.{AddsPart}, Told.{Told, after, did}}}
use Rattle.{df_layout.proofs.Laws.{same_layout}, df_format.specs.{Copies.{content_with}, First.{first_content}, declared.kind.Kind.{Kind}}}
use Rattle.df_theory.{specs.{Device.{units_log}, First.{AreMade}, Found.{IsFound}, Holds.{Stands}, Units.{Content, CopyPlace, CopyUnit, Layout as Numbers, Place, Units}, UnitLog.{Synced, UnitLog, now as now_units_of, settled}, View.{View}}, proofs.Laws.{chosen_same, holds_found, no_choice, now_units, one_chosen_law, one_found_law}}
use Rattle.df_units.{specs.{Format.{format_of}, Meaning.{content_of, layout_of}, Wanted.{checksum_of}}, proofs.Laws.{choice_chosen}}
use Rattle.df_damage.proofs.Laws.{super_is_written_as}
use Rattle.df_session.{specs.{Below.{DataFile, shape, told_after}, Following.{MayOpen}, Serving.{format}}, proofs.Laws.{same_file}}
use Rattle.df_mirror.specs.{Known.{IsNext}, Mends.{AnswersMending, AreInOrder, AreMends, Came, Failed, FailsAt, Mend, mirrored_events, under_way, units_shown}, Outside.{Outside, Tell}, Run.{MirrorOutcome, Mirrors}, Walks.{content_of_superblock}, declared.ending.Ending.{Ending}, declared.ending.Ending.TheVariants.{First, Neither, Second, Sink, Unopened}, declared.status.Status.{Status}}
use Rattle.df_lifetime.{specs.Mirrored.{MadeShowsRecords, MirrorIsRun, RecordsReplies, ShowsRecords}, proofs.{HurtLives.{start_stays}, KnownUnits.{none_lacks}, Lives.{every_life_goes_on}, Records.{EndsIn, ends_settled, grows_records}, WordRuns.{looked}}}

-- ---- what is recorded

-- of images that have no view the oldest shows nothing
made_blank : (start : Units) (images : List Units) (c : Content) → AreMade c images → EndsIn start images → (place : Place) → start place ≡ None
made_blank start [] c made ends place = absurd made
made_blank start (image ∷ []) c made ends place = ap (λ (i : Units). i place) (sym ends) ∙ made place
made_blank start (image ∷ before ∷ images) c made ends place = made_blank start (before ∷ images) c made.2 ends place

pub made_shows_records : MadeShowsRecords
made_shows_records layout cluster t makable v found = let log = units_log (format_of layout cluster) t.log in
    let none = made_blank log.start (settled log) (content_of (first_content layout cluster))
    makable.making.being.made (ends_settled log.start log.events) (CopyPlace found.chosen.agreed.first) in
    absurd (let both : None ≡ Some (CopyUnit v.checkpoint.content) = sym none ∙ found.chosen.agreed.at_first in cc)

-- so it is in the view that is found now
module _ (file : DataFile) (view : View) (b : Told) (may : MayOpen file view b) (shows : ShowsRecords file b.log.start) where
  abbrev log : UnitLog
  log = units_log (format file) b.log

  found_now : IsFound (shape file) (now_units_of log) view
  found_now = subst (λ (image : Units). IsFound (shape file) image view) (sym (now_units (format file) b.log.start b.log.events)) may.found

  pub found_records : RecordsReplies view
  found_records = elim may.safe.synced [
    | inl is ↦ rw (one_found_law
        (shape file) (now_units_of log) is.0 view (holds_found (shape file) (now_units_of log) is.0 is.1.grows.0) found_now) at
        (grows_records (shape file) log.start (λ w holds. shows w (holds_found (shape file) log.start w holds))
        (now_units_of log ∷ settled log) is.0 is.1.grows (ends_settled log.start (Synced ∷ log.events)))
    | inr making ↦ absurd (no_choice making.0 (now_units_of log) (settled log) making.1.made view.checkpoint.content found_now.chosen.agreed)
  ]

-- ---- the superblock by which it is mended

-- no known unit is the next to be mended
abbrev NoneNext : DataFile → Content → Image → Type 0
NoneNext file c image = (kind : Kind) (place : Place) (sum : ℕ) → IsNext (shape file) (units_shown file image) c kind place sum → ⊥

module _ (file : DataFile) (view : View) (t o : Told) (old new : Outside) (status : Status) (is : Mirrors t o old new status)
    (whole : IsImage t.shown) (second : file.version ≡ 2) (found : IsFound (shape file) (units_shown file t.shown) view) where
  content_is : content_of_superblock is.base ≡ view.checkpoint.content
  content_is = one_chosen_law (units_shown file t.shown) (content_of_superblock is.base) view.checkpoint.content
      (chosen_same (units_shown is.base.file t.shown) (units_shown file t.shown) (content_of_superblock is.base) (λ n. refl)
      (choice_chosen is.base.file.layout is.base.file.cluster
      t.shown (content_with is.base.content) whole (super_is_written_as is.base.file.version t.shown is.base.content whole is.has.super)))
      found.chosen

  layout_is : (content_of_superblock is.base).layout ≡ layout_of file.layout
  layout_is = ap (λ (c : Content). c.layout) content_is ∙ found.checkpoint.tests.layout

  file_is : is.base.file ≡ file
  file_is = same_file is.base.file file (same_layout is.base.file.layout file.layout (is.has.layout.slots
      ∙ ap (λ (l : Numbers). l.slots) layout_is) (is.has.layout.message_size ∙ ap (λ (l : Numbers). l.message_size) layout_is)
      (is.has.layout.clients ∙ ap (λ (l : Numbers). l.clients) layout_is) (is.has.layout.block_size
      ∙ ap (λ (l : Numbers). l.block_size) layout_is) (is.has.layout.blocks ∙ ap (λ (l : Numbers). l.blocks) layout_is))
      (sym is.has.cluster ∙ ap (λ (c : Content). c.cluster) content_is ∙ found.checkpoint.tests.cluster) (is.base.version ∙ sym second)

  none_next : Stands (units_shown file t.shown) view → RecordsReplies view → NoneNext is.base.file (content_of_superblock is.base) t.shown
  none_next stands records = subst (λ (f : DataFile). NoneNext f (content_of_superblock is.base) t.shown) (sym file_is) (rw content_is
      (λ kind place sum next.
      none_lacks (shape file) (units_shown file t.shown) view second found stands records kind place sum next.known next.lacks))

-- ---- a run

module _ (file : DataFile) (c : Content) (t o : Told) (none : NoneNext file c t.shown) where
  -- nothing is mended
  no_mends : (ms : List Mend) → AreMends file c o.shown (did Sync t) ms → ms ≡ []
  no_mends [] are = refl
  no_mends (m ∷ ms) are = absurd (none m.kind m.place (checksum_of m.unit) are.0.next)

  -- nor begun
  none_begun : (ms : List Mend) (one : Option Mend) → AreMends file c o.shown (did Sync t) (ms ++ under_way one) → (ms ≡ []) × (one ≡ None)
  none_begun [] None are = (refl, refl)
  none_begun [] (Some m) are = absurd (none m.kind m.place (checksum_of m.unit) are.0.next)
  none_begun (m ∷ ms) one are = absurd (none m.kind m.place (checksum_of m.unit) are.0.next)

  came_barred : (Of : List Mend → Type 0) (new : Option Told) (old text : Option (List ℕ)) (Last : List Mend → Told → Type 0)
      → Came file c Of (did Sync t) o new old text Last → new ≡ Some (did Sync t)
  came_barred Of new old text Last came = came.after_is ∙ ap Some
      (came.does.told ∙ ap (λ (ms : List Mend). told_after (mirrored_events file ms) (did Sync t)) (no_mends came.mends came.does.are))

  -- where no call of a mend was made, nothing was told
  failed_barred : (e : Ending) (new : Option Told) (said text : Option (List ℕ))
      → FailsAt file e None (did Sync t) new said text → new ≡ Some (did Sync t)
  failed_barred First new said text fails = fails.0
  failed_barred Second new said text fails = fails.0
  failed_barred Sink new said text fails = absurd fails
  failed_barred (Neither place class) new said text fails = absurd fails
  failed_barred (Unopened e) new said text fails = absurd fails

  fails_barred : (Of : List Mend → Type 0) (new : Option Told) (old text : Option (List ℕ)) (e : Ending)
      → Failed file c Of (did Sync t) o new old text e → new ≡ Some (did Sync t)
  fails_barred Of new old text e failed = let both = none_begun failed.mends failed.one failed.are in failed_barred e new failed.said text
      (rw both.1 at (rw both.0 at failed.fails))

  pub mending_barred : (Of : List Mend → Type 0) (new : Option Told) (old text : Option (List ℕ)) (result : Result ℕ Ending)
      → AnswersMending file c Of (did Sync t) o new old text result → new ≡ Some (did Sync t)
  mending_barred Of new old text (Ok count) answers = came_barred Of new old text _ answers
  mending_barred Of new old text (Err (Neither place class)) answers = came_barred Of new old text _ answers
  mending_barred Of new old text (Err (Unopened e)) answers = came_barred Of new old text _ answers
  mending_barred Of new old text (Err First) answers = fails_barred Of new old text First answers
  mending_barred Of new old text (Err Second) answers = fails_barred Of new old text Second answers
  mending_barred Of new old text (Err Sink) answers = fails_barred Of new old text Sink answers

-- ---- the law

module _ (file : DataFile) (view : View) (t : Told) (second : file.version ≡ 2) (found : IsFound (shape
    file) (units_shown file t.shown) view) (stands : Stands (units_shown file t.shown) view) (records : RecordsReplies view) where
  outcome_barred : (o : Told) (old new : Outside) (status : Status)
      → Tell t o old → MirrorOutcome t o old new status → AddsPart (Sync ∷ []) (Some t) new.first
  outcome_barred o old new status tell (inl nothing) = elim nothing.undone.told [ inl same ↦ inl (same ∙ tell.first) | inr barrier ↦ inr (barrier ∙ ap (λ (x : Option Told). after Sync x) tell.first) ]
  outcome_barred o old new status tell (inr (inl refuses)) = inr refuses.barrier
  outcome_barred o old new status tell (inr (inr is)) =
      inr (mending_barred is.base.file (content_of_superblock is.base) t o (none_next file view t o old new status
      is tell.whole second found stands records) AreInOrder new.first old.written is.mirrored.text is.mirrored.result is.mirrored.answers)

pub mirror_is_run : MirrorIsRun
mirror_is_run file first b t n chapters life begun chance same ran = let opens = every_life_goes_on file first b chapters life chance in
    let shows : now b.log ≡ t.shown = (λ i sector. sym (opens.may.honest.shows sector) i) ∙ same in
    let start : ShowsRecords file b.log.start = rw (sym (start_stays file first b chapters life)) at begun in
    let found : IsFound (shape file) (units_shown file t.shown) opens.view = rw shows at opens.may.found in
    let stands : Stands (units_shown file t.shown) opens.view = rw (← same) opens.stands in
    let part : AddsPart (Sync ∷ []) (Some t) ran.new.first =
    outcome_barred file opens.view t opens.may.version found stands
    (found_records file opens.view b opens.may start) ran.second ran.old ran.new ran.status ran.tell (ran.runs t ran.second ran.tell) in
    let run = looked t n ran.new.first ran.to part in (run.0, run.1, rw ran.to at part)
